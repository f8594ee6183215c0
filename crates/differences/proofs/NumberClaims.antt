-- What a caller from C sees of differences. The numbers of a difference tell it: from them it comes back.
use mathlib.Core.Bool.{cond}
use mathlib.Core.Path.{◌≡◌, refl, sym, ap, ap₂, ◌∙◌}
use lib.Dec.{eqb}
use Rattle.std.proofs.Common.{Option, Some, None, Result, Ok, Err}
use Rattle.refusals.specs.Tests.{refusal}
use lib.Ieee.{of_bits, of_fields}
use Rattle.kind.specs.declared.Kind.{Kind}
use Rattle.kind.proofs.Numbers.{kind_in, kind_back}
use Rattle.differences.specs.declared.Property.TheVariants.{Rate, Side, Count, Form}
use Rattle.differences.specs.declared.Difference.{Difference}
use Rattle.differences.specs.declared.Difference.TheVariants.{InProperty, Position, Ratio, More}
use Rattle.differences.specs.declared.DifferenceAnswer.{DifferenceAnswer}
use Rattle.differences.specs.declared.OverallDifferences.{OverallDifferences}
use Rattle.differences.specs.declared.OverallAnswer.{OverallAnswer}
use Rattle.differences.specs.declared.Which.{Which}
use Rattle.differences.specs.declared.Which.TheVariants.{First, Second}
use Rattle.differences.specs.declared.RefusedRecord.{RefusedRecord}
use Rattle.differences.specs.Overall.{refused_record}
use Rattle.differences.specs.Numbers.{which_number, difference_numbers, overall_numbers}
use Rattle.differences.specs.NumberClaims.{refused_numbers, DifferencesApart, OverallApart, RefusedAlone}
use Rattle.differences.proofs.Overall.{overall_first, overall_second}

-- the difference that has these numbers
abbrev difference_in : DifferenceAnswer → Option Difference
difference_in d =
    let a = d.first in
    let b = d.second in
    cond (eqb d.what 0) None
    (Some (cond (eqb d.what 1) (InProperty Rate a b)
    (cond (eqb d.what 2) (InProperty Side a b)
    (cond (eqb d.what 3) (InProperty Count a b)
    (cond (eqb d.what 4) (InProperty Form a b)
    (cond (eqb d.what 5) (Position d.index a b)
    (cond (eqb d.what 6) (Ratio d.index a (kind_in d.first_kind) b (kind_in d.second_kind)) (More a))))))))

difference_back : (d : Option Difference) → difference_in (difference_numbers d) ≡ d
difference_back None = refl
difference_back (Some (InProperty Rate a b)) = refl
difference_back (Some (InProperty Side a b)) = refl
difference_back (Some (InProperty Count a b)) = refl
difference_back (Some (InProperty Form a b)) = refl
difference_back (Some (Position i t u)) = refl
difference_back (Some (Ratio i v k w l)) = ap₂ (λ (x y : Kind). Some (Ratio i v x w y)) (kind_back k) (kind_back l)
difference_back (Some (More n)) = refl

pub differences_apart : DifferencesApart
differences_apart d e h = sym (difference_back d) ∙ ap difference_in h ∙ difference_back e

-- the same of those that are of no index, or the refusal in their place
abbrev overall_in : OverallAnswer → Result OverallDifferences RefusedRecord
overall_in x =
    cond (eqb x.which 0)
    (Ok (record {
      rate = difference_in x.rate;
      side = difference_in x.side;
      count = difference_in x.count;
      form = difference_in x.form;
      more = difference_in x.more;
    }))
    (Err (record { refusal = refusal x.number x.place; which = cond (eqb x.which 1) First Second }))

refused_back : (f : RefusedRecord) (w : Which) → f.which ≡ w → overall_in (overall_numbers (Err f)) ≡ Err f
refused_back f First e = rw e refl
refused_back f Second e = rw e refl

overall_back : (h : Result OverallDifferences RefusedRecord) → overall_in (overall_numbers h) ≡ h
overall_back (Ok h) = rw (difference_back h.rate, difference_back h.side, difference_back h.count, difference_back h.form, difference_back h.more)
overall_back (Err f) = refused_back f f.which refl

pub overall_apart : OverallApart
overall_apart h k e = sym (overall_back h) ∙ ap overall_in e ∙ overall_back k

-- a refusal, in numbers
refused_is : (f : RefusedRecord) → overall_numbers (Err f) ≡ refused_numbers f.refusal.number f.refusal.place (which_number f.which)
unfolding of_bits of_fields
refused_is f = refl

pub refused_alone : RefusedAlone
refused_alone a b = (
  λ n. ap overall_numbers (sym (overall_first a b n)) ∙ refused_is (refused_record a First),
  λ ok n. ap overall_numbers (sym (overall_second a b ok n)) ∙ refused_is (refused_record b Second),
)
