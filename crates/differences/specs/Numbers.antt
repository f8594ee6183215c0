-- A difference of two records as numbers: document 02, No. 7, for each case of the enum.
--   no_kind                no kind of a ratio: all numbers are 0
--   property_number p      the number of the property p: 1 the rate, 2 the side, 3 the count, 4 the form
--   which_number w         the number of the record w: 1 the first, 2 the second
--   plain_numbers w i a b  what differs, w, at the index i, with the values a and b and no kinds
--   difference_numbers d   0 for no difference; the number of a property with both values; 5 with the index and both positions; 6 with the index, the
--                          bits and the kinds of both ratios; 7 with the number of points that only the longer run has; all else is 0
--   overall_numbers h      the same of each difference of h, or the refusal in their place
use Rattle.std.specs.Prelude.{ℕ, Option, Some, None, Result, Ok, Err}
use Rattle.kind.specs.declared.KindAnswer.{KindAnswer}
use Rattle.kind.specs.Numbers.{zero_float, kind_numbers}
use Rattle.differences.specs.declared.Property.{Property}
use Rattle.differences.specs.declared.Property.TheVariants.{Rate, Side, Count, Form}
use Rattle.differences.specs.declared.Difference.{Difference}
use Rattle.differences.specs.declared.Difference.TheVariants.{InProperty, Position, Ratio, More}
use Rattle.differences.specs.declared.OverallDifferences.{OverallDifferences}
use Rattle.differences.specs.declared.Which.{Which}
use Rattle.differences.specs.declared.Which.TheVariants.{First, Second}
use Rattle.differences.specs.declared.RefusedRecord.{RefusedRecord}
use Rattle.differences.specs.declared.DifferenceAnswer.{DifferenceAnswer}
use Rattle.differences.specs.declared.OverallAnswer.{OverallAnswer}

-- all 0
abbrev pub no_kind : KindAnswer
no_kind = record { kind = 0; negative = 0; value = zero_float; bits = 0 }

-- in their order
abbrev pub property_number : Property → ℕ
property_number Rate = 1
property_number Side = 2
property_number Count = 3
property_number Form = 4

-- in their order
abbrev pub which_number : Which → ℕ
which_number First = 1
which_number Second = 2

-- without kinds
abbrev pub plain_numbers : ℕ → ℕ → ℕ → ℕ → DifferenceAnswer
plain_numbers w i a b = record { what = w; index = i; first = a; second = b; first_kind = no_kind; second_kind = no_kind }

-- the numbers of each case
abbrev pub difference_numbers : Option Difference → DifferenceAnswer
difference_numbers None = plain_numbers 0 0 0 0
difference_numbers (Some (InProperty p a b)) = plain_numbers (property_number p) 0 a b
difference_numbers (Some (Position i t u)) = plain_numbers 5 i t u
difference_numbers (Some (Ratio i v k w l)) = record { what = 6; index = i; first = v; second = w; first_kind = kind_numbers k; second_kind = kind_numbers l }
difference_numbers (Some (More n)) = plain_numbers 7 0 n 0

-- of a refusal each difference is 0
abbrev pub overall_numbers : Result OverallDifferences RefusedRecord → OverallAnswer
overall_numbers (Ok h) = record {
  number = 0;
  place = 0;
  which = 0;
  rate = difference_numbers h.rate;
  side = difference_numbers h.side;
  count = difference_numbers h.count;
  form = difference_numbers h.form;
  more = difference_numbers h.more;
}
overall_numbers (Err f) = record {
  number = f.refusal.number;
  place = f.refusal.place;
  which = which_number f.which;
  rate = difference_numbers None;
  side = difference_numbers None;
  count = difference_numbers None;
  form = difference_numbers None;
  more = difference_numbers None;
}
