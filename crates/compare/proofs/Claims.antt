-- What the program prints of two records, of equal ones, and of all else.
use mathlib.Core.List.{List, [], ◌∷◌, ◌++◌, cons≢nil}
use mathlib.Core.Path.{◌≡◌, refl, sym, ap, ap₂, ◌∙◌}
use Prim.Native.Nat.{ℕ, zero, suc, ◌-◌}
use native.Mathlib.Omega.{arith}
use lib.ListN.{length, take}
use lib.Seq.{take_all}
use Rattle.lists.proofs.Below.{below_take}
use Rattle.record_format.specs.Runs.{record_of}
use Rattle.record_format.specs.declared.CheckAnswer.{CheckAnswer}
use Rattle.record_format.proofs.Sizes.{within}
use Rattle.inputs.specs.Inputs.{input_limit, check_input, run_input}
use Rattle.inputs.proofs.Inputs.{record_uncut, reads_record, reads_no_other, begins-whole}
use Rattle.differences.specs.declared.Property.TheVariants.{Rate, Side, Count, Form}
use Rattle.differences.specs.declared.Difference.{Difference}
use Rattle.differences.specs.declared.Difference.TheVariants.{InProperty, Position, Ratio, More}
use Rattle.differences.specs.Differences.{differences}
use Rattle.differences.specs.Comparisons.{Comparison, comparison, refused_comparison}
use Rattle.differences.proofs.Claims.{none_own}
use Rattle.differences.proofs.Comparisons.{compares, compares_only, empty_exactly, compared-first, compared-second, comparison_trailing}
use Rattle.compare.specs.Lines.{property_line, position_line, ratio_line, more_line, line_of, differences_text, refused_in_line}
use Rattle.compare.specs.Printed.{comparison_text, printed}
use Rattle.compare.specs.Claims.{PrintsDifferences, PrintsNothing, PrintsFirst, PrintsSecond, PrintsTrailing}
use Rattle.compare.proofs.Printed.{text_refused, text_list}

-- ---- two records

pub prints_differences : PrintsDifferences
prints_differences r q a b x y =
    ap₂ (λ (l m : List ℕ). comparison_text (comparison l m)) (record_uncut r a x) (record_uncut q b y)
    ∙ ap comparison_text (compares r q a b (take (input_limit - length (record_of r)) x) (take (input_limit - length (record_of q)) y))
    ∙ text_list (record { number = 0; place = 0; which = 0; list = differences r q }) refl

-- ---- no text

-- a line has a byte
some_line : (d : Difference) (l : List ℕ) → line_of d ++ l ≡ [] → ⊥
unfolding property_line position_line ratio_line more_line
some_line (InProperty Rate a b) l e = cons≢nil e
some_line (InProperty Side a b) l e = cons≢nil e
some_line (InProperty Count a b) l e = cons≢nil e
some_line (InProperty Form a b) l e = cons≢nil e
some_line (Position i t u) l e = cons≢nil e
some_line (Ratio i v k w m) l e = cons≢nil e
some_line (More k) l e = cons≢nil e

-- so only a list without differences has none
no_text : (l : List Difference) → differences_text l ≡ [] → l ≡ []
unfolding differences_text
no_text [] e = refl
no_text (d ∷ l) e = absurd (some_line d (differences_text l) e)

-- and a refusal has a line
some-refusal : (n p w : ℕ) → refused_in_line n p w ≡ [] → ⊥
unfolding refused_in_line
some-refusal n p w e = cons≢nil e

-- nothing is refused where nothing is printed
nothing_refused : (c : Comparison) → comparison_text c ≡ [] → c.number ≡ 0
nothing_refused c e = go c.number refl
  where
    go : (n : ℕ) → c.number ≡ n → c.number ≡ 0
    go zero q = q
    go (suc n) q = absurd (some-refusal c.number c.place c.which (sym (text_refused c (λ z. omega arith)) ∙ e))

pub prints_nothing : PrintsNothing
unfolding differences_text
prints_nothing s t u v = (
  λ e.
      let l = take input_limit s in
      let m = take input_limit t in
      let bytes = below_take 256 input_limit s u in
      let others = below_take 256 input_limit t v in
      let ok = nothing_refused (comparison l m) e in
      let c = compares_only l m bytes others ok in
      let is = ap (λ (x : Comparison). x.list) c.6 in
      let none = no_text (differences c.0 c.1) (ap differences_text (sym is) ∙ sym (text_list (comparison l m) ok) ∙ e) in
      let h = (empty_exactly l m bytes others).0 (ok, is ∙ none) in
      (h.0, h.1, begins-whole (record_of h.0) s h.2, begins-whole (record_of h.0) t h.3),
  λ h.
      ap₂ printed h.2.1 h.3.1 ∙ prints_differences h.0 h.0 h.1 h.1 h.2.0 h.3.0 ∙ ap differences_text (none_own h.0 h.1),
)

-- ---- refusals

pub prints_first : PrintsFirst
prints_first s t b never =
    let n = reads_no_other s b never in
    (n, ap comparison_text (compared-first (check_input s) (run_input s) (check_input t) (run_input t) n) ∙ text_refused (refused_comparison (check_input s) 1) n)

pub prints_second : PrintsSecond
prints_second r a x t b never =
    let n = reads_no_other t b never in
    let s = record_of r ++ x in
    let ok = ap (λ (y : CheckAnswer). y.number) (reads_record r a x).0 in
    (n, ap comparison_text (compared-second (check_input s) (run_input s) (check_input t) (run_input t) ok n) ∙ text_refused (refused_comparison (check_input t) 2) n)

-- ---- bytes behind a record

pub prints_trailing : PrintsTrailing
prints_trailing r a rest s =
    let t = take input_limit s in
    let cut = record_uncut r a rest in
    let alone = take_all input_limit (record_of r) (omega (arith, (within r a).1)) in
    let h = comparison_trailing r a (take (input_limit - length (record_of r)) rest) t in (
      ap (λ (l : List ℕ). comparison_text (comparison l t)) cut ∙ ap comparison_text h.0 ∙ sym (ap (λ (l : List ℕ). comparison_text (comparison l t)) alone),
      ap (λ (l : List ℕ). comparison_text (comparison t l)) cut ∙ ap comparison_text h.1 ∙ sym (ap (λ (l : List ℕ). comparison_text (comparison t l)) alone),
    )
