-- What the program prints, by what reading its inputs left and by the calls' answers.
use mathlib.Core.Bool.{Bool, true, false}
use mathlib.Core.List.{List, [], ◌++◌, append_assoc}
use mathlib.Core.Path.{◌≡◌, refl, sym, ap, ap₂, subst, ◌∙◌}
use Prim.Native.Nat.{ℕ, ◌≤◌, min}
use borrow.Author.Tests.{eq-eqb, ne_eqb, eqb-true, eqb-false}
use lib.Dec.{eqb}
use lib.ListN.{length, take}
use lib.Seq.{take_all}
use Rattle.std.proofs.Common.{Result, Ok, Err}
use Rattle.record_format.specs.Runs.{Run}
use Rattle.record_format.specs.Checking.{run_in, checked}
use Rattle.record_format.specs.declared.CheckAnswer.{CheckAnswer}
use Rattle.inputs.specs.Inputs.{input_limit}
use Rattle.inputs.specs.Readings.{InputRead}
use Rattle.inputs.proofs.Inputs.{reads_whole}
use Rattle.differences.specs.declared.OverallDifferences.{OverallDifferences}
use Rattle.differences.specs.declared.RefusedRecord.{RefusedRecord}
use Rattle.differences.specs.Numbers.{which_number}
use Rattle.differences.specs.Overall.{overall_of}
use Rattle.differences.specs.Comparisons.{Comparison, comparison}
use Rattle.differences.specs.Claims.{MakeUp}
use Rattle.differences.proofs.Comparisons.{made_up}
use Rattle.differences.proofs.Overall.{overall_first, overall_second, overall_both}
use Rattle.differences.specs.Differences.{listed, points_to}
use Rattle.compare.specs.Lines.{line_if, differences_text, refused_in_line}
use Rattle.compare.specs.Pieces.{properties_text, lines_below}
use Rattle.compare.specs.Printed.{comparison_text, printed}
use Rattle.compare.proofs.Lines.{text_append, text_listed, text_then, text_below}

-- ---- the text of a comparison

pub text_refused : (c : Comparison) → (c.number ≡ 0 → ⊥) → comparison_text c ≡ refused_in_line c.number c.place c.which
unfolding comparison_text
text_refused c n = rw (ne_eqb c.number 0 n)

pub text_list : (c : Comparison) → c.number ≡ 0 → comparison_text c ≡ differences_text c.list
unfolding comparison_text
text_list c e = rw (eq-eqb c.number 0 e)

-- a text of three parts, put one after the other
pub joined : {o p q r text : List ℕ} (a b c : List ℕ) → o ≡ [] → p ≡ o ++ a → q ≡ p ++ b → r ≡ q ++ c → a ++ (b ++ c) ≡ text → r ≡ text
joined a b c none first second third whole =
    third
    ∙ ap (λ (l : List ℕ). l ++ c) (second ∙ ap (λ (l : List ℕ). l ++ b) (first ∙ ap (λ (l : List ℕ). l ++ a) none))
    ∙ append_assoc a b c
    ∙ whole

-- ---- by the calls' answers

-- files that are read whole
pub printed-whole : (s t : List ℕ) → length s ≤ input_limit → length t ≤ input_limit → printed s t ≡ comparison_text (comparison s t)
printed-whole s t m n = ap₂ (λ (x y : List ℕ). comparison_text (comparison x y)) (take_all input_limit s m) (take_all input_limit t n)

-- what a check answered, in numbers
pub read_as : {s ts vs : List ℕ} {a b : CheckAnswer} → a ≡ b → InputRead s b ts vs → InputRead s a ts vs
read_as {s} {ts} {vs} e h = subst (λ (a : CheckAnswer). InputRead s a ts vs) (sym e) h

-- neither record was refused, or one was
abbrev Clear : CheckAnswer → CheckAnswer → Result OverallDifferences RefusedRecord → Type 0
Clear a b (Ok h) = (a.number ≡ 0) × (b.number ≡ 0)
Clear a b (Err f) = f.refusal.number ≡ 0 → ⊥

clear : (a b : CheckAnswer) → Clear a b (overall_of a b)
clear a b = go (eqb a.number 0) refl (eqb b.number 0) refl
  where
    go : (o : Bool) → eqb a.number 0 ≡ o → (p : Bool) → eqb b.number 0 ≡ p → Clear a b (overall_of a b)
    go false w p z = let no = eqb-false _ _ w in subst (Clear a b) (overall_first a b no) no
    go true w false z = let no = eqb-false _ _ z in subst (Clear a b) (overall_second a b (eqb-true _ _ w) no) no
    go true w true z =
        let ok = eqb-true _ _ w in
        let fine = eqb-true _ _ z in
        subst (Clear a b) (overall_both a b ok fine) (ok, fine)

module _ {s t : List ℕ} {a b : CheckAnswer} {ts vs us ws : List ℕ} (x : InputRead s a ts vs) (y : InputRead t b us ws) where
  -- what the checks answered, and the runs in the fields
  first_is : a ≡ checked 0 s
  first_is = x.answered ∙ (reads_whole s x.whole).0

  second_is : b ≡ checked 0 t
  second_is = y.answered ∙ (reads_whole t y.whole).0

  made : MakeUp (overall_of a b) (run_in s) (run_in t) a.count b.count (comparison s t)
  made =
      subst (λ (z : CheckAnswer). MakeUp (overall_of z b) (run_in s) (run_in t) z.count b.count (comparison s t)) (sym first_is)
      (subst (λ (z : CheckAnswer). MakeUp (overall_of (checked 0 s) z) (run_in s) (run_in t) (checked 0 s).count z.count (comparison s t)) (sym second_is)
      (made_up s t x.bytes y.bytes (run_in s) (run_in t) (λ _. refl) (λ _. refl)))

  -- a refusal
  pub refused_text_lem : (f : RefusedRecord) → Err f ≡ overall_of a b
      → refused_in_line f.refusal.number f.refusal.place (which_number f.which) ≡ printed s t
  refused_text_lem f is =
      let c : comparison s t ≡ record { number = f.refusal.number; place = f.refusal.place; which = which_number f.which; list = [] } =
      subst (λ (o : Result OverallDifferences RefusedRecord). MakeUp o (run_in s) (run_in t) a.count b.count (comparison s t)) (sym is) made in
      let some : f.refusal.number ≡ 0 → ⊥ = subst (Clear a b) (sym is) (clear a b) in
      sym (printed-whole s t x.whole y.whole ∙ ap comparison_text c ∙ text_refused _ some)

  module _ (h : OverallDifferences) (is : Ok h ≡ overall_of a b) where
    -- two runs, and k points that both have
    run_lines : (k : ℕ) → k ≡ min a.count b.count
        → let r = run_in s in
        let q = run_in t in
        properties_text h ++ (lines_below r.positions r.ratios q.positions q.ratios k ++ line_if h.more) ≡ printed s t
    run_lines k few =
        let r = run_in s in
        let q = run_in t in
        let list = λ (n : ℕ). listed h.rate ++ (listed h.side ++ (listed h.count ++ (listed h.form ++ (points_to r q n ++ listed h.more)))) in
        let c : comparison s t ≡ record { number = 0; place = 0; which = 0; list = list (min a.count b.count) } =
        subst (λ (o : Result OverallDifferences RefusedRecord). MakeUp o r q a.count b.count (comparison s t)) (sym is) made in
        let points = lines_below r.positions r.ratios q.positions q.ratios k ++ line_if h.more in
        let points-are : differences_text (points_to r q k ++ listed h.more) ≡ points =
        text_append (points_to r q k) (listed h.more) ∙ ap₂ (λ (l m : List ℕ). l ++ m) (text_below r q k) (text_listed h.more) in
        append_assoc (line_if h.rate) _ points
        ∙ ap (λ (l : List ℕ). line_if h.rate ++ l)
        (append_assoc (line_if h.side) _ points
        ∙ ap (λ (l : List ℕ). line_if h.side ++ l) (append_assoc (line_if h.count) _ points))
        ∙ sym
        (printed-whole s t x.whole y.whole
        ∙ ap comparison_text c
        ∙ text_list _ refl
        ∙ ap (λ (n : ℕ). differences_text (list n)) (sym few)
        ∙ text_then h.rate _
        ∙ ap (λ (l : List ℕ). line_if h.rate ++ l)
        (text_then h.side _
        ∙ ap (λ (l : List ℕ). line_if h.side ++ l)
        (text_then h.count _
        ∙ ap (λ (l : List ℕ). line_if h.count ++ l) (text_then h.form _ ∙ ap (λ (l : List ℕ). line_if h.form ++ l) points-are))))

    -- neither record was refused
    both_clear : (a.number ≡ 0) × (b.number ≡ 0)
    both_clear = subst (Clear a b) (sym is) (clear a b)

    -- as the points are held
    pub lines_text : (k : ℕ) → k ≡ min a.count b.count
        → {ps rs qs ks : List ℕ} → (ps ≡ take a.count ts) × (rs ≡ take a.count vs) → (qs ≡ take b.count us) × (ks ≡ take b.count ws)
        → properties_text h ++ (lines_below ps rs qs ks k ++ line_if h.more) ≡ printed s t
    lines_text k few first second =
        let r = (reads_whole s x.whole).1 in
        let q = (reads_whole t y.whole).1 in
        rw (
          first.0 ∙ x.positions both_clear.0 ∙ ap (λ (z : Run). z.positions) r,
          first.1 ∙ x.ratios both_clear.0 ∙ ap (λ (z : Run). z.ratios) r,
          second.0 ∙ y.positions both_clear.1 ∙ ap (λ (z : Run). z.positions) q,
          second.1 ∙ y.ratios both_clear.1 ∙ ap (λ (z : Run). z.ratios) q,
        )
        (run_lines k few)
