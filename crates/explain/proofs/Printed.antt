-- Laws of what the program prints: of an index, of an index that is cut, and by what reading its input left.
pub mod Offsets
use mathlib.Core.Bool.{Bool, true, false, cond}
use mathlib.Core.List.{List, [], ◌++◌}
use mathlib.Core.Option.{Option, none, some}
use mathlib.Core.Path.{◌≡◌, refl, sym, ap, ap₂, subst, ◌∙◌}
use Prim.Native.Nat.{ℕ, ◌+◌, ◌-◌, ◌≤◌, ◌<◌, min}
use native.Mathlib.Omega.{arith}
use borrow.Author.Tests.{lt-ltb, le-ltb, leb-true, leb-false, eq-eqb, ne_eqb}
use lib.Dec.{leb}
use lib.ListN.{length, get_or, take}
use lib.Seq.{take_all}
use Rattle.std.specs.Prelude.{Result, None, Some}
use Rattle.refusals.specs.declared.Refusal.{Refusal}
use Rattle.std.proofs.lemmas.Option.{none-some, same_Some}
use Rattle.limits.specs.Points.{max_points}
use Rattle.ratio_format.specs.Bodies.{coded_ratios}
use Rattle.record_format.specs.Runs.{Run, record_of}
use Rattle.record_format.specs.declared.CheckAnswer.{CheckAnswer}
use Rattle.record_format.proofs.Sizes.{within}
use Rattle.record_format.proofs.Writing.{accepted_fits}
use Rattle.text.specs.Lines.{refused_line}
use Rattle.reasons.specs.declared.Reason.{Reason}
use Rattle.reasons.specs.Reasons.{explained}
use Rattle.reasons.proofs.Reasons.{explained_past}
use Rattle.inputs.specs.Inputs.{input_limit, run_input}
use Rattle.inputs.specs.Readings.{InputRead}
use Rattle.inputs.proofs.Readings.{read_own}
use Rattle.explain.specs.Indexes.{given_index, capped}
use Rattle.explain.specs.Lines.{cost_line, reason_line}
use Rattle.explain.specs.Printed.{body_in, cost_of, offset_of, point_text, index_text, answer_text, printed}
use Rattle.explain.proofs.Printed.Offsets.{body_end}

-- ---- of an index

module _ (b : ℕ) (vs : List ℕ) where
  -- one that a ratio has
  pub point_lines_lem : (i : ℕ) → i < length vs → cost_line i (get_or vs i 0) (cost_of vs i) (offset_of b vs i) ++ reason_line (explained vs i) ≡ point_text b vs i
  point_lines_lem i h = sym (ap (λ (t : Bool). cond t (cost_line i (get_or vs i 0) (cost_of vs i) (offset_of b vs i)) [] ++ reason_line (explained vs i)) (lt-ltb i (length vs) h))

  -- one that no ratio has
  pub point_past : length vs ≤ max_points → (i : ℕ) → length vs ≤ i → refused_line 22 0 ≡ point_text b vs i
  unfolding reason_line
  point_past few i h =
      sym
      (ap₂ (λ (t : Bool) (r : Result Reason Refusal). cond t (cost_line i (get_or vs i 0) (cost_of vs i) (offset_of b vs i)) [] ++ reason_line r)
      (le-ltb i (length vs) h) (explained_past vs i few h))

  -- a text that is none
  pub index_none : (o : Option ℕ) → capped o ≡ None → refused_line 22 0 ≡ index_text b vs o
  index_none none e = refl
  index_none (some n) e = absurd (none-some _ (sym e))

  module _ (few : length vs ≤ max_points) (o : Option ℕ) (i : ℕ) (e : capped o ≡ Some i) where
    -- one that a ratio has is not cut
    pub index_own : i < length vs → point_text b vs i ≡ index_text b vs o
    index_own = own o e
      where
        own : (o : Option ℕ) → capped o ≡ Some i → i < length vs → point_text b vs i ≡ index_text b vs o
        own none e h = absurd (none-some _ e)
        own (some n) e h = let same : i ≡ n = omega (arith, same_Some _ _ e) in ap (point_text b vs) same

    -- one that no ratio has, cut or not
    pub index_past : length vs ≤ i → refused_line 22 0 ≡ index_text b vs o
    index_past = past o e
      where
        past : (o : Option ℕ) → capped o ≡ Some i → length vs ≤ i → refused_line 22 0 ≡ index_text b vs o
        past none e h = refl
        past (some n) e h = point_past few n (omega (arith, same_Some _ _ e))

-- ---- by what reading the input s left

module _ {s : List ℕ} {r : CheckAnswer} {ts vs : List ℕ} (h : InputRead s r ts vs) (t : List ℕ) where
  answered : answer_text (take input_limit s) r (run_input s) t ≡ printed s t
  answered = ap (λ (a : CheckAnswer). answer_text (take input_limit s) a (run_input s) t) h.answered

  -- a refusal
  pub refused_text_lem : (r.number ≡ 0 → ⊥) → refused_line r.number r.place ≡ printed s t
  unfolding answer_text
  refused_text_lem n = sym (rw (ne_eqb r.number 0 n)) ∙ answered

  module _ (ok : r.number ≡ 0) where
    -- the ratios of the run
    abbrev own : List ℕ
    own = take r.count vs

    -- the offset of their body, by the end of the record
    pub body_start : (length (coded_ratios own) ≤ r.size) × (r.size - length (coded_ratios own) ≡ body_in s) × (r.size ≤ input_limit)
    body_start =
        let o = read_own h ok in
        let run : Run = o.0 in
        let f = accepted_fits run o.1.passes in
        let size : r.size ≡ length (record_of run) = ap (λ (a : CheckAnswer). a.size) o.3 in
        let coded : length (coded_ratios own) ≡ length (coded_ratios run.ratios) =
        ap (λ (l : List ℕ). length (coded_ratios l)) (h.ratios ok ∙ ap (λ (q : Run). q.ratios) o.4) in
        let end : body_in s + length (coded_ratios run.ratios) ≡ length (record_of run) =
        subst (λ (l : List ℕ). body_in l + length (coded_ratios run.ratios) ≡ length (record_of run)) (sym o.2.1) (body_end run f o.2.0) in
        (omega arith, omega arith, omega (arith, (within run o.1).1))

    indexed : answer_text (take input_limit s) r (run_input s) t ≡ index_text (body_in (take input_limit s)) (run_input s).ratios (given_index t)
    unfolding answer_text
    indexed = rw (eq-eqb r.number 0 ok)

    -- the text for the index
    pub run_text : (b : ℕ) → b ≡ r.size - length (coded_ratios own) → index_text b own (given_index t) ≡ printed s t
    run_text b e =
        ap₂ (λ (n : ℕ) (l : List ℕ). index_text n l (given_index t)) (e ∙ body_start.1 ∙ ap body_in (sym (take_all input_limit s h.whole))) (h.ratios ok)
        ∙ sym indexed ∙ answered
