-- Laws of what the program prints and writes: the line of an answer, what a move into room for every record leaves, and the response that is told of it.
use mathlib.Core.Bool.{Bool, true, false}
use Rattle.std.specs.Prelude.{Option, IfSome}
use Rattle.std.specs.Bool.{then_some}
use mathlib.Core.Path.{◌≡◌, refl, sym, ap, ap₂, ◌∙◌, subst}
use mathlib.Core.List.{List}
use Prim.Native.Nat.{ℕ, ◌≤◌}
use borrow.Author.Tests.{ne_eqb, eq-eqb}
use lib.Dec.{eqb}
use lib.ListN.{length, take, drop, replicate, length-replicate}
use lib.Seq.{take_all, take_at, length-take-le}
use Rattle.outputs.specs.Outputs.{zeros, over}
use Rattle.refusals.specs.Tests.{first_of}
use Rattle.position_format.specs.declared.Form.{Form}
use Rattle.record_format.specs.declared.MoveAnswer.{MoveAnswer}
use Rattle.record_format.specs.Checking.{run_in}
use Rattle.record_format.specs.Moves.{Move, in_form, move_tests, move_of}
use Rattle.record_format.specs.Runs.{record_of}
use Rattle.record_format.specs.Sizes.{max_record}
use Rattle.record_format.proofs.MoveClaims.{moved_within}
use Rattle.text.specs.Lines.{refused_line}
use Rattle.inputs.specs.Inputs.{input_limit}
use Rattle.move_record.specs.declared.Outcome.{Outcome}
use Rattle.move_record.specs.Words.{form_asked}
use Rattle.move_record.specs.Lines.{moved_line, answer_line}
use Rattle.move_record.specs.Printed.{blank_record, move_input, standard_output, move_response, response_to, response, Told}

-- ---- the line

module _ (a : MoveAnswer) where
  pub line_refused : (a.number ≡ 0 → ⊥) → refused_line a.number a.place ≡ answer_line a
  unfolding answer_line
  line_refused d = sym (rw (ne_eqb a.number 0 d))

  pub line-moved : a.number ≡ 0 → moved_line a.used a.length ≡ answer_line a
  unfolding answer_line
  line-moved e = sym (rw (eq-eqb a.number 0 e))

-- ---- a move into room for every record

-- an input that is not cut
whole : (f : Form) (s o : List ℕ) → length s ≤ input_limit → o ≡ blank_record → move_of f s o ≡ move_input f s
whole f s o short e = ap (move_of f s) e ∙ ap (λ (l : List ℕ). move_of f l blank_record) (sym (take_all input_limit s short))

-- such room, filled with zeros
blank_zeros : zeros blank_record ≡ blank_record
unfolding blank_record
blank_zeros = ap (λ (n : ℕ). replicate n 0) (length-replicate {A = ℕ} max_record 0)

-- what a move leaves there: the file's bytes at the front, and 0 past them
left : (f : Form) (s : List ℕ) → let m = move_of f s blank_record in m.output ≡ over (take m.answer.length m.output) blank_record
unfolding move_of
left f s = go (eqb (first_of (move_tests f s blank_record)).number 0) refl
  where
    go : (b : Bool) → eqb (first_of (move_tests f s blank_record)).number 0 ≡ b
        → (move_of f s blank_record).output ≡ over (take (move_of f s blank_record).answer.length (move_of f s blank_record).output) blank_record
    go true e =
        let q = record_of (in_form f (run_in s)) in
        rw e (sym (ap (λ (x : List ℕ). over x blank_record) (take_at q (drop (length q) blank_record) (length q) refl)))
    go false e = rw e blank_zeros

-- ---- all but reading, writing and printing

-- of a move
pub move_told : (f : Form) (s o p q : List ℕ) (a : MoveAnswer) (saved : Option ℕ) → length s ≤ input_limit → o ≡ blank_record → length p ≡ length o
    → (a ≡ (move_of f s o).answer) × (p ≡ (move_of f s o).output) → saved ≡ then_some (eqb a.number 0) a.length → q ≡ answer_line a
    → Told (move_response (move_input f s)) (record { stream = standard_output; saved = saved }) p q
move_told f s o p q a saved short blank kept h taken put =
    let e = whole f s o short blank in
    let is : a ≡ (move_input f s).answer = h.0 ∙ ap (λ (m : Move). m.answer) e in
    let leaves : p ≡ (move_input f s).output = h.1 ∙ ap (λ (m : Move). m.output) e in
    let within : a.length ≤ length p = subst (λ (n : ℕ). a.length ≤ n) (sym kept) (subst (λ (x : MoveAnswer). x.length ≤ length o) (sym h.0) (moved_within f s o)) in
    let size : a.length ≡ length (take (move_input f s).answer.length (move_input f s).output) =
    sym (ap₂ (λ (x : MoveAnswer) (z : List ℕ). length (take x.length z)) (sym is) (sym leaves) ∙ length-take-le a.length p within) in
    record {
      stream = refl;
      saved = taken ∙ ap₂ (λ (x : MoveAnswer) (n : ℕ). then_some (eqb x.number 0) n) is size;
      output = leaves ∙ left f (take input_limit s);
      room = subst (λ (x : Option ℕ). IfSome x (λ n. n ≤ length p)) (sym taken) (room (eqb a.number 0) within);
      line = put ∙ ap answer_line is;
    }
  where
    room : {m n : ℕ} (b : Bool) → m ≤ n → IfSome (then_some b m) (λ k. k ≤ n)
    room true h = h
    room false h = tt

-- by the form that is asked for
module _ (n : ℕ) (w s : List ℕ) {a b : Option Form} (asked : a ≡ form_asked n w) (is : a ≡ b) {r : Outcome} {o p : List ℕ} where
  pub told_asked : Told (response_to b s) r o p → Told (response n w s) r o p
  told_asked h = subst (λ (x : Option Form). Told (response_to x s) r o p) (sym is ∙ asked) h

  -- the same where the output was not written to
  pub told_blank : o ≡ blank_record → Told (response_to b s) r blank_record p → Told (response n w s) r o p
  told_blank e h = told_asked (subst (λ (x : List ℕ). Told (response_to b s) r x p) (sym e) h)
