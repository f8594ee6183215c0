-- What a call answered and left in its outputs, against what it should have.
--   RecordFound k ..    the record past the front of the bytes s, read by k, and its points at the front of each output that has room: ts and vs, which are
--                       now ps and qs
--   Answered a r p q    the numbers r and the outputs p and q are those of the reading a
--   Reads a .. r p q    so it is of a Result; on a refusal nothing is said of the outputs, ts and vs before, which are yet to be cleared
--   Writes w o r p      the same of writing the run w
--   Moves m o r p       and of the move m
use Rattle.std.specs.Prelude.{◌≡◌, List, ℕ, ◌≤◌, length, Result, Ok, Err}
use Rattle.std.proofs.Math.Option.{Option}
use Rattle.refusals.specs.declared.Refusal.{Refusal}
use Rattle.outputs.specs.Outputs.{zeros, over}
use Rattle.record_format.specs.Runs.{Run}
use Rattle.record_format.specs.Reading.{count_in}
use Rattle.record_format.specs.Checking.{run_by, sound_check}
use Rattle.record_format.specs.Fetching.{as_read, Answer, refusal_answer}
use Rattle.record_format.specs.Writing.{write_answer, write_output}
use Rattle.record_format.specs.Moves.{Move, refused_move}
use Rattle.record_format.specs.Answers.{written_answer, check_answer, move_answer}
use Rattle.record_format.specs.declared.Description.{Description}
use Rattle.record_format.specs.declared.Moved.{Moved}
use Rattle.record_format.specs.declared.CheckAnswer.{CheckAnswer}

-- whatever rate was expected
pub record RecordFound (k : ℕ → List ℕ → Option (List ℕ)) (s ts vs ps qs : List ℕ) (d : Description) : Type 0 where
  pub same : check_answer (Ok d) ≡ sound_check s
  pub positions : count_in s ≤ length ts → ps ≡ over (run_by k s).positions ts
  pub ratios : count_in s ≤ length vs → qs ≡ over (run_by k s).ratios vs

-- of a reading
abbrev pub Answered : Answer → CheckAnswer → List ℕ → List ℕ → Type 0
Answered a r p q = (as_read r ≡ a.answer) × (p ≡ a.positions) × (q ≡ a.ratios)

abbrev pub Reads : Answer → List ℕ → List ℕ → Result Description Refusal → List ℕ → List ℕ → Type 0
Reads a ts vs (Ok d) p q = Answered a (check_answer (Ok d)) p q
Reads a ts vs (Err g) p q = (refusal_answer g ts vs ≡ a) × (g.number ≡ 0 → ⊥)

-- of writing
abbrev pub Writes : Run → List ℕ → Result ℕ Refusal → List ℕ → Type 0
Writes w o (Ok n) p = (written_answer (Ok n) ≡ write_answer w o) × (p ≡ write_output w o)
Writes w o (Err g) p = (written_answer (Err g) ≡ write_answer w o) × (zeros o ≡ write_output w o) × (g.number ≡ 0 → ⊥)

-- of a move
abbrev pub Moves : Move → List ℕ → Result Moved Refusal → List ℕ → Type 0
Moves m o (Ok d) p = (move_answer (Ok d) ≡ m.answer) × (p ≡ m.output)
Moves m o (Err g) p = (refused_move g o ≡ m) × (g.number ≡ 0 → ⊥)
