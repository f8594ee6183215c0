-- Document 01, "Stepping": what is said of a reader that holds its body. Proved in proofs/Claims.
--   NextSteps   the next call of a reader is a step through its own body from its own state, and the body stays
--   TwoSteps    a reader that is made and stepped twice answers as making and the first two of successive steps do
use Rattle.std.specs.Prelude.{List, [], ◌∷◌, ◌≡◌, ℕ, ◌^◌, length}
use Rattle.lists.specs.Below.{Below}
use Rattle.ratio_format.specs.Stepping.{made, made_body, made_cursor}
use Rattle.ratio_format.specs.SteppingClaims.{StepsSo, step_answers}
use Rattle.live.specs.declared.reader.Reader.{Reader}
use Rattle.live.specs.Readers.{next_answer, next_reader, first_two}

-- of every reader: the three conditions are those of the types of its body and its window
abbrev pub NextSteps : Type 0
NextSteps = (r : Reader) → Below 256 r.body.now → length r.cursor.window.ratios ≡ 127 → Below (2 ^ 64) r.cursor.window.ratios
    → let q = next_reader r in StepsSo r.body.now r.cursor (next_answer r) q.cursor × (q.body ≡ r.body)

-- of every body and count
abbrev pub TwoSteps : Type 0
TwoSteps = (b : List ℕ) (n : ℕ)
    → ((first_two b n).made ≡ made n) × ((first_two b n).first ∷ (first_two b n).second ∷ [] ≡ step_answers (made_body n b) (made_cursor n) 2)
