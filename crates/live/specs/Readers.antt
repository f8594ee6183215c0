-- Document 01, "Stepping": a reader that holds its body, in terms of the definitions over a body and a state.
--   refusal_in m     the refusal of making, or none
--   next_answer r    what the next call of the reader r answers
--   next_reader r    the reader afterwards, over the same body
--   first_two b n    the answers of making a reader of the body b with the count n, and of its first two steps
use Rattle.std.specs.Prelude.{List, ℕ, Result, Ok, Err}
use Rattle.refusals.specs.declared.Refusal.{Refusal}
use Rattle.refusals.specs.Tests.{no_refusal}
use Rattle.ratio_format.specs.declared.StepAnswer.{StepAnswer}
use Rattle.ratio_format.specs.Stepping.{made, made_body, made_cursor, step_answer, step_cursor}
use Rattle.live.specs.declared.reader.Reader.{Reader}
use Rattle.live.specs.declared.reader.Two.{Two}

-- the refusal of making, or none
abbrev pub refusal_in : Result (Unit {0}) Refusal → Refusal
refusal_in (Ok x) = no_refusal
refusal_in (Err f) = f

-- the answer of a step
abbrev pub next_answer : Reader → StepAnswer
next_answer r = step_answer r.body.now r.cursor

-- the body stays
abbrev pub next_reader : Reader → Reader
next_reader r = record { body = r.body; cursor = step_cursor r.body.now r.cursor }

-- the second step is taken from the state that the first left
abbrev pub first_two : List ℕ → ℕ → Two
first_two b n =
    let k = made_body n b in
    let c = made_cursor n in
    record { made = made n; first = step_answer k c; second = step_answer k (step_cursor k c) }
