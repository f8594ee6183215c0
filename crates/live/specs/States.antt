-- What making a reader and a step find, in terms of the definitions of their answers.
--   begun_numbers r  the state that a reader starts with, or the refusal of making it, as making answers to C
--   Sought b c r     what a step of a reader of the body b in the state c finds: a ratio and how many bytes it takes, with the answer and the
--                    state that these make, or a refusal, with the answer that it makes and the state as it was
use Rattle.std.specs.Prelude.{◌≡◌, ◌≢◌, List, ℕ, ◌+◌, ◌≤◌, ◌<◌, length, Result, Ok, Err}
use Rattle.limits.specs.Points.{max_points}
use Rattle.refusals.specs.declared.Refusal.{Refusal}
use Rattle.refusals.specs.Tests.{no_refusal}
use Rattle.ratio_format.specs.declared.Cursor.{Cursor}
use Rattle.ratio_format.specs.Windows.{fresh_window, pushed}
use Rattle.ratio_format.specs.Stepping.{step_answer, step_cursor, stepped_numbers}
use Rattle.live.specs.declared.stepping.Begun.{Begun}

-- a refused making leaves the count 0
abbrev pub begun_numbers : Result Cursor Refusal → Begun
begun_numbers (Ok c) = record { refusal = no_refusal; cursor = c }
begun_numbers (Err f) = record { refusal = f; cursor = record { place = 0; count = 0; seen = 0; window = fresh_window } }

-- the ratio v of k bytes ends within the body; a refusal has a number
abbrev pub Sought : List ℕ → Cursor → Result (ℕ × ℕ) Refusal → Type 0
Sought b c (Ok (v, k)) =
    (step_answer b c ≡ stepped_numbers (Ok v))
    × (step_cursor b c ≡ record { place = c.place + k; count = c.count; seen = c.seen + 1; window = pushed c.window v })
    × (c.place + k ≤ length b) × (c.seen < max_points)
Sought b c (Err f) = (step_answer b c ≡ stepped_numbers (Err f)) × (step_cursor b c ≡ c) × (f.number ≢ 0)
