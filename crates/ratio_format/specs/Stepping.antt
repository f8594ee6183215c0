-- Document 01, "Ratios" (Stepping, and kept states) and "Numbers that come back": reading coded ratios one by one. The standard term is a
-- pull decoder. What document 01 calls a reader's place is the offset in its body of the next form.
--   make_tests n       the test of making a reader with the count n: 15
--   made n             number and place of making
--   made_body n b      the body that the reader then holds
--   made_cursor n      the rest of the reader: place 0, the count, none seen and a fresh window
--   bad_cursor b c     the reader's state is bad
--   next_read b c      the next ratio, read strictly at the reader's place; is_nothing, ratio_of, used_of: whether none was, its bits, its bytes
--   all_given c        as many ratios were given as the count says
--   step_tests b c     the tests of a step in their order: 7, then 8 or 18
--   step_refusal b c   the refusal of a step, the end among them, or none
--   step_answer b c    the answer: number, place and the ratio
--   step_cursor b c    the reader's state afterwards
--   stepped_numbers a  a ratio, or the refusal in its place, in numbers
use Rattle.std.specs.Prelude.{Result, Ok, Err, Bool, true, false, cond, List, [], ◌∷◌, ℕ, ◌+◌, ltb, eqb, length, drop, None}
use Rattle.lists.specs.Compare.{both}
use Rattle.refusals.specs.declared.Refusal.{Refusal}
use Rattle.limits.specs.Points.{max_points}
use Rattle.refusals.specs.Tests.{Test, test, first_of, refused}
use Rattle.ratio_format.specs.declared.Cursor.{Cursor}
use Rattle.ratio_format.specs.declared.StepAnswer.{StepAnswer}
use Rattle.ratio_format.specs.Windows.{fresh_window, held, pushed}
use Rattle.ratio_format.specs.Lives.{bad_window}
use Rattle.ratio_format.specs.Open.{Read, Ratio, strict_one}

-- making tests the count alone, and the body may have any length
abbrev pub make_tests : ℕ → List Test
make_tests n = test (ltb max_points n) 15 0 ∷ []

-- the refusal of making, or none
unfoldable pub made : ℕ → Refusal
made n = first_of (make_tests n)

-- a refused making gives an empty body
unfoldable pub made_body : ℕ → List ℕ → List ℕ
made_body n b = cond (refused (made n)) [] b

-- and count 0
unfoldable pub made_cursor : ℕ → Cursor
made_cursor n = record { place = 0; count = cond (refused (made n)) 0 n; seen = 0; window = fresh_window }

-- the window's fill is not the smaller of 127 and the number seen, the number seen exceeds the reader's count, the count exceeds 4,096, or
-- the place is past the body
abbrev pub bad_cursor : List ℕ → Cursor → Bool
bad_cursor b c =
    cond (bad_window c.window c.seen) true
    (cond (ltb c.count c.seen) true
    (cond (ltb max_points c.count) true
    (ltb (length b) c.place)))

-- the next ratio, read strictly at the reader's place
abbrev pub next_read : List ℕ → Cursor → Read
next_read b c = strict_one (held c.window) (drop c.place b)

-- whether none was read
abbrev pub is_nothing : Read → Bool
is_nothing None = true
is_nothing (Ratio v k) = false

-- the ratio that was read
abbrev pub ratio_of : Read → ℕ
ratio_of None = 0
ratio_of (Ratio v k) = v

-- how many bytes it took
abbrev pub used_of : Read → ℕ
used_of None = 0
used_of (Ratio v k) = k

-- whether all are given
abbrev pub all_given : Cursor → Bool
all_given c = eqb c.seen c.count

-- when all are given, 8 where the body is used up and else 18; before that 18 where no written form of a next ratio stands at the place
abbrev pub step_tests : List ℕ → Cursor → List Test
step_tests b c =
    test (bad_cursor b c) 7 0
    ∷ test (both (all_given c) (eqb c.place (length b))) 8 0
    ∷ test (all_given c) 18 0
    ∷ test (is_nothing (next_read b c)) 18 0
    ∷ []

-- the refusal of a step, the end among them, or none
unfoldable pub step_refusal : List ℕ → Cursor → Refusal
step_refusal b c = first_of (step_tests b c)

-- the answer
unfoldable pub step_answer : List ℕ → Cursor → StepAnswer
step_answer b c =
    let f = step_refusal b c in
    record { number = f.number; place = f.place; ratio = cond (refused f) 0 (ratio_of (next_read b c)) }

-- the state afterwards: unchanged by a refusal
unfoldable pub step_cursor : List ℕ → Cursor → Cursor
step_cursor b c =
    let r = next_read b c in
    cond (refused (step_refusal b c)) c
    (record { place = c.place + used_of r; count = c.count; seen = c.seen + 1; window = pushed c.window (ratio_of r) })

-- a ratio, or the refusal in its place, in numbers
abbrev pub stepped_numbers : Result ℕ Refusal → StepAnswer
stepped_numbers (Ok v) = record { number = 0; place = 0; ratio = v }
stepped_numbers (Err f) = record { number = f.number; place = f.place; ratio = 0 }
