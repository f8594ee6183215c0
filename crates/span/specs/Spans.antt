-- Document 01, "Kinds and span" and "Numbers that come back", and document 02, No. 6: the span of a run. The standard term is its duration, signed, in
-- milliseconds.
--   rounded_down z r      z divided by r, a number above 0, and rounded down; the standard term is the floor of the quotient
--   first_position ts     the first position, by index; last_position ts: the last
--   dividend ts           last minus first position, times 1,000
--   milliseconds r ts     the same, divided by the rate r and rounded down
--   span_tests r ts       the tests of a span in their order: 1, 3, 4
--   span_answer f z       the answer by the refusal f, or the milliseconds z
--   spanned r ts          the whole answer
--   span_numbers s        a span, or the refusal in its place, in numbers
use Rattle.std.specs.Prelude.{not, cond, List, [], ◌∷◌, ℕ, ◌-◌, ltb, ℤ, pos, ◌-ℤ◌, ◌*ℤ◌, length, get_or, Result, Ok, Err}
use Rattle.std.specs.Int.Signed.{shr_z}
use Rattle.refusals.specs.declared.Refusal.{Refusal}
use Rattle.limits.specs.Rates.{is_rate}
use Rattle.limits.specs.Points.{max_points, first_high}
use Rattle.refusals.specs.Tests.{Test, test, first_of, refused}
use Rattle.span.specs.declared.SpanAnswer.{SpanAnswer}

-- the rounding of a span: `shr_z` divides by any number, not by powers of 2 alone
abbrev pub rounded_down : ℤ → ℕ → ℤ
rounded_down z r = shr_z z r

-- of no points this and the next are 0
abbrev pub first_position : List ℕ → ℕ
first_position ts = get_or ts 0 0

-- the one with the highest index, which need not be the largest
abbrev pub last_position : List ℕ → ℕ
last_position ts = get_or ts (length ts - 1) 0

-- what the rate divides; of no points or one it is 0, since last and first are then the same number
abbrev pub dividend : List ℕ → ℤ
dividend ts = (pos (last_position ts) -ℤ pos (first_position ts)) *ℤ pos 1000

-- positions and 1,000 times their difference are whole numbers, so this is the one place where something is rounded
abbrev pub milliseconds : ℕ → List ℕ → ℤ
milliseconds r ts = rounded_down (dividend ts) r

-- every position is tested, not only the two that are used
abbrev pub span_tests : ℕ → List ℕ → List Test
span_tests r ts =
    test (not (is_rate r)) 1 0
    ∷ test (ltb max_points (length ts)) 3 0
    ∷ test (ltb (first_high ts) (length ts)) 4 (first_high ts)
    ∷ []

-- the answer by the refusal: a refusal gives 0 milliseconds
abbrev pub span_answer : Refusal → ℤ → SpanAnswer
span_answer f z = record { number = f.number; place = f.place; milliseconds = cond (refused f) (pos 0) z }

-- the whole answer
unfoldable pub spanned : ℕ → List ℕ → SpanAnswer
spanned r ts = span_answer (first_of (span_tests r ts)) (milliseconds r ts)

-- a span, or the refusal in its place, in numbers
abbrev pub span_numbers : Result ℤ Refusal → SpanAnswer
span_numbers (Ok z) = record { number = 0; place = 0; milliseconds = z }
span_numbers (Err f) = record { number = f.number; place = f.place; milliseconds = pos 0 }
