-- Document 01, "Numbers that come back", and document 02, No. 6: what refuses a span, what a span is, whatever way it is computed, and where it is what
-- document 01 had. Each is proved in proofs/Claims.
--   SpanAccepted r ts   a rate of the list, at most 4,096 positions, and each at most 2^62 - 1
--   AcceptsOnly         no other rate and positions are given a span
--   refused_span n p    the answer of the refusal n at the place p
--   RefusesSpan         which refusal each other rate and positions get: 1, then 3, then 4 with the index of the first position out of range
--   span_of z           the answer with the span z
--   IsFloor m z r       m is the largest whole number that is not above z / r
--   RoundsDown          of every accepted rate and positions, two or more, the span is the largest whole number of milliseconds that is not above the exact
--                       quotient
--   ZeroShort           of no points or one it is 0
--   toward_zero z r     z divided by r, rounded toward zero, which is document 01's rounding; the standard term is the truncated quotient
--   answer_with r ts z  the answer of a span, with its tests, if the milliseconds were z
--   Exact r ts          the rate divides the dividend, so that the division leaves no remainder
--   SameSpan            there, or where the last position is not below the first, the answer is document 01's, refusals too
--   OneLess             and everywhere else it has a millisecond less, or is the same refusal
--   SpanFits            of any rate and any positions the span is of less than 2^62 milliseconds, so that 64 bits hold it with its sign
use Rattle.std.specs.Prelude.{true, false, List, [], ◌∷◌, ◌++◌, ◌⊎◌, ◌≡◌, ℕ, ◌^◌, ◌≤◌, ◌<◌, ℤ, pos, nat_abs, ◌-ℤ◌, ◌*ℤ◌, length, get_or, ◌≤ℤ◌}
use Rattle.std.specs.Int.Signed.{quot_z}
use Rattle.lists.specs.Below.{Below}
use Rattle.limits.specs.Rates.{is_rate}
use Rattle.refusals.specs.Tests.{first_of}
use Rattle.span.specs.declared.SpanAnswer.{SpanAnswer}
use Rattle.span.specs.Spans.{first_position, last_position, dividend, span_tests, span_answer, spanned}

-- ---- which spans there are

-- what no test of a span refuses
pub record SpanAccepted (r : ℕ) (ts : List ℕ) : Type 0 where
  pub listed : is_rate r ≡ true
  pub few : length ts ≤ 4096
  pub low : Below (2 ^ 62) ts

-- that each of these is accepted is in RoundsDown and ZeroShort
abbrev pub AcceptsOnly : Type 0
AcceptsOnly = (r : ℕ) (ts : List ℕ) → (spanned r ts).number ≡ 0 → SpanAccepted r ts

-- 0 milliseconds beside number and place
abbrev pub refused_span : ℕ → ℕ → SpanAnswer
refused_span n p = record { number = n; place = p; milliseconds = pos 0 }

-- "Span tests 1, 3, 4", each over the whole run
abbrev pub RefusesSpan : Type 0
RefusesSpan = (r : ℕ) (ts : List ℕ)
    → (is_rate r ≡ false → spanned r ts ≡ refused_span 1 0)
    × (is_rate r ≡ true → 4096 < length ts → spanned r ts ≡ refused_span 3 0)
    × (is_rate r ≡ true → length ts ≤ 4096 → (i : ℕ) → i < length ts → ((j : ℕ) → j < i → get_or ts j 0 < 2 ^ 62) → 2 ^ 62 ≤ get_or ts i 0
    → spanned r ts ≡ refused_span 4 i)

-- ---- what they are

-- number 0 and place 0 with it
abbrev pub span_of : ℤ → SpanAnswer
span_of z = record { number = 0; place = 0; milliseconds = z }

-- for r above 0: n is not above z / r where n times r is not above z
abbrev pub IsFloor : ℤ → ℤ → ℕ → Type 0
IsFloor m z r = ((m *ℤ pos r) ≤ℤ z) × ((n : ℤ) → (n *ℤ pos r) ≤ℤ z → n ≤ℤ m)

-- from the first position a to the last, b, whatever stands between them
abbrev pub RoundsDown : Type 0
RoundsDown = (r a b : ℕ) (mid : List ℕ)
    → let ts = a ∷ (mid ++ (b ∷ [])) in
    SpanAccepted r ts → (m : ℤ) × (spanned r ts ≡ span_of m) × IsFloor m ((pos b -ℤ pos a) *ℤ pos 1000) r

-- where there is no last position beside the first
abbrev pub ZeroShort : Type 0
ZeroShort = (r : ℕ) (ts : List ℕ) → SpanAccepted r ts → length ts ≤ 1 → spanned r ts ≡ span_of (pos 0)

-- ---- beside document 01's rounding

-- the sign has no part in it: -z is rounded to what z is, with the other sign
abbrev pub toward_zero : ℤ → ℕ → ℤ
toward_zero z r = quot_z z (pos r)

-- with the quotient rounded toward zero it is document 01's answer, whole
abbrev pub answer_with : ℕ → List ℕ → ℤ → SpanAnswer
answer_with r ts z = span_answer (first_of (span_tests r ts)) z

-- for some whole number of milliseconds, of any sign
abbrev pub Exact : ℕ → List ℕ → Type 0
Exact r ts = (m : ℤ) × (m *ℤ pos r ≡ dividend ts)

-- "where the division is exact, or the last position is not below the first, nothing changes"
abbrev pub SameSpan : Type 0
SameSpan = (r : ℕ) (ts : List ℕ) → Exact r ts ⊎ (first_position ts ≤ last_position ts) → spanned r ts ≡ answer_with r ts (toward_zero (dividend ts) r)

-- the two conditions are the opposites of those above
abbrev pub OneLess : Type 0
OneLess = (r : ℕ) (ts : List ℕ) → (Exact r ts → ⊥) → last_position ts < first_position ts
    → spanned r ts ≡ answer_with r ts (toward_zero (dividend ts) r -ℤ pos 1)

-- ---- their size

-- of a refusal it is 0
abbrev pub SpanFits : Type 0
SpanFits = (r : ℕ) (ts : List ℕ) → nat_abs (spanned r ts).milliseconds < 2 ^ 62
