-- Document 02, No. 1: the reason for the bytes that a ratio takes.
--   xor_reason p x     the xor form at place p, where x is the xor: its leading and its trailing zero bytes
--   reason_of v w      why v, against the window w, newest first, takes the bytes that it takes
--   window_at vs i     the window of the ratio of index i among the ratios vs
--   explain_tests vs i the tests of the call in their order: 3, 22
--   reason_by f r      the refusal f, or the reason r where there is none
--   explained vs i     the whole answer: the reason for the ratio of index i, or the refusal
use Rattle.std.specs.Prelude.{not, cond, Result, Ok, Err, List, [], ◌∷◌, ℕ, leb, ltb, eqb, length, get_or, take}
use Rattle.std.specs.Int.Bits.{bit_xor}
use Rattle.limits.specs.Points.{max_points}
use Rattle.refusals.specs.declared.Refusal.{Refusal}
use Rattle.refusals.specs.Tests.{Test, test, first_of, refused}
use Rattle.ratio_format.specs.Zeros.{lead_zeros, trail_zeros}
use Rattle.ratio_format.specs.Choice.{find, best}
use Rattle.ratio_format.specs.Windows.{window_size, window_of}
use Rattle.reasons.specs.declared.Reason.{Reason}
use Rattle.reasons.specs.declared.Reason.TheVariants.{Reference, Xor, Exception, Empty}

-- the two counts of the xor
abbrev pub xor_reason : ℕ → ℕ → Reason
xor_reason p x = Xor p (lead_zeros x) (trail_zeros x)

-- equal to a ratio of the window; else the best xor where its sum is 2 or more; else an exception, with the best sum if there is one
unfoldable pub reason_of : ℕ → List ℕ → Reason
reason_of v w =
    cond (ltb (find v w) (length w))
    (Reference (find v w))
    (cond (leb 2 (best v w).sum)
    (xor_reason (best v w).place (bit_xor v (get_or w (best v w).place 0)))
    (cond (eqb (length w) 0) Empty (Exception (best v w).sum)))

-- the ratios before it, newest first, as many as our window holds
abbrev pub window_at : List ℕ → ℕ → List ℕ
window_at vs i = window_of window_size (take i vs)

-- too many ratios; an index that is not below their number
abbrev pub explain_tests : List ℕ → ℕ → List Test
explain_tests vs i = test (ltb max_points (length vs)) 3 0 ∷ test (not (ltb i (length vs))) 22 0 ∷ []

-- the refusal, or the reason
abbrev pub reason_by : Refusal → Reason → Result Reason Refusal
reason_by f r = cond (refused f) (Err f) (Ok r)

-- the whole answer
unfoldable pub explained : List ℕ → ℕ → Result Reason Refusal
explained vs i = reason_by (first_of (explain_tests vs i)) (reason_of (get_or vs i 0) (window_at vs i))
