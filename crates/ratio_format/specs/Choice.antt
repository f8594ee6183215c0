-- Document 01, "Ratios": the choice of a form for a ratio, against the window, newest first. A reference is, in the standard term, a back
-- reference, and an exception a literal.
--   find v w      the smallest place of v in the window; the window's length where it is not in it
--   Best          a place and its sum
--   newer s b     the better of a newer ratio with the sum s and the best b of an older window
--   best v w      the largest sum over the window, at the smallest place that has it; sum 0 of an empty window
--   xor_form p x  the xor form at place p, where x is the xor
--   ratio_form v w  the form: a reference, else the best xor where its sum is 2 or more, else an exception
use Rattle.std.specs.Prelude.{cond, List, [], ◌∷◌, ℕ, ◌+◌, ◌-◌, ◌/◌, ◌^◌, leb, ltb, eqb, length, get_or}
use Rattle.std.specs.Int.Bits.{bit_xor}
use Rattle.ratio_format.specs.declared.RatioForm.{RatioForm}
use Rattle.ratio_format.specs.declared.RatioForm.TheVariants.{Reference, Xor, Exception}
use Rattle.ratio_format.specs.Zeros.{lead_zeros, trail_zeros, sum_of}

-- the smallest place of v
unfoldable pub find : ℕ → List ℕ → ℕ
find v [] = 0
find v (u ∷ w) = cond (eqb v u) 0 (find v w + 1)

-- a place of the window and the sum there
pub record Best : Type 0 where
  pub place : ℕ
  pub sum : ℕ

-- a newer ratio with the sum s before a window whose best is b: of equal sums the newer one, at the smaller place, is taken
abbrev pub newer : ℕ → Best → Best
newer s b = cond (leb b.sum s) (record { place = 0; sum = s }) (record { place = b.place + 1; sum = b.sum })

-- the largest sum, at its smallest place
unfoldable pub best : ℕ → List ℕ → Best
best v [] = record { place = 0; sum = 0 }
best v (u ∷ w) = newer (sum_of v u) (best v w)

-- the trailing count, the middle's length, and the middle: x without its trailing zero bytes
abbrev pub xor_form : ℕ → ℕ → RatioForm
xor_form p x = Xor p (trail_zeros x) (8 - (lead_zeros x + trail_zeros x)) (x / 256 ^ trail_zeros x)

-- the choice
unfoldable pub ratio_form : ℕ → List ℕ → RatioForm
ratio_form v w =
    cond (ltb (find v w) (length w))
    (Reference (find v w))
    (cond (leb 2 (best v w).sum) (xor_form (best v w).place (bit_xor v (get_or w (best v w).place 0))) Exception)
