-- Document 01, "Ratios": what is said of the coding. Proved in proofs/Claims.
--   ChoosesForm        the bytes of a ratio, in each of document 01's three cases
--   RatioBytes         a ratio takes 1, 3 to 8, or 9 bytes
--   BodyBytes          the ratios body is a string of bytes
use Rattle.std.specs.Prelude.{List, [], ◌∷◌, ◌⊎◌, ◌≡◌, ℕ, ◌+◌, ◌-◌, ◌*◌, ◌^◌, ◌≤◌, ◌<◌, length, get_or, take, drop}
use Rattle.std.specs.Int.Bits.{bit_xor}
use Rattle.lists.specs.Below.{Below}
use Rattle.bits.specs.Digits.{bytes_of}
use Rattle.ratio_format.specs.Zeros.{lead_zeros, trail_zeros, sum_of}
use Rattle.ratio_format.specs.RatioForms.{coded}
use Rattle.ratio_format.specs.Bodies.{coded_ratios}

-- "v is in the window: one byte, the smallest place p of v"; else the xor with the ratio of "the largest sum; among equals the smallest place p", if that
-- sum is 2 or more: the place plus 128, the trailing count in the high four bits and the middle's length in the low four, and the bytes of x between its
-- zero bytes; else an exception, 255 and the eight bytes of v
abbrev pub ChoosesForm : Type 0
ChoosesForm = (v : ℕ) (w : List ℕ)
    → ((p : ℕ) → p < length w → get_or w p 0 ≡ v → ((q : ℕ) → q < p → get_or w q 0 ≡ v → ⊥) → coded v w ≡ p ∷ [])
    × (((q : ℕ) → q < length w → get_or w q 0 ≡ v → ⊥)
    → ((p : ℕ) → p < length w
    → let x = bit_xor v (get_or w p 0) in
    let lead = lead_zeros x in
    let trail = trail_zeros x in
    let len = 8 - (lead + trail) in
    2 ≤ lead + trail → ((q : ℕ) → q < length w → sum_of v (get_or w q 0) ≤ lead + trail) → ((q : ℕ) → q < p → sum_of v (get_or w q 0) < lead + trail)
    → coded v w ≡ (p + 128) ∷ (trail * 16 + len) ∷ take len (drop lead (bytes_of 8 x)))
    × (((q : ℕ) → q < length w → sum_of v (get_or w q 0) < 2) → coded v w ≡ 255 ∷ bytes_of 8 v))

-- "So a ratio takes 1, 3 to 8, or 9 bytes": of any ratio of 64 bits, against any window of such ratios
abbrev pub RatioBytes : Type 0
RatioBytes = (v : ℕ) (w : List ℕ) → v < 2 ^ 64 → Below (2 ^ 64) w
    → let n = length (coded v w) in
    (n ≡ 1) ⊎ (((3 ≤ n) × (n ≤ 8)) ⊎ (n ≡ 9))

-- each element of the coding of a list of ratios is below 256
abbrev pub BodyBytes : Type 0
BodyBytes = (vs : List ℕ) → Below 256 (coded_ratios vs)
