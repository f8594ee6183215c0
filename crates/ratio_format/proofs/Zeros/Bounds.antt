-- Bounds on a sum: 16 at most, and less where the xor is large and its lowest byte is not 0.
use mathlib.Core.Path.{◌≡◌, refl, ap, ◌∙◌}
use Prim.Native.Nat.{ℕ, zero, suc, ◌+◌, ◌-◌, ◌/◌, ◌%◌, ◌^◌, ◌≤◌, ◌<◌}
use native.Mathlib.Nat.{div-one, lt_of_not-le, pow-le-pow_right}
use native.Mathlib.Omega.{arith}
use lib.Bits.{bit_xor, xor_lt}
use lib.Count.{under}
use lib.Dec.{lit<}
use Rattle.ratio_format.specs.Zeros.{equal_sum, zeros_at, lead_zeros, trail_zeros, sum_of}
use Rattle.ratio_format.proofs.Zeros.{low_bytes, trail_bytes, trail_is, lead_le, trail_le, middle_fits}

-- no sum is above 16
pub sum_le : (v u : ℕ) → sum_of v u ≤ equal_sum
unfolding sum_of
sum_le v u = omega (arith, lead_le (bit_xor v u), trail_le (bit_xor v u))

-- a lowest byte other than 0 leaves no trailing zero byte
trail_none : (x : ℕ) → (x % 256 ≡ 0 → ⊥) → trail_zeros x ≡ 0
unfolding zeros_at low_bytes
trail_none x n = trail_is x ∙ go (x % 256) refl
  where
    go : (d : ℕ) → x % 256 ≡ d → under d (trail_bytes 7 (x / 256)) ≡ 0
    go zero e = absurd (n e)
    go (suc d) e = refl

-- and a number from 256 ^ (7 - s) on has at most s leading ones
ends_le : (x s : ℕ) → x < 2 ^ 64 → 256 ^ (7 - s) ≤ x → (x % 256 ≡ 0 → ⊥) → lead_zeros x + trail_zeros x ≤ s
ends_le x s h g n =
    let t = trail_none x n in
    let m = middle_fits x h (omega (arith, lead_le x)) in
    let e : x / 256 ^ trail_zeros x ≡ x = ap (λ (k : ℕ). x / 256 ^ k) t ∙ div-one x in
    omega (
      arith,
      lt_of_not-le (λ (f : s + 1 ≤ lead_zeros x + trail_zeros x).
          omega (arith, pow-le-pow_right {n = 256} (lit< tt) {i = 8 - (lead_zeros x + trail_zeros x)} {j = 7 - s} (omega arith))),
    )

pub sum_under : (v u s : ℕ) → v < 2 ^ 64 → u < 2 ^ 64 → 256 ^ (7 - s) ≤ bit_xor v u → (bit_xor v u % 256 ≡ 0 → ⊥) → sum_of v u ≤ s
unfolding sum_of
sum_under v u s hv hu h n = ends_le (bit_xor v u) s (xor_lt 64 v u hv hu) h n
