-- Laws of xor, and of the sum of two ratios' counts (sum_of): 16 where they are equal, and below 8 where they are not.
use mathlib.Core.Path.{◌≡◌, refl, ap₂, ◌∙◌}
use Prim.Native.Nat.{ℕ, zero, suc, ◌+◌, ◌*◌, ◌/◌, ◌%◌, ◌^◌, ◌≤◌, ◌<◌}
use native.Mathlib.Nat.{lt_of_not-le, mod-lt, div-add-mod'}
use native.Mathlib.Omega.{arith}
use lib.Arith.{bin_ind}
use lib.Bits.{bit_xor, differ, xor_self, xor_add_and, and_le_l, and_le_r, xor_lt, xor_step, xor_shr, xor_mod}
use lib.Dec.{lit<}
use Rattle.bits.specs.Digits.{digits_of}
use Rattle.ratio_format.specs.Zeros.{equal_sum, zeros_at, lead_zeros, trail_zeros, sum_of}
use Rattle.ratio_format.proofs.Zeros.{zeros_apart}

-- only equal numbers have the xor 0
pub xor-zero : (a b : ℕ) → bit_xor a b ≡ 0 → a ≡ b
xor-zero a b e = omega (arith, xor_add_and a b, and_le_l a b, and_le_r a b)

bit_back : (r s : ℕ) → r < 2 → s < 2 → differ (bit_xor r s) s ≡ r
bit_back zero zero h g = refl
bit_back zero (suc zero) h g = refl
bit_back zero (suc (suc s)) h g = absurd (omega arith)
bit_back (suc zero) zero h g = refl
bit_back (suc zero) (suc zero) h g = refl
bit_back (suc zero) (suc (suc s)) h g = absurd (omega arith)
bit_back (suc (suc r)) s h g = absurd (omega arith)

-- xor with the same number twice gives the first number back
pub xor-back : (a b : ℕ) → bit_xor (bit_xor a b) b ≡ a
xor-back a =
    bin_ind (λ (n : ℕ). (b : ℕ) → bit_xor (bit_xor n b) b ≡ n) (λ b. xor_self b)
    (λ n ih b.
    xor_step (bit_xor n b) b
    ∙ ap₂ (λ (x y : ℕ). bit_xor x (b / 2) * 2 + differ y (b % 2)) (xor_shr n b 1) (xor_mod n b 1)
    ∙ ap₂ (λ (x y : ℕ). x * 2 + y) (ih (b / 2)) (bit_back (n % 2) (b % 2) (mod-lt n (lit< tt)) (mod-lt b (lit< tt)))
    ∙ div-add-mod' n 2) a

pub sum_same : (v : ℕ) → sum_of v v ≡ equal_sum
unfolding sum_of zeros_at digits_of lead_zeros trail_zeros
sum_same v = rw xor_self

pub sum_other : (v u : ℕ) → v < 2 ^ 64 → u < 2 ^ 64 → (v ≡ u → ⊥) → sum_of v u < 8
unfolding sum_of
sum_other v u hv hu n =
    zeros_apart (bit_xor v u) (lt_of_not-le (λ (g : bit_xor v u ≤ 0). n (xor-zero v u (omega arith)))) (xor_lt 64 v u hv hu)
