-- Bytes far apart: a byte that is not 0 bounds the zero bytes at either end of a number, so two of them bound the sum; and so two ratios
-- whose bytes differ at two places far apart have a small sum.
use mathlib.Core.Path.{◌≡◌, refl, sym, ap, ◌∙◌}
use mathlib.Core.List.{List, [], ◌∷◌}
use Prim.Native.Nat.{ℕ, zero, suc, ◌+◌, ◌-◌, ◌/◌, ◌%◌, ◌^◌, ◌≤◌, ◌<◌}
use native.Mathlib.Nat.{div-div-eq-div-mul, pow-succ'}
use native.Mathlib.Omega.{arith}
use lib.Bits.{bit_xor}
use lib.ListN.{length, get_or}
use Rattle.bits.specs.Digits.{bytes_of, byte_of}
use Rattle.bits.proofs.Digits.{length_digits, byte_digit, get_d_bytes, byte_xor}
use Rattle.ratio_format.specs.Zeros.{zeros_at, lead_zeros, trail_zeros, sum_of}
use Rattle.ratio_format.proofs.Zeros.{low_bytes, lead_is, trail_is}
use Rattle.ratio_format.proofs.Zeros.Sums.{xor-zero}
use Rattle.ratio_search.specs.Apart.{Apart}

-- zeros end at an element that is not 0
zeros_le : (bs : List ℕ) (k : ℕ) → k < length bs → (get_or bs k 0 ≡ 0 → ⊥) → zeros_at bs ≤ k
unfolding zeros_at
zeros_le [] k h n = absurd (omega arith)
zeros_le (zero ∷ bs) zero h n = absurd (n refl)
zeros_le (suc b ∷ bs) zero h n = omega arith
zeros_le (zero ∷ bs) (suc k) h n = omega (arith, zeros_le bs k (omega arith) n)
zeros_le (suc b ∷ bs) (suc k) h n = omega arith

low_length : (n x : ℕ) → length (low_bytes n x) ≡ n
unfolding low_bytes
low_length zero x = refl
low_length (suc n) x = ap suc (low_length n (x / 256))

-- the byte that stands at an index from the lowest
low_at : (n x k : ℕ) → k < n → get_or (low_bytes n x) k 0 ≡ x / 256 ^ k % 256
unfolding low_bytes
low_at zero x k h = absurd (omega arith)
low_at (suc n) x zero h = omega arith
low_at (suc n) x (suc k) h =
    low_at n (x / 256) k (omega arith)
    ∙ ap (λ (y : ℕ). y % 256) (div-div-eq-div-mul x 256 (256 ^ k) ∙ ap (λ (y : ℕ). x / y) (sym (pow-succ' 256 k)))

module _ (x : ℕ) where
  trail_under : (a : ℕ) → a < 8 → (byte_of x a ≡ 0 → ⊥) → trail_zeros x ≤ a
  trail_under a h n =
      rw trail_is (zeros_le (low_bytes 8 x) a (omega (arith, low_length 8 x)) (λ e. n (sym (byte_digit x a) ∙ sym (low_at 8 x a h) ∙ e)))

  lead_under : (b : ℕ) → b < 8 → (byte_of x b ≡ 0 → ⊥) → lead_zeros x ≤ 7 - b
  lead_under b h n =
      let k : b ≡ 8 - 1 - (7 - b) = omega arith in
      rw lead_is
      (zeros_le (bytes_of 8 x) (7 - b) (omega (arith, length_digits 256 8 x))
      (λ e. n (ap (byte_of x) k ∙ sym (get_d_bytes 8 x (7 - b) (omega arith)) ∙ e)))

  -- two bytes far apart that are both not 0 leave no room for a larger sum
  pub apart_le : (s a b : ℕ) → Apart s a b → (byte_of x a ≡ 0 → ⊥) → (byte_of x b ≡ 0 → ⊥) → lead_zeros x + trail_zeros x ≤ s
  apart_le s a b h n m = omega (arith, trail_under a h.1 n, lead_under b h.2 m)

byte_same : (v u j : ℕ) → byte_of (bit_xor v u) j ≡ 0 → byte_of u j ≡ byte_of v j
byte_same v u j e = sym (xor-zero (byte_of v j) (byte_of u j) (sym (byte_xor v u j) ∙ e))

pub apart_differ : (v u s a b : ℕ) → Apart s a b → (byte_of u a ≡ byte_of v a → ⊥) → (byte_of u b ≡ byte_of v b → ⊥) → sum_of v u ≤ s
unfolding sum_of
apart_differ v u s a b h n m = apart_le (bit_xor v u) s a b h (λ e. n (byte_same v u a e)) (λ e. m (byte_same v u b e))
