-- Numbers put together in a word of 64 bits by shifts, as the code computes them: nothing is shifted out.
use mathlib.Core.List.{◌++◌}
use mathlib.Core.Path.{◌≡◌, ap, ◌∙◌}
use Prim.Native.Nat.{ℕ, ◌+◌, ◌*◌, ◌%◌, ◌^◌, ◌≤◌, ◌<◌}
use native.Mathlib.Nat.{one-mul, lt_of_lt_of_le}
use native.Mathlib.Omega.{arith}
use lib.Arith.{digits_lt}
use lib.Pow.{pow-add, pow_mono, shl_exact}
use Rattle.bits.specs.Digits.{bits_of}
use Rattle.bits.proofs.Digits.{two⁺, digits_join}

-- a mask's modulus
pub mask_pow : (k : ℕ) → k < 64 → 1 * 2 ^ k % 2 ^ 64 ≡ 2 ^ k
mask_pow k h = shl_exact {a = 1} 1 k 64 (omega arith) (omega arith) ∙ one-mul (2 ^ k)

-- a number of j bits above one of k bits is one of j + k bits, and fits the word
module _ (j k : ℕ) {h l : ℕ} (h< : h < 2 ^ j) (l< : l < 2 ^ k) (fits : j + k ≤ 64) where
  pub above_lt : h * 2 ^ k + l < 2 ^ (j + k)
  above_lt = rw pow-add (digits_lt h< l<)

  pub shl_is : h * 2 ^ k % 2 ^ 64 ≡ h * 2 ^ k
  shl_is = shl_exact j k 64 h< fits

  -- as the code has it
  pub two_lt : h * 2 ^ k % 2 ^ 64 + l < 2 ^ (j + k)
  two_lt = rw shl_is above_lt

  pub two_fits : h * 2 ^ k % 2 ^ 64 + l < 2 ^ 64
  two_fits = lt_of_lt_of_le two_lt (pow_mono fits)

  pub two-bits : bits_of (j + k) (h * 2 ^ k % 2 ^ 64 + l) ≡ bits_of j h ++ bits_of k l
  two-bits = ap (λ (w : ℕ). bits_of (j + k) (w + l)) shl_is ∙ digits_join two⁺ j k h l<
