-- Laws of negation and of products in integers, and of negation as the machine computes it.
use mathlib.Core.Path.{◌≡◌, refl, ap, ◌∙◌}
use Prim.Native.Nat.{ℕ, zero, suc, ◌+◌, ◌-◌, ◌*◌, ◌^◌, ◌<◌}
use native.Mathlib.Nat.{zero-mul}
use native.Mathlib.Omega.{arith}
use lib.IntN.{ℤ, pos, negsuc, neg_ℤ, nat_abs, ◌-ℤ◌, ◌*ℤ◌}
use lib.Signed.{mag}
use mir.Syntax.{w64}
use mir.Val.{to_z, of_z, SFits}
use mir.ValLaws.{to_z-of_z, to_z_pos}
use Rattle.integers.proofs.Integers.{diff_neg, abs_neg}

-- ---- in integers

-- one less than -m
pub neg_less : (m : ℕ) → neg_ℤ (pos m) -ℤ pos 1 ≡ negsuc m
neg_less zero = refl
neg_less (suc m) = let e : suc (m + 0) ≡ suc m = omega arith in ap negsuc e

-- products by their sign
pub neg_times : (m n : ℕ) → neg_ℤ (pos m) *ℤ pos n ≡ neg_ℤ (pos (m * n))
neg_times zero n = rw (zero-mul n) refl
neg_times (suc m) n = refl

pub abs_times : (z : ℤ) (n : ℕ) → nat_abs (z *ℤ pos n) ≡ nat_abs z * n
abs_times (pos m) n = refl
abs_times (negsuc m) n = abs_neg (pos (suc m * n))

-- ---- -m as the machine computes it: 0 less what is read back

zero_sub : (m : ℕ) → pos 0 -ℤ pos m ≡ neg_ℤ (pos m)
zero_sub zero = refl
zero_sub (suc m) = let e : suc m - 1 ≡ m = omega arith in diff_neg 0 (suc m) (omega arith) ∙ ap negsuc e

mag_neg : (m n : ℕ) → m < n → mag (neg_ℤ (pos m)) < n
mag_neg zero n h = h
mag_neg (suc m) n h = omega arith

module _ (m : ℕ) (m< : m < 2 ^ 63) where
  neg_is : pos 0 -ℤ to_z w64 m ≡ neg_ℤ (pos m)
  neg_is = ap (λ (z : ℤ). pos 0 -ℤ z) (to_z_pos w64 m m<) ∙ zero_sub m

  pub neg_fits : SFits w64 (pos 0 -ℤ to_z w64 m)
  neg_fits = rw neg_is (record { sfits = mag_neg m (2 ^ 63) m< })

  pub neg-back : to_z w64 (of_z w64 (pos 0 -ℤ to_z w64 m)) ≡ neg_ℤ (pos m)
  neg-back = to_z-of_z w64 (pos 0 -ℤ to_z w64 m) neg_fits ∙ neg_is

  -- -m - 1, from that
  less_is : to_z w64 (of_z w64 (pos 0 -ℤ to_z w64 m)) -ℤ pos 1 ≡ negsuc m
  less_is = ap (λ (z : ℤ). z -ℤ pos 1) neg-back ∙ neg_less m

  pub less_fits : SFits w64 (to_z w64 (of_z w64 (pos 0 -ℤ to_z w64 m)) -ℤ pos 1)
  less_fits = rw less_is (record { sfits = m< })

  pub less_back : to_z w64 (of_z w64 (to_z w64 (of_z w64 (pos 0 -ℤ to_z w64 m)) -ℤ pos 1)) ≡ negsuc m
  less_back = to_z-of_z w64 (to_z w64 (of_z w64 (pos 0 -ℤ to_z w64 m)) -ℤ pos 1) less_fits ∙ less_is
