-- Sums and differences of integers as the machine holds them: by their absolute values they fit, so they are read back as they are.
use mathlib.Core.Path.{◌≡◌, ap₂, ◌∙◌}
use Prim.Native.Nat.{ℕ, ◌-◌, ◌≤◌, ◌<◌, ◌^◌}
use native.Mathlib.Omega.{arith}
use lib.IntN.{ℤ, pos, neg_ℤ, nat_abs, ◌-ℤ◌}
use mir.Syntax.{w64}
use mir.Val.{to_z, of_z, SFits}
use mir.ValLaws.{to_z-of_z, to_z_pos}
use Rattle.integers.proofs.Integers.{mag_abs, abs_neg, abs_diff, abs_add}

pub abs_fits : (z : ℤ) → nat_abs z < 2 ^ 63 → SFits w64 z
abs_fits z h = record { sfits = omega (arith, mag_abs z) }

-- a difference of two numbers below 2 ^ 62, read from their bits
module _ (a b : ℕ) (a< : a < 2 ^ 62) (b< : b < 2 ^ 62) where
  diff_is : to_z w64 a -ℤ to_z w64 b ≡ pos a -ℤ pos b
  diff_is = ap₂ (λ (x y : ℤ). x -ℤ y) (to_z_pos w64 a (omega arith)) (to_z_pos w64 b (omega arith))

  pub diff_abs : nat_abs (pos a -ℤ pos b) ≤ 2 ^ 62 - 1
  diff_abs = abs_diff a b (2 ^ 62 - 1) (omega arith) (omega arith)

  pub diff_fits : SFits w64 (to_z w64 a -ℤ to_z w64 b)
  diff_fits = rw diff_is (abs_fits _ (omega (arith, diff_abs)))

  -- stored and read back
  pub diff_back : to_z w64 (of_z w64 (to_z w64 a -ℤ to_z w64 b)) ≡ pos a -ℤ pos b
  diff_back = to_z-of_z w64 _ diff_fits ∙ diff_is

-- and of two such differences
pub both_fit : (x y : ℤ) → nat_abs x ≤ 2 ^ 62 - 1 → nat_abs y ≤ 2 ^ 62 - 1 → SFits w64 (x -ℤ y)
both_fit x y x≤ y≤ = abs_fits (x -ℤ y) (omega (arith, abs_add x (neg_ℤ y), abs_neg y))
