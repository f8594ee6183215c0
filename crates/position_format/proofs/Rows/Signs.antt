-- Laws of integers by their sign, with `neg`, as the ends of a row are written: what their order tests say.
use mathlib.Core.Bool.{true}
use mathlib.Core.Path.{◌≡◌, refl}
use Prim.Native.Nat.{ℕ, zero, suc, ◌<◌}
use native.Mathlib.Omega.{arith}
use borrow.Author.Tests.{le-leb, leb-true}
use lib.Dec.{leb-zero}
use lib.IntN.{ℤ, pos, negsuc, nat_abs}
use lib.Signed.{le_z}
use Rattle.position_format.specs.Rows.{neg}

-- by its sign: a number that is at least zero, and one that is at most zero
pub at_least : (z : ℤ) → le_z (pos 0) z ≡ true → z ≡ pos (nat_abs z)
at_least (pos n) h = refl
at_least (negsuc n) h = cc

pub at_most : (z : ℤ) → le_z z (pos 0) ≡ true → z ≡ neg (nat_abs z)
at_most (pos zero) h = refl
at_most (pos (suc n)) h = absurd (omega (arith, leb-true (suc n) 0 h))
at_most (negsuc n) h = refl

-- a number below zero that is at least -l
pub neg-holds : (l n : ℕ) → le_z (neg l) (negsuc n) ≡ true → n < l
neg-holds zero n h = absurd (let z : ◌≡◌ {A = ℕ} 0 1 = cc in omega arith)
neg-holds (suc l) n h = omega (arith, leb-true n l h)

pub neg_le_pos : (l n : ℕ) → le_z (neg l) (pos n) ≡ true
neg_le_pos zero n = leb-zero n
neg_le_pos (suc l) n = refl

pub neg_le_neg : (l n : ℕ) → n < l → le_z (neg l) (negsuc n) ≡ true
neg_le_neg zero n h = absurd (omega arith)
neg_le_neg (suc l) n h = le-leb n l (omega arith)
