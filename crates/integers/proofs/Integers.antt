-- Laws of integers: a difference of two numbers by their order, the order by a difference, and absolute values.
use mathlib.Core.Bool.{Bool, true, false, cond}
use mathlib.Core.Path.{◌≡◌, refl, sym, ap, ◌∙◌}
use Prim.Native.Nat.{ℕ, zero, suc, ◌+◌, ◌-◌, ◌≤◌, ◌<◌}
use native.Mathlib.Omega.{arith}
use borrow.Author.Tests.{le-ltb, lt-ltb, le-leb, lt-leb, ltb-true, leb-true, leb-false}
use lib.Dec.{ltb, leb, leb-zero}
use lib.IntN.{ℤ, pos, negsuc, neg_ℤ, nat_abs, sub_ℕ, ◌+ℤ◌, ◌-ℤ◌, +ℤ_idr}
use lib.Signed.{le_z, mag}

-- ---- differences

pub diff_pos : (a b : ℕ) → b ≤ a → pos a -ℤ pos b ≡ pos (a - b)
diff_pos a zero h = let e : a + 0 ≡ a - 0 = omega arith in ap pos e
diff_pos a (suc b) h = ap (λ (t : Bool). cond t (negsuc (suc b - suc a)) (pos (a - suc b))) (le-ltb a (suc b) h)

pub diff_neg : (a b : ℕ) → a < b → pos a -ℤ pos b ≡ negsuc (b - suc a)
diff_neg a zero h = absurd (omega arith)
diff_neg a (suc b) h = ap (λ (t : Bool). cond t (negsuc (suc b - suc a)) (pos (a - suc b))) (lt-ltb a (suc b) h)

-- ---- the order

le_diff_pos : (a b : ℕ) → leb a b ≡ le_z (pos 0) (pos b -ℤ pos a)
le_diff_pos a b = go (leb a b) refl
  where
    go : (t : Bool) → leb a b ≡ t → t ≡ le_z (pos 0) (pos b -ℤ pos a)
    go true e = sym (ap (le_z (pos 0)) (diff_pos b a (leb-true a b e)) ∙ leb-zero (b - a))
    go false e = sym (ap (le_z (pos 0)) (diff_neg b a (leb-false a b e)))

-- x is at most y when y less x is at least 0
pub le_diff : (x y : ℤ) → le_z x y ≡ le_z (pos 0) (y -ℤ x)
le_diff (pos a) (pos b) = le_diff_pos a b
le_diff (pos zero) (negsuc b) = sym (ap (le_z (pos 0)) (+ℤ_idr (negsuc b)))
le_diff (pos (suc a)) (negsuc b) = refl
le_diff (negsuc a) (pos b) = sym (leb-zero (b + suc a))
le_diff (negsuc a) (negsuc b) = step ∙ le_diff_pos (suc b) (suc a)
  where
    step : leb b a ≡ leb (suc b) (suc a)
    step = go (leb b a) refl
      where
        go : (t : Bool) → leb b a ≡ t → t ≡ leb (suc b) (suc a)
        go true e = sym (le-leb (suc b) (suc a) (omega (arith, leb-true b a e)))
        go false e = sym (lt-leb (suc b) (suc a) (omega (arith, leb-false b a e)))

-- ---- absolute values

pub mag_abs : (z : ℤ) → mag z ≤ nat_abs z
mag_abs (pos n) = omega arith
mag_abs (negsuc n) = omega arith

pub abs_neg : (z : ℤ) → nat_abs (neg_ℤ z) ≡ nat_abs z
abs_neg (pos zero) = refl
abs_neg (pos (suc n)) = refl
abs_neg (negsuc n) = refl

abs_sub : (a b n : ℕ) → a ≤ n → b ≤ n → nat_abs (sub_ℕ a b) ≤ n
abs_sub a b n ha hb = go (ltb a b) refl
  where
    go : (t : Bool) → ltb a b ≡ t → nat_abs (cond t (negsuc (b - suc a)) (pos (a - b))) ≤ n
    go true e = omega (arith, ltb-true)
    go false e = omega arith

-- a difference of two numbers is at most the larger
pub abs_diff : (a b n : ℕ) → a ≤ n → b ≤ n → nat_abs (pos a -ℤ pos b) ≤ n
abs_diff a zero n ha hb = omega arith
abs_diff a (suc b) n ha hb = abs_sub a (suc b) n ha hb

pub abs_add : (x y : ℤ) → nat_abs (x +ℤ y) ≤ nat_abs x + nat_abs y
abs_add (pos a) (pos b) = omega arith
abs_add (pos a) (negsuc b) = abs_sub a (suc b) (a + suc b) (omega arith) (omega arith)
abs_add (negsuc a) (pos b) = abs_sub b (suc a) (suc a + b) (omega arith) (omega arith)
abs_add (negsuc a) (negsuc b) = omega arith
