-- Laws of rounding down: of a number below 0 it is rounding toward zero where the division is exact, and else one less; and it gives the floor of the
-- quotient.
use mathlib.Core.Path.{◌≡◌, refl, ap}
use Prim.Native.Nat.{ℕ, zero, suc, ◌+◌, ◌-◌, ◌*◌, ◌/◌, ◌%◌, ◌≤◌, ◌<◌}
use native.Mathlib.Nat.{zero-div, zero-mod, div-add-mod', div-eq_of_lt-le, mod-lt, le-div_iff_mul-le, div-lt_iff_lt-mul, div-mul-le_self}
use native.Mathlib.Omega.{arith}
use lib.Dec.{leb→le, le→leb}
use lib.IntN.{ℤ, pos, negsuc, neg_ℤ, nat_abs, ◌*ℤ◌}
use lib.Signed.{◌≤ℤ◌, le_z_yes}
use Rattle.span.specs.Spans.{rounded_down}
use Rattle.span.specs.Claims.{IsFloor, toward_zero}

-- toward zero the sign has no part in it
pub toward_neg : (x r : ℕ) → toward_zero (neg_ℤ (pos x)) r ≡ neg_ℤ (pos (x / r))
toward_neg zero r = rw zero-div refl
toward_neg (suc x) r = refl

module _ (r : ℕ) (r⁺ : 0 < r) where
  -- ---- below 0, by whether the division is exact

  pub down_inexact : (x : ℕ) → (x % r ≡ 0 → ⊥) → rounded_down (neg_ℤ (pos x)) r ≡ negsuc (x / r)
  down_inexact zero n = absurd (n (zero-mod r))
  down_inexact (suc a) n = ap negsuc (div-eq_of_lt-le r (omega (arith, div-add-mod' (suc a) r)) (omega (arith, div-add-mod' (suc a) r, mod-lt (suc a) r⁺)))

  -- one less than a multiple of r lies in the one before
  whole : (a q : ℕ) → suc a ≡ suc q * r → a / r ≡ q
  whole a q e = div-eq_of_lt-le r (omega arith) (omega arith)

  pub down_exact : (x : ℕ) → x % r ≡ 0 → rounded_down (neg_ℤ (pos x)) r ≡ neg_ℤ (pos (x / r))
  down_exact zero e = rw zero-div refl
  down_exact (suc a) e = go (suc a / r) (div-add-mod' (suc a) r)
    where
      go : (q : ℕ) → q * r + suc a % r ≡ suc a → negsuc (a / r) ≡ neg_ℤ (pos q)
      go zero f = absurd (omega arith)
      go (suc q) f = ap negsuc (whole a q (omega arith))

  -- ---- its size

  pub down_abs : (z : ℤ) (d : ℕ) → nat_abs z ≤ d * r → nat_abs (rounded_down z r) ≤ d
  down_abs (pos x) d h = let under : x / r < suc d = (div-lt_iff_lt-mul r⁺).1 (omega arith) in omega arith
  down_abs (negsuc a) d h = (div-lt_iff_lt-mul r⁺).1 h

  -- ---- the floor

  -- -(k + 1) times r
  times : (k : ℕ) → negsuc k *ℤ pos r ≡ negsuc (suc k * r - 1)
  times k = go (suc k * r) refl
    where
      go : (n : ℕ) → suc k * r ≡ n → neg_ℤ (pos n) ≡ negsuc (n - 1)
      go zero e = absurd (omega arith)
      go (suc n) e = let f : n ≡ suc n - 1 = omega arith in ap negsuc f

  pub down_floor : (z : ℤ) → IsFloor (rounded_down z r) z r
  down_floor (pos x) = (le_z_yes (le→leb (x / r * r) x (div-mul-le_self x r)), below)
    where
      below : (n : ℤ) → (n *ℤ pos r) ≤ℤ pos x → n ≤ℤ pos (x / r)
      below (pos n) h = le_z_yes (le→leb n (x / r) ((le-div_iff_mul-le r⁺).1 (leb→le (n * r) x h.le)))
      below (negsuc n) h = le_z_yes tt
  down_floor (negsuc a) = (rw (times (a / r)) (le_z_yes (le→leb a (suc (a / r) * r - 1) (omega (arith, past)))), below)
    where
      past : a < suc (a / r) * r
      past = (div-lt_iff_lt-mul r⁺).0 (omega arith)

      below : (n : ℤ) → (n *ℤ pos r) ≤ℤ negsuc a → n ≤ℤ negsuc (a / r)
      below (pos n) h = absurd h.le
      below (negsuc n) h =
          let far : a ≤ suc n * r - 1 = leb→le a (suc n * r - 1) (rw (times n) at h).le in
          let under : a / r < suc n = (div-lt_iff_lt-mul r⁺).1 (omega arith) in
          le_z_yes (le→leb (a / r) n (omega arith))
