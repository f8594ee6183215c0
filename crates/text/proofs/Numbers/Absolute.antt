-- A signed number's text, by its sign and its absolute value.
use mathlib.Core.Path.{◌≡◌, refl, sym, ap, ◌∙◌}
use mathlib.Core.Bool.{true, false}
use mathlib.Core.List.{List, ◌∷◌}
use Prim.Native.Nat.{ℕ}
use native.Mathlib.Omega.{arith}
use borrow.Author.Tests.{ltb-true}
use lib.IntN.{ℤ, pos, negsuc, nat_abs}
use lib.Signed.{lt_z}
use mir.Syntax.{w64}
use mir.Val.{to_z, of_z, SFits}
use mir.ValLaws.{to_z-of_z}
use Rattle.text.specs.Numbers.{decimal, signed}

differ : true ≡ false → ⊥
differ e = let z : ◌≡◌ {A = ℕ} 0 1 = cc in omega arith

negative : (z : ℤ) → lt_z z (pos 0) ≡ true → signed z ≡ 45 ∷ decimal (nat_abs z)
unfolding signed
negative (pos n) t = absurd (omega (arith, ltb-true n 0 t))
negative (negsuc n) t = refl

plain : (z : ℤ) → lt_z z (pos 0) ≡ false → signed z ≡ decimal (nat_abs z)
unfolding signed
plain (pos n) t = refl
plain (negsuc n) t = absurd (differ t)

-- by the sign and the absolute value of the number as it is read back from 64 bits
module _ (z : ℤ) (fits : SFits w64 z) {n : ℕ} (abs : n ≡ nat_abs (to_z w64 (of_z w64 z))) where
  back : to_z w64 (of_z w64 z) ≡ z
  back = to_z-of_z w64 z fits

  digits : decimal (nat_abs z) ≡ decimal n
  digits = ap decimal (ap nat_abs (sym back) ∙ sym abs)

  pub signed_negative : lt_z (to_z w64 (of_z w64 z)) (pos 0) ≡ true → signed z ≡ 45 ∷ decimal n
  signed_negative t = negative z (ap (λ (y : ℤ). lt_z y (pos 0)) (sym back) ∙ t) ∙ ap (λ (l : List ℕ). 45 ∷ l) digits

  pub signed-plain : lt_z (to_z w64 (of_z w64 z)) (pos 0) ≡ false → signed z ≡ decimal n
  signed-plain t = plain z (ap (λ (y : ℤ). lt_z y (pos 0)) (sym back) ∙ t) ∙ digits
