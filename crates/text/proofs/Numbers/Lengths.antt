-- How long texts can be: the room that their functions ask for.
use mathlib.Core.Path.{◌≡◌, ◌∙◌}
use mathlib.Core.Bool.{Bool, true, false, cond}
use mathlib.Core.List.{List, [], ◌∷◌}
use Prim.Native.Nat.{ℕ, suc, ◌≤◌}
use native.Mathlib.Omega.{arith}
use lib.Dec.{eqb}
use lib.IntN.{ℤ, pos, negsuc}
use lib.ListN.{length, length-map}
use Rattle.bits.specs.Digits.{digits_of}
use Rattle.bits.proofs.Digits.{length_digits}
use Rattle.text.specs.Numbers.{glyph, trimmed, decimal, hex16, signed}

pub length-trimmed : (ds : List ℕ) → length (trimmed ds) ≤ length ds
unfolding trimmed
length-trimmed [] = omega arith
length-trimmed (d ∷ []) = omega arith
length-trimmed (d ∷ (e ∷ ds)) = go (eqb d 0) (length-trimmed (e ∷ ds))
  where
    go : (t : Bool) → length (trimmed (e ∷ ds)) ≤ length (e ∷ ds) → length (cond t (trimmed (e ∷ ds)) (d ∷ (e ∷ ds))) ≤ length (d ∷ (e ∷ ds))
    go true h = omega arith
    go false h = omega arith

pub length-decimal : (n : ℕ) → length (decimal n) ≤ 20
unfolding decimal
length-decimal n =
    omega (arith, length-map (trimmed (digits_of 10 20 n)) glyph, length-trimmed (digits_of 10 20 n), length_digits 10 20 n)

pub length_hex : (v : ℕ) → length (hex16 v) ≡ 16
unfolding hex16
length_hex v = length-map (digits_of 16 16 v) glyph ∙ length_digits 16 16 v

pub length-signed : (z : ℤ) → length (signed z) ≤ 21
unfolding signed
length-signed (pos n) = omega (arith, length-decimal n)
length-signed (negsuc n) = omega (arith, length-decimal (suc n))
