-- Whether a range contains a number: the answer of the library's `contains` as two tests.
use Rattle.std.specs.Prelude.{Some, ◌&&◌}
use Rattle.std.specs.declared.cmp.Ordering.TheVariants.{Less, Greater, Equal}
use Rattle.std.specs.Ordering.{is_le, int_cmp, partial_lt}
use mathlib.Core.Bool.{Bool, true, false, cond}
use mathlib.Core.Path.{◌≡◌, refl, sym, ap₂, ◌∙◌}
use Prim.Native.Nat.{ℕ}
use native.Mathlib.Omega.{arith}
use borrow.Author.Tests.{ltb-true, ltb-false, le-leb, lt-leb}
use lib.Dec.{ltb, leb}
use lib.IntN.{ℤ, pos, negsuc}
use lib.Signed.{le_z}
use Rattle.lists.specs.Compare.{both}

-- numbers compared, and whether the first is not the greater
below : (a b : ℕ) → is_le (cond (ltb a b) Less (cond (ltb b a) Greater Equal)) ≡ leb a b
below a b = go (ltb a b) refl (ltb b a) refl
  where
    go : (s : Bool) → ltb a b ≡ s → (t : Bool) → ltb b a ≡ t → is_le (cond s Less (cond t Greater Equal)) ≡ leb a b
    go true e t f = sym (le-leb a b (omega (arith, ltb-true a b e)))
    go false e true f = sym (lt-leb a b (ltb-true b a f))
    go false e false f = sym (le-leb a b (omega (arith, ltb-false b a f)))

at_most : (x y : ℤ) → is_le (int_cmp x y) ≡ le_z x y
at_most (pos a) (pos b) = below a b
at_most (pos a) (negsuc b) = refl
at_most (negsuc a) (pos b) = refl
at_most (negsuc a) (negsuc b) = below b a

and_both : (a b : Bool) → (a && b) ≡ both a b
and_both true b = refl
and_both false b = refl

-- what `contains` answers of z, where the range's ends are s and e and x says whether it is spent
abbrev pub contains_lem : ℤ → ℤ → Bool → ℤ → Bool
contains_lem s e x z = is_le (int_cmp s z) && cond x (partial_lt (λ (a b : ℤ). Some (int_cmp a b)) z e) (is_le (int_cmp z e))

-- z is from `low` to `high`, where the range's ends are these and it is not spent
pub between : (low high z s e : ℤ) (x t : Bool) → s ≡ low → e ≡ high → x ≡ false
    → t ≡ contains_lem s e x z → t ≡ both (le_z low z) (le_z z high)
between low high z s e x t es ee ex told =
    rw (es, ee, ex) at told ∙ and_both (is_le (int_cmp low z)) (is_le (int_cmp z high)) ∙ ap₂ both (at_most low z) (at_most z high)
