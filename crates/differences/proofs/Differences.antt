-- Laws of one difference: where there is none, and where there is one.
use mathlib.Core.Bool.{Bool, true, false, cond}
use mathlib.Core.List.{List}
use mathlib.Core.Logic.{◌⊎◌, inl, inr}
use mathlib.Core.Path.{◌≡◌, refl, sym, ap, ap₂, ◌∙◌}
use Prim.Native.Nat.{ℕ, ◌+◌, ◌-◌, ◌≤◌, ◌<◌}
use borrow.Author.Tests.{lt-ltb, le-ltb, eq-eqb, ne_eqb}
use lib.Dec.{eqb, ltb}
use Rattle.std.proofs.Common.{Some, None}
use lib.ListN.{length, get_or}
use Rattle.lists.specs.Compare.{both}
use Rattle.differences.specs.declared.Property.{Property}
use Rattle.differences.specs.declared.Difference.TheVariants.{InProperty, More}
use Rattle.differences.specs.Differences.{property_difference, more_difference, values_at}

-- ---- of no index

module _ (p : Property) (a b : ℕ) where
  pub property_same : a ≡ b → None ≡ property_difference p a b
  property_same e = sym (ap (λ (t : Bool). cond t None (Some (InProperty p a b))) (eq-eqb a b e))

  pub property_other : (a ≡ b → ⊥) → Some (InProperty p a b) ≡ property_difference p a b
  property_other d = sym (ap (λ (t : Bool). cond t None (Some (InProperty p a b))) (ne_eqb a b d))

module _ (m n : ℕ) where
  pub more_same : m ≡ n → None ≡ more_difference m n
  more_same e = sym (ap (λ (t : Bool). cond t None (Some (More ((m - n) + (n - m))))) (eq-eqb m n e))

  pub more_other : (m ≡ n → ⊥) → (k : ℕ) → k ≡ (m - n) + (n - m) → Some (More k) ≡ more_difference m n
  more_other d k e = ap (λ n. Some (More n)) e ∙ sym (ap (λ (t : Bool). cond t None (Some (More ((m - n) + (n - m))))) (ne_eqb m n d))

-- ---- at an index

-- neither test, if the second fails
none-second : (t : Bool) → both t false ≡ false
none-second true = refl
none-second false = refl

module _ (xs ys : List ℕ) (i : ℕ) where
  abbrev x : ℕ
  x = get_or xs i 0

  abbrev y : ℕ
  y = get_or ys i 0

  -- an index that not both have
  pub values_beyond : (length xs ≤ i) ⊎ (length ys ≤ i) → None ≡ values_at xs ys i
  values_beyond (inl h) = sym (ap (λ (t : Bool). cond (both t (ltb i (length ys))) (cond (eqb x y) None (Some (x, y))) None) (le-ltb i (length xs) h))
  values_beyond (inr h) =
      sym
      (ap (λ (t : Bool). cond (both (ltb i (length xs)) t) (cond (eqb x y) None (Some (x, y))) None) (le-ltb i (length ys) h)
      ∙ ap (λ (t : Bool). cond t (cond (eqb x y) None (Some (x, y))) None) (none-second (ltb i (length xs))))

  module _ (first : i < length xs) (second : i < length ys) where
    values_within : cond (eqb x y) None (Some (x, y)) ≡ values_at xs ys i
    values_within =
        sym (ap₂ (λ (t u : Bool). cond (both t u) (cond (eqb x y) None (Some (x, y))) None) (lt-ltb i (length xs) first) (lt-ltb i (length ys) second))

    pub values_same : x ≡ y → None ≡ values_at xs ys i
    values_same e = sym (ap (λ (t : Bool). cond t None (Some (x, y))) (eq-eqb x y e)) ∙ values_within

    pub values_other : (x ≡ y → ⊥) → Some (x, y) ≡ values_at xs ys i
    values_other d = sym (ap (λ (t : Bool). cond t None (Some (x, y))) (ne_eqb x y d)) ∙ values_within
