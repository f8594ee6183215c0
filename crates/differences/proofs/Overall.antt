-- Laws of the differences that are of no index: a refusal of the first record, one of the second, and none.
use mathlib.Core.Bool.{Bool, true, false, cond}
use mathlib.Core.Path.{◌≡◌, refl, sym, ap, ap₂, ◌∙◌}
use Prim.Native.Nat.{ℕ}
use borrow.Author.Tests.{eqb-true, eqb-false, eq-eqb, ne_eqb}
use lib.Dec.{eqb}
use Rattle.std.proofs.Common.{Ok, Err}
use Rattle.record_format.specs.declared.CheckAnswer.{CheckAnswer}
use Rattle.differences.specs.declared.Which.TheVariants.{First, Second}
use Rattle.differences.specs.Overall.{refused_record, overall_sound, overall_of}

-- an answer by two numbers, which has the first of them that is not 0: where it has 0, both are
pub both_zero : {A : Type 0} (f : A → ℕ) (m n : ℕ) (x y z : A) → f y ≡ n → f z ≡ m
    → f (cond (eqb m 0) (cond (eqb n 0) x y) z) ≡ 0 → (m ≡ 0) × (n ≡ 0)
both_zero f m n x y z p q e = go (eqb m 0) refl (eqb n 0) refl
  where
    go : (t : Bool) → eqb m 0 ≡ t → (u : Bool) → eqb n 0 ≡ u → (m ≡ 0) × (n ≡ 0)
    go true w true v = (eqb-true _ _ w, eqb-true _ _ v)
    go true w false v = absurd (eqb-false _ _ v (sym p ∙ sym (ap₂ (λ (t u : Bool). f (cond t (cond u x y) z)) w v) ∙ e))
    go false w u v = absurd (eqb-false _ _ w (sym q ∙ sym (ap (λ (t : Bool). f (cond t (cond (eqb n 0) x y) z)) w) ∙ e))

module _ (a b : CheckAnswer) where
  pub overall_first : (a.number ≡ 0 → ⊥) → Err (refused_record a First) ≡ overall_of a b
  unfolding overall_of
  overall_first n = rw (ne_eqb a.number 0 n)

  pub overall_second : a.number ≡ 0 → (b.number ≡ 0 → ⊥) → Err (refused_record b Second) ≡ overall_of a b
  unfolding overall_of
  overall_second ok n = rw (eq-eqb a.number 0 ok, ne_eqb b.number 0 n)

  pub overall_both : a.number ≡ 0 → b.number ≡ 0 → Ok (overall_sound a b) ≡ overall_of a b
  unfolding overall_of
  overall_both ok fine = rw (eq-eqb a.number 0 ok, eq-eqb b.number 0 fine)
