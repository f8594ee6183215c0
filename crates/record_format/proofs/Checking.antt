-- Laws of what is found, by how the tests of the record turn out.
use mathlib.Core.Bool.{Bool, true, false, not, cond}
use mathlib.Core.List.{List}
use mathlib.Core.Option.{Option}
use mathlib.Core.Path.{◌≡◌, refl, sym, ◌∙◌}
use Prim.Native.Nat.{ℕ}
use borrow.Author.Tests.{eqb-true, eq-eqb, ne_eqb}
use lib.Dec.{eqb}
use Rattle.refusals.specs.declared.Refusal.{Refusal}
use Rattle.refusals.specs.Tests.{refusal, first_of}
use Rattle.record_format.specs.Reading.{record_tests}
use Rattle.record_format.specs.Checking.{refused_check, sound_check, found}

module _ (k : ℕ → List ℕ → Option (List ℕ)) (e : ℕ) (s : List ℕ) where
  abbrev first : Refusal
  first = first_of (record_tests k e s)

  -- a refusal
  pub found-refusal : (f : Refusal) → f ≡ first → (f.number ≡ 0 → ⊥) → found k e s ≡ refused_check f
  unfolding found
  found-refusal f q d = rw (← q, ne_eqb f.number 0 d)

  pub found-refused : (n p : ℕ) → (n ≡ 0 → ⊥) → first ≡ refusal n p → found k e s ≡ refused_check (refusal n p)
  found-refused n p d q = found-refusal (refusal n p) (sym q) d

  -- none
  pub found-sound : first.number ≡ 0 → found k e s ≡ sound_check s
  unfolding found
  found-sound z = rw (eq-eqb first.number 0 z)

  -- the number that is found is that of the first test that applies
  pub found_number : (found k e s).number ≡ first.number
  unfolding found
  found_number = go (eqb first.number 0) refl
    where
      go : (b : Bool) → eqb first.number 0 ≡ b → (cond (not b) (refused_check first) (sound_check s)).number ≡ first.number
      go true q = sym (eqb-true first.number 0 q)
      go false q = refl

  pub found_clear : (found k e s).number ≡ 0 → first.number ≡ 0
  found_clear h = sym found_number ∙ h

  -- what is refused is the answer of its refusal
  pub found-whole : ((found k e s).number ≡ 0 → ⊥) → found k e s ≡ refused_check first
  found-whole d = found-refusal first refl (λ z. d (found_number ∙ z))
