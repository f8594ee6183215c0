-- The first of some bytes, by what the library says of it.
use Rattle.std.specs.Prelude.{None, Some, slice_get}
use Rattle.std.proofs.Common.{◌≡◌, List, [], ◌∷◌, ℕ, refl, arith, length, get_or}
use Rattle.std.proofs.lemmas.Option.{none-some, same_Some}

pub first_is : (s : List ℕ) (b : ℕ) → Some b ≡ slice_get s 0 → (length s ≡ 0 → ⊥) × (b ≡ get_or s 0 0)
first_is [] b e = let z : ◌≡◌ {A = ℕ} 0 1 = cc in absurd (omega arith)
first_is (x ∷ s) b e = (λ z. omega arith, same_Some b x e)

pub first_none : (s : List ℕ) → None ≡ slice_get s 0 → length s ≡ 0
first_none [] e = refl
first_none (x ∷ s) e = absurd (none-some x e)
