-- Short operations on lists that the definitions use.
--   member x l       x is an element of l
--   first_index p l  the index, from 0, of the first element that p holds of; the length where there is none
use Rattle.std.specs.Prelude.{Bool, true, false, cond, List, [], ◌∷◌, ℕ, zero, suc, eqb}

-- whether x is in the list
unfoldable pub member : ℕ → List ℕ → Bool
member x [] = false
member x (y ∷ l) = cond (eqb x y) true (member x l)

-- the index of the first element that p holds of, or the list's length
unfoldable pub first_index : {A : Type 0} → (A → Bool) → List A → ℕ
first_index p [] = zero
first_index p (x ∷ l) = cond (p x) zero (suc (first_index p l))
