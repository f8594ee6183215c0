-- Tests of the elements of a list: one that holds of every element, and one that holds of none.
use mathlib.Core.Bool.{Bool, true, false, cond}
use mathlib.Core.List.{List, [], ◌∷◌, ◌++◌}
use mathlib.Core.Path.{◌≡◌, refl, ap}
use Prim.Native.Nat.{ℕ, zero, suc, ◌+◌, ◌<◌}
use native.Mathlib.Omega.{arith}
use lib.ListN.{length, get_or}
use Rattle.lists.specs.Lists.{first_index}
use Rattle.lists.proofs.Lists.{every, every_cons, first_below}

-- a test of every element holds at each index
pub every_at : {A : Type 0} (q : A → Bool) (l : List A) (d : A) → every q l ≡ true → (i : ℕ) → i < length l → q (get_or l i d) ≡ true
every_at q [] d e i h = absurd (omega arith)
every_at q (x ∷ l) d e zero h = (every_cons q x l e).0
every_at q (x ∷ l) d e (suc i) h = every_at q l d (every_cons q x l e).1 i (omega arith)

-- a test that holds of no element
module _ {A : Type 0} (p : A → Bool) where
  split : (t : Bool) (m n : ℕ) → cond t zero (suc m) ≡ suc n → (t ≡ false) × (m ≡ n)
  split true m n e = absurd (omega arith)
  split false m n e = (refl, omega arith)

  -- of a list, by its first element and the others
  pub none_cons : (x : A) (l : List A) → first_index p (x ∷ l) ≡ suc (length l) → (p x ≡ false) × (first_index p l ≡ length l)
  unfolding first_index
  none_cons x l e = split (p x) (first_index p l) (length l) e

  pub cons_none : (x : A) (l : List A) → p x ≡ false → first_index p l ≡ length l → first_index p (x ∷ l) ≡ suc (length l)
  unfolding first_index
  cons_none x l e f = rw (e, f)

  -- at each index
  pub none_at : (d : A) (l : List A) → first_index p l ≡ length l → (i : ℕ) → i < length l → p (get_or l i d) ≡ false
  none_at d l e i h = first_below p d l i (omega arith)

  -- of one element more
  pub none_snoc : (l : List A) (x : A) → first_index p l ≡ length l → p x ≡ false → first_index p (l ++ (x ∷ [])) ≡ length (l ++ (x ∷ []))
  unfolding first_index
  none_snoc [] x e f = cons_none x [] f refl
  none_snoc (y ∷ l) x e f =
      let c = none_cons y l e in
      cons_none y (l ++ (x ∷ [])) c.0 (none_snoc l x c.1 f)

-- the first element that a test holds of, in one list and then in another
module _ {A : Type 0} (p : A → Bool) where
  found_next : (t : Bool) (m n k : ℕ) → (m < n → k ≡ m) → cond t zero (suc m) < suc n → cond t zero (suc k) ≡ cond t zero (suc m)
  found_next true m n k f h = refl
  found_next false m n k f h = ap suc (f (omega arith))

  pub first_in_front : (l m : List A) → first_index p l < length l → first_index p (l ++ m) ≡ first_index p l
  unfolding first_index
  first_in_front [] m h = absurd (omega arith)
  first_in_front (x ∷ l) m h = found_next (p x) (first_index p l) (length l) (first_index p (l ++ m)) (first_in_front l m) h

  pub first_past_front : (l m : List A) → first_index p l ≡ length l → first_index p (l ++ m) ≡ length l + first_index p m
  unfolding first_index
  first_past_front [] m e = omega arith
  first_past_front (x ∷ l) m e =
      let c = none_cons p x l e in
      rw c.0 (omega (arith, first_past_front l m c.1))
