-- Laws of the short operations on lists: a test of every element, membership, and the first index that a test holds at.
pub mod Tests
use mathlib.Core.Bool.{Bool, true, false, cond}
use mathlib.Core.List.{List, [], ◌∷◌, ◌++◌}
use mathlib.Core.Logic.{◌⊎◌, inl, inr, ⊎_elim}
use mathlib.Core.Path.{◌≡◌, refl, sym, ◌∙◌}
use Prim.Native.Nat.{ℕ, zero, suc, ◌+◌, ◌≤◌, ◌<◌, zero-le, suc-le-suc}
use native.Mathlib.Numerals.{add-one}
use native.Mathlib.Omega.{arith}
use borrow.Author.Tests.{eq-eqb, ne_eqb, eqb-true, eqb-false}
use lib.Dec.{eqb}
use lib.ListN.{length, get_or, drop, drop_of_length-le}
use lib.Seq.{drop-cons}
use types.Run.{OneOf}
use Rattle.lists.specs.Lists.{member, first_index}

-- ---- every

-- the test q holds of every element: of a list that is written out, by refl
abbrev pub every : {A : Type 0} → (A → Bool) → List A → Bool
every q [] = true
every q (x ∷ l) = cond (q x) (every q l) false

both : (a b : Bool) → cond a b false ≡ true → (a ≡ true) × (b ≡ true)
both true b e = (refl, e)
both false b e = (cc, cc)

pub every_cons : {A : Type 0} (q : A → Bool) (x : A) (l : List A) → every q (x ∷ l) ≡ true → (q x ≡ true) × (every q l ≡ true)
every_cons q x l e = both (q x) (every q l) e

-- ---- member

later : (t b : Bool) → b ≡ true → cond t true b ≡ true
later true b h = refl
later false b h = h

-- of a number that is one of the list's, and of one that is none of them
pub member_in : (l : List ℕ) (x : ℕ) → OneOf l x → member x l ≡ true
unfolding member
member_in [] x h = absurd h
member_in (k ∷ []) x h = rw (eq-eqb x k h) refl
member_in (k ∷ j ∷ l) x (inl h) = rw (eq-eqb x k h) refl
member_in (k ∷ j ∷ l) x (inr h) = later (eqb x k) _ (member_in (j ∷ l) x h)

pub member_out : (l : List ℕ) (x : ℕ) → (OneOf l x → ⊥) → member x l ≡ false
unfolding member
member_out [] x h = refl
member_out (k ∷ []) x h = rw (ne_eqb x k h) refl
member_out (k ∷ j ∷ l) x h = rw (ne_eqb x k (λ e. h (inl e))) (member_out (j ∷ l) x (λ m. h (inr m)))

-- a search from the front: at the element of index i, past it, and at the end
module _ (x : ℕ) (l : List ℕ) (i : ℕ) where
  pub member_here : i < length l → x ≡ get_or l i 0 → member x (drop i l) ≡ true
  unfolding member
  member_here h e = rw (drop-cons l i 0 h, eq-eqb x (get_or l i 0) e)

  pub member_next : i < length l → (x ≡ get_or l i 0 → ⊥) → member x (drop i l) ≡ member x (drop (i + 1) l)
  unfolding member
  member_next h n = rw (add-one, drop-cons l i 0 h, ne_eqb x (get_or l i 0) n)

  pub member_end : length l ≤ i → member x (drop i l) ≡ false
  unfolding member
  member_end h = rw (drop_of_length-le l {i = i} h)

-- a test of every element holds of each member
pub member_every : (q : ℕ → Bool) (l : List ℕ) (x : ℕ) → every q l ≡ true → member x l ≡ true → q x ≡ true
unfolding member
member_every q [] x e h = cc
member_every q (y ∷ l) x e h =
    let p = every_cons q y l e in
    go (eqb x y) refl h p.0 (member_every q l x p.1)
  where
    go : (t : Bool) → eqb x y ≡ t → cond t true (member x l) ≡ true → q y ≡ true → (member x l ≡ true → q x ≡ true) → q x ≡ true
    go true s m e f = rw (eqb-true x y s) e
    go false s m e f = f m

-- of three numbers, compared one after the other: b is what the first two comparisons say; where it is true it is the answer, and else the third comparison is
module _ (x y z r : ℕ) (b : Bool) where
  pub member_early : (b ≡ eqb r x) ⊎ (b ≡ eqb r y) → b ≡ true → b ≡ member r (x ∷ y ∷ z ∷ [])
  member_early (inl f) e = e ∙ sym (member_in (x ∷ y ∷ z ∷ []) r (inl (eqb-true r x (sym f ∙ e))))
  member_early (inr f) e = e ∙ sym (member_in (x ∷ y ∷ z ∷ []) r (inr (inl (eqb-true r y (sym f ∙ e)))))

  pub member_late : ((r ≡ x) × (b ≡ eqb r x)) ⊎ ((r ≡ x → ⊥) × (b ≡ eqb r y)) → b ≡ false → eqb r z ≡ member r (x ∷ y ∷ z ∷ [])
  member_late (inl n) e = absurd (eqb-false r x (sym n.1 ∙ e) n.0)
  member_late (inr n) e = go (eqb r z) refl
    where
      go : (t : Bool) → eqb r z ≡ t → t ≡ member r (x ∷ y ∷ z ∷ [])
      go true f = sym (member_in (x ∷ y ∷ z ∷ []) r (inr (inr (eqb-true r z f))))
      go false f = sym (member_out (x ∷ y ∷ z ∷ []) r (⊎_elim n.0 (⊎_elim (eqb-false r y (sym n.1 ∙ e)) (eqb-false r z f))))

-- a number of two lists, one after the other, is in the first or else in the second
pub member-append : (r : ℕ) (l m : List ℕ) → member r (l ++ m) ≡ cond (member r l) true (member r m)
unfolding member
member-append r [] m = refl
member-append r (x ∷ l) m = go (eqb r x) (member-append r l m)
  where
    go : (t : Bool) → member r (l ++ m) ≡ cond (member r l) true (member r m)
        → cond t true (member r (l ++ m)) ≡ cond (cond t true (member r l)) true (member r m)
    go true h = refl
    go false h = h

-- ---- first_index

-- one step of it, by whether the test t holds of the first element
within : (t : Bool) {m n : ℕ} → m ≤ n → cond t zero (suc m) ≤ suc n
within true h = zero-le
within false h = suc-le-suc h

not_here : (t : Bool) (m : ℕ) → 0 < cond t zero (suc m) → t ≡ false
not_here true m h = absurd (omega arith)
not_here false m h = refl

not_next : (t : Bool) (k m : ℕ) → suc k < cond t zero (suc m) → k < m
not_next true k m h = absurd (omega arith)
not_next false k m h = omega arith

clash : {b : Bool} → b ≡ true → b ≡ false → ⊥
clash e f = let z : ◌≡◌ {A = ℕ} 0 1 = cc in omega arith

module _ {A : Type 0} (p : A → Bool) where
  -- it is at most the length
  pub first_le : (l : List A) → first_index p l ≤ length l
  unfolding first_index
  first_le [] = zero-le
  first_le (x ∷ l) = within (p x) (first_le l)

  module _ (d : A) where
    -- the test holds of no element below it
    pub first_below : (l : List A) (k : ℕ) → k < first_index p l → p (get_or l k d) ≡ false
    unfolding first_index
    first_below [] k h = absurd (omega arith)
    first_below (x ∷ l) zero h = not_here (p x) (first_index p l) h
    first_below (x ∷ l) (suc k) h = first_below l k (not_next (p x) k (first_index p l) h)

    here : (x : A) (l : List A) (m : ℕ) (t : Bool)
        → p x ≡ t
        → (m < length l → p (get_or l m d) ≡ true)
        → cond t zero (suc m) < suc (length l)
        → p (get_or (x ∷ l) (cond t zero (suc m)) d) ≡ true
    here x l m true e f h = e
    here x l m false e f h = f (omega arith)

    -- the test holds of the element at it, if there is one
    pub first_at : (l : List A) → first_index p l < length l → p (get_or l (first_index p l) d) ≡ true
    unfolding first_index
    first_at [] h = absurd (omega arith)
    first_at (x ∷ l) h = here x l (first_index p l) (p x) refl (first_at l) h

    -- a search from the front goes on past an element that the test does not hold of, and ends at one that it holds of
    module _ (l : List A) (i : ℕ) (i< : i < length l) (h : i ≤ first_index p l) where
      pub first_next : p (get_or l i d) ≡ false → i < first_index p l
      first_next e =
          let other : (i ≡ first_index p l → ⊥) = λ q. clash (rw (← q) at (first_at l (omega arith))) e in
          omega arith

      pub first_found : p (get_or l i d) ≡ true → first_index p l ≡ i
      first_found e =
          let not-below : (i < first_index p l → ⊥) = λ q. clash e (first_below l i q) in
          omega arith
