-- A block of 16 slots: the flags of its slots, and that a block without a suspect is passed over.
use mathlib.Core.Path.{◌≡◌, refl, sym, ap, ◌∙◌, subst}
use mathlib.Core.Bool.{Bool, true, false, ◌&&◌, ◌||◌}
use mathlib.Core.List.{List}
use mathlib.Core.Logic.{◌⊎◌, inl, inr, ⊎_elim}
use Prim.Native.Nat.{ℕ, ◌+◌, ◌-◌, ◌*◌, ◌/◌, ◌%◌, ◌≤◌, ◌<◌}
use native.Mathlib.Omega.{arith}
use borrow.Author.Tests.{eqb-true, eqb-false, leb-true, leb-false}
use lib.Dec.{eqb, leb}
use lib.ListN.{get_or}
use Rattle.ratio_format.specs.Zeros.{sum_of}
use Rattle.bits.specs.Digits.{byte_of}
use Rattle.ratio_search.specs.BytePlanes.{slots, BothDiffer, Planes}
use Rattle.ratio_search.specs.Apart.{Apart}
use Rattle.ratio_search.proofs.Apart.{apart_differ}

or_off : (p q : Bool) → (p || q) ≡ false → (p ≡ false) × (q ≡ false)
or_off false q e = (refl, e)
or_off true q e = let z : ◌≡◌ {A = ℕ} 0 1 = cc in absurd (omega arith)

and_off : (p q : Bool) → (p && q) ≡ false → (p ≡ false) ⊎ (q ≡ false)
and_off false q e = inl refl
and_off true q e = inr e

-- two elements that differ from two numbers
abbrev pub Off : List ℕ → ℕ → ℕ → ℕ → ℕ → ℕ → Type 0
Off ps a x b y j = (get_or ps (a + j) 0 ≡ x → ⊥) × (get_or ps (b + j) 0 ≡ y → ⊥)

module _ (ps : List ℕ) (a x b y c z d w : ℕ) where
  -- no suspect among the first n slots
  abbrev pub Quiet : ℕ → Type 0
  Quiet n = (t : ℕ) → t < n → Off ps a x b y t ⊎ Off ps c z d w t

  abbrev flag : ℕ → Bool
  flag j =
      (eqb (get_or ps (a + j) 0) x || eqb (get_or ps (b + j) 0) y)
      && (eqb (get_or ps (c + j) 0) z || eqb (get_or ps (d + j) 0) w)

  flag_off : (j : ℕ) → flag j ≡ false → Off ps a x b y j ⊎ Off ps c z d w j
  flag_off j e =
      ⊎_elim
      (λ f. let g = or_off (eqb (get_or ps (a + j) 0) x) (eqb (get_or ps (b + j) 0) y) f in inl (eqb-false (get_or ps (a + j) 0) x g.0, eqb-false (get_or ps (b + j) 0) y g.1))
      (λ f. let g = or_off (eqb (get_or ps (c + j) 0) z) (eqb (get_or ps (d + j) 0) w) f in inr (eqb-false (get_or ps (c + j) 0) z g.0, eqb-false (get_or ps (d + j) 0) w g.1))
      (and_off (eqb (get_or ps (a + j) 0) x || eqb (get_or ps (b + j) 0) y) (eqb (get_or ps (c + j) 0) z || eqb (get_or ps (d + j) 0) w) e)

  pub quiet_more : (any : Bool) (n : ℕ) → (any ≡ false → Quiet n) → (any || flag n) ≡ false → Quiet (n + 1)
  quiet_more any n q e t h = go (eqb t n) refl
    where
      o : (any ≡ false) × (flag n ≡ false)
      o = or_off any (flag n) e

      go : (r : Bool) → eqb t n ≡ r → Off ps a x b y t ⊎ Off ps c z d w t
      go true f = subst (λ (m : ℕ). Off ps a x b y m ⊎ Off ps c z d w m) (sym (eqb-true t n f)) (flag_off n o.1)
      go false f = let g = eqb-false t n f in q o.0 t (omega arith)

-- a slot of a quiet block, by its own number: a is the start of the part of byte j
pub slot_differs : (ps : List ℕ) (v i j slot x y t : ℕ) → x ≡ byte_of v i → y ≡ byte_of v j → slot ≤ t
    → Off ps (i * slots + slot) x (j * slots + slot) y (t - slot) → BothDiffer ps v i j t
slot_differs ps v i j slot x y t ex ey h o =
    let ei : i * slots + slot + (t - slot) ≡ i * slots + t = omega arith in
    let ej : j * slots + slot + (t - slot) ≡ j * slots + t = omega arith in
    (λ e. o.0 (ap (λ (n : ℕ). get_or ps n 0) ei ∙ e ∙ sym ex), λ e. o.1 (ap (λ (n : ℕ). get_or ps n 0) ej ∙ e ∙ sym ey))

-- the ratio in a slot whose bytes differ has a small sum
module _ (ps l : List ℕ) (v s from high k : ℕ) (p : Planes ps l from high) (h : from ≤ k) (g : k < high) where
  slot_passed : (a b : ℕ) → Apart s a b → BothDiffer ps v a b (k % slots) → sum_of v (get_or l k 0) ≤ s
  slot_passed a b w d =
      apart_differ v (get_or l k 0) s a b w (λ e. d.0 (p a k w.1 h g ∙ e)) (λ e. d.1 (p b k w.2 h g ∙ e))

  either_passed : (a b c d : ℕ) → Apart s a b → Apart s c d
      → BothDiffer ps v a b (k % slots) ⊎ BothDiffer ps v c d (k % slots) → sum_of v (get_or l k 0) ≤ s
  either_passed a b c d w x = ⊎_elim (slot_passed a b w) (slot_passed c d x)

-- going back through blocks: every ratio from h up to `high` is passed, of those from `from` on
abbrev pub Behind : ℕ → List ℕ → ℕ → ℕ → ℕ → ℕ → Type 0
Behind v l s from high h = (k : ℕ) → from ≤ k → h ≤ k → k < high → sum_of v (get_or l k 0) ≤ s

pub behind_start : (v : ℕ) (l : List ℕ) (s from high : ℕ) → Behind v l s from high high
behind_start v l s from high k h g f = absurd (omega arith)

-- the block that ends at h
module _ (ps l : List ℕ) (v s from high h a b c d : ℕ) (p : Planes ps l from high) (first : Apart s a b) (second : Apart s c d)
    (nonzero : 0 < h) (before : h ≤ high) (passed : Behind v l s from high h) where
  abbrev low : ℕ
  low = (h - 1) / 16 * 16

  pub behind_block : ((t : ℕ) → low % slots ≤ t → t < low % slots + 16 → BothDiffer ps v a b t ⊎ BothDiffer ps v c d t) → Behind v l s from high low
  behind_block quiet k f g e = go (leb h k) refl
    where
      go : (t : Bool) → leb h k ≡ t → sum_of v (get_or l k 0) ≤ s
      go true q = passed k f (leb-true h k q) e
      go false q =
          let n = leb-false h k q in
          either_passed ps l v s from high k p f e a b c d first second (quiet (k % slots) (omega arith) (omega arith))
