-- The window of ratios that stand oldest first in a slice or in an array: what each place holds, and the window after one ratio more.
pub mod Shifting
pub mod Before
use mathlib.Core.Path.{◌≡◌, refl, sym, ap, ◌∙◌}
use mathlib.Core.Bool.{Bool, true, false, cond}
use mathlib.Core.List.{List, [], ◌∷◌, ◌++◌, reverse, reverse-append, reverse-cons}
use Prim.Native.Nat.{ℕ, zero, suc, ◌+◌, ◌-◌, ◌≤◌, ◌<◌, min}
use native.Mathlib.Numerals.{add-one}
use native.Mathlib.Omega.{arith}
use lib.Dec.{ltb}
use lib.ListN.{length, take, drop, set, get_or, length-reverse, length-drop, length-append, length-set, length-take}
use lib.Seq.{take-suc, take-length, take_all, length-take-le, take-add, take_at, take-take, take-suc-set}
use borrow.Author.Tests.{ltb-true, ltb-false}
use Rattle.lists.specs.Below.{Below}
use Rattle.lists.proofs.Below.{below_append, below_take}
use Rattle.ratio_format.specs.declared.Window.{Window}
use Rattle.ratio_format.specs.Windows.{window_size, push, window_of, held, pushed}

-- one ratio more of the slice is one newer ratio
pub reverse_more : (l : List ℕ) (i : ℕ) → i < length l → reverse (take (i + 1) l) ≡ get_or l i 0 ∷ reverse (take i l)
reverse_more l i h = rw (add-one, take-suc l i 0 h, reverse-append)

-- the ratio at a place of the window, in the slice
pub reverse-back_at : (l : List ℕ) (i p : ℕ) → p < i → i ≤ length l → get_or (reverse (take i l)) p 0 ≡ get_or l (i - 1 - p) 0
reverse-back_at l zero p h g = absurd (omega arith)
reverse-back_at l (suc i) zero h g =
    rw (← add-one i, reverse_more l i g) (ap (λ (n : ℕ). get_or l n 0) (omega arith))
reverse-back_at l (suc i) (suc p) h g =
    rw (← add-one i, reverse_more l i g) (reverse-back_at l i p (omega arith) (omega arith) ∙ ap (λ (n : ℕ). get_or l n 0) (omega arith))

pub reverse-back : (l : List ℕ) (p : ℕ) → p < length l → get_or (reverse l) p 0 ≡ get_or l (length l - 1 - p) 0
reverse-back l p h = rw take-length at (reverse-back_at l (length l) p h (omega arith))

-- the part of a run from i - size to i is the window at i
pub window_of_lem : (size : ℕ) (l : List ℕ) (i : ℕ) → i ≤ length l → reverse (take (i - (i - size)) (drop (i - size) l)) ≡ window_of size (take i l)
window_of_lem size l i h = go (i - size) refl
  where
    go : (a : ℕ) → i - size ≡ a → reverse (take (i - a) (drop a l)) ≡ take size (reverse (take i l))
    go zero e =
        let z : i - 0 ≡ i = omega arith in
        rw z (sym (take_all size (reverse (take i l)) (rw (length-reverse, length-take-le i l h) (omega arith))))
    go (suc a) e =
        let z : i - suc a ≡ size = omega arith in
        let y : i ≡ suc a + size = omega arith in
        let x = take size (drop (suc a) l) in
        let n : length (reverse x) ≡ size = length-reverse x ∙ length-take-le size (drop (suc a) l) (rw length-drop (omega arith)) in
        ap (λ (k : ℕ). reverse (take k (drop (suc a) l))) z
        ∙ sym (ap (λ (k : ℕ). take size (reverse (take k l))) y ∙ ap (λ (m : List ℕ). take size (reverse m)) (take-add (suc a) size l) ∙ ap (take size) (reverse-append (take (suc a) l) x) ∙ take_at (reverse x) (reverse (take (suc a) l)) size n)

-- what a window of this size drops, it would drop with more ratios in front too
pub take_late : (m n : ℕ) (a l : List ℕ) → m ≤ n → take m (a ++ take n l) ≡ take m (a ++ l)
take_late m n [] l h = take-take m n l h
take_late zero n (x ∷ a) l h = refl
take_late (suc m) n (x ∷ a) l h = ap (λ (r : List ℕ). x ∷ r) (take_late m n a l (omega arith))

-- the window after one ratio more, which may be a repeat
pub window_snoc : (size : ℕ) (vs : List ℕ) (v : ℕ) → window_of size (vs ++ (v ∷ [])) ≡ push size v (window_of size vs)
window_snoc size vs v = ap (take size) (reverse-append vs (v ∷ [])) ∙ sym (take_late size size (v ∷ []) (reverse vs) (omega arith))

-- a window has no more ratios than its size, nor than there were
pub window_few : (size : ℕ) (vs : List ℕ) → (length (window_of size vs) ≤ size) × (length (window_of size vs) ≤ length vs)
window_few size vs = let n = length-take size (reverse vs) in let m = length-reverse vs in (omega arith, omega arith)

-- no window has more ratios than its size
pub push-length : (size v : ℕ) (w : List ℕ) → length (push size v w) ≤ size
push-length size v w = rw length-take (omega arith)

-- a bound on all its ratios
pub push_below : (b size v : ℕ) (w : List ℕ) → v < b → Below b w → Below b (push size v w)
unfolding Below
push_below b size v w hv ha = below_take b size (v ∷ w) (hv, ha)

pub reverse_below : (b : ℕ) (l : List ℕ) → Below b l → Below b (reverse l)
unfolding Below
reverse_below b [] h = tt
reverse_below b (x ∷ l) h = rw reverse-cons (below_append b (reverse l) (x ∷ []) (reverse_below b l h.1) (h.0, tt))

pub window_below : (b size : ℕ) (vs : List ℕ) → Below b vs → Below b (window_of size vs)
window_below b size vs h = below_take b size (reverse vs) (reverse_below b vs h)

-- the fill is how many ratios are held
pub held-length : (w : Window) → w.fill ≤ length w.ratios → length (held w) ≡ w.fill
held-length w h = length-reverse (take w.fill w.ratios) ∙ length-take-le w.fill w.ratios h

-- a ratio more in a kept window: with room, and full
pub push-room : (l : List ℕ) (n v : ℕ) → n < window_size → length l ≡ window_size → reverse (take (n + 1) (set l n v)) ≡ push window_size v (reverse (take n l))
push-room l n v h e =
    ap (λ (k : ℕ). reverse (take k (set l n v))) (add-one n)
    ∙ ap reverse (take-suc-set l n v (omega arith))
    ∙ reverse-append (take n l) (v ∷ [])
    ∙ sym (take_all window_size (v ∷ reverse (take n l)) (omega (arith, length-reverse (take n l), length-take-le n l (omega arith))))

pub push_full : (l : List ℕ) (v : ℕ) → length l ≡ window_size → reverse (take window_size (drop 1 l ++ (v ∷ []))) ≡ push window_size v (reverse (take window_size l))
push_full [] v e = absurd (omega arith)
push_full (x ∷ l) v e =
    let n : length (reverse l) ≡ window_size - 1 = omega (arith, length-reverse l) in
    ap reverse (take_all window_size (l ++ (v ∷ [])) (rw length-append (omega arith)))
    ∙ reverse-append l (v ∷ [])
    ∙ sym (ap (λ (r : List ℕ). take window_size (v ∷ reverse r)) (take_all window_size (x ∷ l) (omega arith))
    ∙ ap (λ (r : List ℕ). take window_size (v ∷ r)) (reverse-cons x l)
    ∙ ap (λ (r : List ℕ). v ∷ r) (take_at (reverse l) (x ∷ []) (window_size - 1) n))

-- a kept window after one ratio more, by whether it has room
abbrev pushed_to : Window → ℕ → Bool → Window
pushed_to w v t =
    cond t (record { ratios = set w.ratios w.fill v; fill = w.fill + 1 })
    (record { ratios = drop 1 w.ratios ++ (v ∷ []); fill = w.fill })

module _ (w : Window) (v : ℕ) where
  -- its fill stays the smaller of its size and the number of ratios that came
  pub pushed_fill : (n : ℕ) → w.fill ≡ min window_size n → (pushed w v).fill ≡ min window_size (n + 1)
  pushed_fill n e = go (ltb w.fill window_size) refl
    where
      go : (t : Bool) → ltb w.fill window_size ≡ t → (pushed_to w v t).fill ≡ min window_size (n + 1)
      go true h = omega (arith, ltb-true w.fill window_size h)
      go false h = omega (arith, ltb-false w.fill window_size h)

  module _ (size : length w.ratios ≡ window_size) where
    -- its array keeps its cells
    pub pushed_size : length (pushed w v).ratios ≡ window_size
    pushed_size = go (ltb w.fill window_size)
      where
        go : (t : Bool) → length (pushed_to w v t).ratios ≡ window_size
        go true = length-set w.ratios w.fill v ∙ size
        go false = simp (length-append, length-drop) (omega arith)

    -- what it holds
    pub held-pushed : w.fill ≤ window_size → held (pushed w v) ≡ push window_size v (held w)
    held-pushed fits = go (ltb w.fill window_size) refl
      where
        go : (t : Bool) → ltb w.fill window_size ≡ t → held (pushed_to w v t) ≡ push window_size v (held w)
        go true e = push-room w.ratios w.fill v (ltb-true w.fill window_size e) size
        go false e =
            let n : w.fill ≡ window_size = omega (arith, ltb-false w.fill window_size e) in
            rw n (push_full w.ratios v size)
