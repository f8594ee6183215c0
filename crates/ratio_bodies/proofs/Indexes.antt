-- The index of the ratios passed: at the start, after one more, and that what it finds is the reference that is written.
use mathlib.Core.Path.{◌≡◌, refl, sym, ap, ◌∙◌}
use mathlib.Core.Bool.{Bool, true, false}
use mathlib.Core.List.{List, [], ◌∷◌}
use mathlib.Core.Logic.{◌⊎◌, inl, inr}
use Prim.Native.Nat.{ℕ, ◌+◌, ◌-◌, ◌≤◌, ◌<◌}
use native.Mathlib.Omega.{arith}
use lib.Dec.{eqb}
use lib.ListN.{length, get_or, take, set, replicate, length-set, length-replicate}
use lib.Seq.{get_or-set_same, get_or-set_other}
use borrow.Author.Tests.{eqb-true, eqb-false}
use Rattle.lists.proofs.Below.{below_at, below_replicate}
use Rattle.ratio_format.specs.Windows.{window_size, window_of}
use Rattle.ratio_format.specs.RatioForms.{coded}
use Rattle.ratio_format.proofs.Windows.Before.{window_has, window_at_lem, find_newest}
use Rattle.ratio_bodies.specs.Indexes.{keys, key_of, Bounded, Indexed, NearlyIndexed}
use Rattle.ratio_codec.proofs.read.References.{coded_in}

-- of no ratio
pub nearly_start : (l : List ℕ) → NearlyIndexed (replicate keys 0) l 0
nearly_start l = (
  (length-replicate {A = ℕ} keys 0, λ k. omega (arith, below_at 1 (omega arith) (replicate keys 0) (below_replicate 1 keys {d = 0} (omega arith)) k)),
  λ j h. absurd (omega arith),
)

-- no slot names a later one
later : (ns : List ℕ) (i : ℕ) → Bounded ns i → Bounded ns (i + 1)
later ns i b = (b.0, λ k. omega (arith, b.1 k))

-- one more: what is known of those before, and that the new one is the last
more : (ns l : List ℕ) (i : ℕ) → Bounded ns i
    → ((j : ℕ) → j < i → (j < get_or ns (key_of (get_or l j 0)) 0) ⊎ (get_or l j 0 ≡ get_or l i 0)) → NearlyIndexed ns l (i + 1)
more ns l i b x = (later ns i b, λ j g. rw z (go j g (eqb j i) refl))
  where
    z : i + 1 - 1 ≡ i
    z = omega arith

    go : (j : ℕ) → j < i + 1 → (t : Bool) → eqb j i ≡ t → (j < get_or ns (key_of (get_or l j 0)) 0) ⊎ (get_or l j 0 ≡ get_or l i 0)
    go j g true q = inr (ap (λ (k : ℕ). get_or l k 0) (eqb-true j i q))
    go j g false q = let n = eqb-false j i q in x j (omega arith)

-- the first
pub nearly_first : (ns l : List ℕ) → NearlyIndexed ns l 0 → NearlyIndexed ns l (0 + 1)
nearly_first ns l x = more ns l 0 x.0 (λ j g. absurd (omega arith))

-- one that repeats the last
pub nearly_same : (ns l : List ℕ) (i : ℕ) → 0 < i → get_or l (i - 1) 0 ≡ get_or l i 0 → NearlyIndexed ns l i → NearlyIndexed ns l (i + 1)
nearly_same ns l i h e x = more ns l i x.0 (λ j g. carry j (x.1 j g))
  where
    carry : (j : ℕ) → (j < get_or ns (key_of (get_or l j 0)) 0) ⊎ (get_or l j 0 ≡ get_or l (i - 1) 0) → (j < get_or ns (key_of (get_or l j 0)) 0) ⊎ (get_or l j 0 ≡ get_or l i 0)
    carry j (inl f) = inl f
    carry j (inr f) = inr (f ∙ e)

-- any, where all are noted
pub nearly_more : (ns l : List ℕ) (i : ℕ) → Indexed ns l i → NearlyIndexed ns l (i + 1)
nearly_more ns l i x = more ns l i x.0 (λ j g. inl (x.1 j g))

-- the last is noted, and with it all that are equal to it
pub indexed_noted : (ns l : List ℕ) (i : ℕ) → 0 < i → NearlyIndexed ns l i → Indexed (set ns (key_of (get_or l (i - 1) 0)) (i - 1 + 1)) l i
indexed_noted ns l i h x =
    ((length-set ns key (i - 1 + 1) ∙ x.0.0, λ k. within k (eqb key k) refl), λ j g. passed j g (eqb key (key_of (get_or l j 0))) refl)
  where
    key : ℕ
    key = key_of (get_or l (i - 1) 0)

    here : get_or (set ns key (i - 1 + 1)) key 0 ≡ i - 1 + 1
    here = get_or-set_same ns key (i - 1 + 1) 0 (omega (arith, x.0.0))

    within : (k : ℕ) (t : Bool) → eqb key k ≡ t → get_or (set ns key (i - 1 + 1)) k 0 ≤ i
    within k true e = rw (← eqb-true key k e) (omega (arith, here))
    within k false e = omega (arith, get_or-set_other ns key k (i - 1 + 1) 0 (λ q. eqb-false key k e (sym q)), x.0.1 k)

    passed : (j : ℕ) → j < i → (t : Bool) → eqb key (key_of (get_or l j 0)) ≡ t → j < get_or (set ns key (i - 1 + 1)) (key_of (get_or l j 0)) 0
    passed j g true e = rw (← eqb-true key (key_of (get_or l j 0)) e) (omega (arith, here))
    passed j g false e = go (x.1 j g)
      where
        n : key ≡ key_of (get_or l j 0) → ⊥
        n = eqb-false key (key_of (get_or l j 0)) e

        go : (j < get_or ns (key_of (get_or l j 0)) 0) ⊎ (get_or l j 0 ≡ get_or l (i - 1) 0) → j < get_or (set ns key (i - 1 + 1)) (key_of (get_or l j 0)) 0
        go (inl f) = omega (arith, get_or-set_other ns key (key_of (get_or l j 0)) (i - 1 + 1) 0 (λ q. n (sym q)), f)
        go (inr f) = absurd (n (ap key_of (sym f)))

-- the reference at place p is written, where the ratio there is equal and no newer one is
pub coded_newest : (l : List ℕ) (i v p : ℕ) → i ≤ length l → p < window_size → p < i → get_or l (i - 1 - p) 0 ≡ v
    → ((k : ℕ) → i - 1 - p < k → k < i → get_or l k 0 ≡ v → ⊥) → coded v (window_of window_size (take i l)) ≡ p ∷ []
coded_newest l i v p h small in_List is newest =
    let w = window_of window_size (take i l) in
    coded_in w v p (window_has window_size l i h p small in_List) (window_at_lem window_size l i h p small in_List ∙ is)
    ∙ ap (λ (k : ℕ). k ∷ []) (find_newest window_size l i h v p small in_List is newest)

-- what the index finds
pub indexed_found : (ns l : List ℕ) (i n : ℕ) → i ≤ length l → Indexed ns l i → n ≡ get_or ns (key_of (get_or l i 0)) 0 → (n ≡ 0 → ⊥) → i - n < window_size
    → get_or l (n - 1) 0 ≡ get_or l i 0 → coded (get_or l i 0) (window_of window_size (take i l)) ≡ (i - n) ∷ []
indexed_found ns l i n h x is filled small e =
    let most : n ≤ i = rw is (x.0.1 (key_of (get_or l i 0))) in
    let z : i - 1 - (i - n) ≡ n - 1 = omega arith in
    coded_newest l i (get_or l i 0) (i - n) h small (omega arith) (rw z e)
    (λ k f g q. let later : k < n = rw is (rw q at (x.1 k g)) in omega arith)
