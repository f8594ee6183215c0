-- Marks: what the mark of a reference says, and the marks after one ratio more.
use mathlib.Core.Path.{◌≡◌, refl, sym, ap, ◌∙◌, subst}
use mathlib.Core.Bool.{Bool, true, false}
use mathlib.Core.List.{List}
use mathlib.Core.Logic.{◌⊎◌, inl, inr}
use Prim.Native.Nat.{ℕ, ◌+◌, ◌-◌, ◌%◌, ◌≤◌, ◌<◌}
use native.Mathlib.Omega.{arith}
use lib.Dec.{eqb, ltb}
use lib.ListN.{length, get_or, take, set, length-set}
use lib.Seq.{get_or-set_same, get_or-set_other}
use borrow.Author.Tests.{eqb-true, eqb-false, eq-eqb, ne_eqb, ltb-true, ltb-false}
use Rattle.std.specs.Bool.{then_some}
use Rattle.lists.specs.Compare.{begins}
use Rattle.ratio_format.specs.Windows.{window_size, window_of}
use Rattle.ratio_format.specs.Choice.{find}
use Rattle.ratio_format.specs.RatioForms.{coded}
use Rattle.ratio_format.specs.Open.{Ratio, open_one, strict_one}
use Rattle.ratio_format.proofs.Windows.{window_few}
use Rattle.ratio_format.proofs.Choice.{find_first}
use Rattle.ratio_codec.proofs.read.References.{named_begins, named_strict, named_one, named_absent}
use Rattle.ratio_format.proofs.Windows.Before.{window_inside, window_has, window_at_lem, find_newest}
use Rattle.ratio_search.specs.BytePlanes.{slots}
use Rattle.ratio_bodies.specs.Marks.{slot_of, Last, Again, Marks}

-- before the first ratio
pub marks_start : (ms l : List ℕ) → length ms ≡ slots → Marks ms l 0
marks_start ms l e = (e, λ k h g. absurd (omega arith))

module _ (ms l : List ℕ) (i v : ℕ) (marks : Marks ms l i) (h : i ≤ length l) where
  abbrev w : List ℕ
  w = window_of window_size (take i l)

  -- the mark of a place that holds v
  module _ (p : ℕ) (g : p < length w) (e : get_or w p 0 ≡ v) where
    abbrev k : ℕ
    k = i - 1 - p

    abbrev m : ℕ
    m = get_or ms (slot_of i p) 0

    inside : (p < window_size) × (p < i)
    inside = window_inside window_size l i h p g

    here : get_or l k 0 ≡ v
    here = sym (window_at_lem window_size l i h p inside.0 inside.1) ∙ e

    says : (m ≡ 0 → Last l k i) × ((m ≡ 0 → ⊥) → Again l k i)
    says = let n = inside in marks.1 k (omega arith) (omega arith)

    smallest : m ≡ 0 → find v w ≡ p
    smallest z = find_newest window_size l i h v p inside.0 inside.1 here (λ n f g q. says.0 z n f g (q ∙ sym here))

    other : (m ≡ 0 → ⊥) → find v w ≡ p → ⊥
    other z q =
        let n = inside in
        let a = says.1 z in
        let j = i - 1 - a.0 in
        let x : i - 1 - j ≡ a.0 = omega (arith, a.1, a.2) in
        let y = window_at_lem window_size l i h j (omega (arith, a.1, a.2)) (omega (arith, a.1, a.2)) in
        find_first v w j (omega (arith, a.1, a.2)) (y ∙ ap (λ (t : ℕ). get_or l t 0) x ∙ a.3 ∙ here)

    pub mark_decides : eqb m 0 ≡ eqb (find v w) p
    mark_decides = go (eqb m 0) refl
      where
        go : (t : Bool) → eqb m 0 ≡ t → t ≡ eqb (find v w) p
        go true f = sym (eq-eqb (find v w) p (smallest (eqb-true m 0 f)))
        go false f = sym (ne_eqb (find v w) p (other (eqb-false m 0 f)))

    -- a reference to it, whose mark is 0, is read strictly
    pub mark_accepts : (s : List ℕ) → 1 ≤ length s → get_or s 0 0 ≡ p → m ≡ 0 → Ratio v 1 ≡ strict_one w s
    mark_accepts s n is z =
        ap (λ (t : Bool). then_some t (v, 1)) (sym (eq-eqb (find v w) (get_or s 0 0) (smallest z ∙ sym is)))
        ∙ named_strict w v s (n, omega arith, ap (λ (q : ℕ). get_or w q 0) is ∙ e) (window_few window_size (take i l)).0

  -- one ratio more, v at the index i, with the marks ns: what each mark of an older ratio must be
  abbrev Kept : List ℕ → ℕ → Type 0
  Kept ns k =
      ((get_or ns (k % slots) 0 ≡ 0 → ⊥) × (get_or l k 0 ≡ v))
      ⊎ ((get_or ns (k % slots) 0 ≡ get_or ms (k % slots) 0) × (get_or ms (k % slots) 0 ≡ 0 → get_or l k 0 ≡ v → ⊥))

  module _ (ns : List ℕ) (room : i < length l) (size : length ns ≡ slots) (own : get_or ns (i % slots) 0 ≡ 0)
      (kept : (k : ℕ) → k < i → i < k + window_size → Kept ns k) where
    old : (k : ℕ) → k < i → get_or (set l i v) k 0 ≡ get_or l k 0
    old k g = get_or-set_other l i k v 0 (λ q. omega arith)

    new : get_or (set l i v) i 0 ≡ v
    new = get_or-set_same l i v 0 room

    older : (k : ℕ) → k < i → i < k + window_size → Kept ns k
        → (get_or ns (k % slots) 0 ≡ 0 → Last (set l i v) k (i + 1)) × ((get_or ns (k % slots) 0 ≡ 0 → ⊥) → Again (set l i v) k (i + 1))
    older k g f (inl a) = (λ z. absurd (a.0 z), λ z. (i, g, omega arith, new ∙ sym (old k g ∙ a.1)))
    older k g f (inr b) = (
      λ z j x y q. last z j x y q (ltb j i) refl,
      λ z. let a = (marks.1 k g (omega arith)).1 (λ t. z (b.0 ∙ t)) in (a.0, a.1, omega (arith, a.2), old a.0 a.2 ∙ a.3 ∙ sym (old k g)),
    )
      where
        last : get_or ns (k % slots) 0 ≡ 0 → (j : ℕ) → k < j → j < i + 1 → get_or (set l i v) j 0 ≡ get_or (set l i v) k 0 → (t : Bool) → ltb j i ≡ t → ⊥
        last z j x y q true e =
            let d = ltb-true j i e in
            (marks.1 k g (omega arith)).0 (sym b.0 ∙ z) j x d (sym (old j d) ∙ q ∙ old k g)
        last z j x y q false e =
            let d : j ≡ i = omega (arith, ltb-false j i e) in
            b.1 (sym b.0 ∙ z) (sym (old k g) ∙ sym q ∙ ap (λ (t : ℕ). get_or (set l i v) t 0) d ∙ new)

    marks_step : Marks ns (set l i v) (i + 1)
    marks_step = (size, λ k g f. go k g f (eqb k i) refl)
      where
        go : (k : ℕ) → k < i + 1 → i + 1 ≤ k + window_size → (t : Bool) → eqb k i ≡ t
            → (get_or ns (k % slots) 0 ≡ 0 → Last (set l i v) k (i + 1)) × ((get_or ns (k % slots) 0 ≡ 0 → ⊥) → Again (set l i v) k (i + 1))
        go k g f true e =
            let q = eqb-true k i e in
            (λ z j x y. absurd (omega arith), λ z. absurd (z (ap (λ (t : ℕ). get_or ns (t % slots) 0) q ∙ own)))
        go k g f false e =
            let q = eqb-false k i e in
            older k (omega arith) (omega arith) (kept k (omega arith) (omega arith))

  module _ (room : i < length l) where
    -- v is not in the window
    marks_fresh : ((p : ℕ) → p < length w → get_or w p 0 ≡ v → ⊥) → Marks (set ms (i % slots) 0) (set l i v) (i + 1)
    marks_fresh absent =
        marks_step (set ms (i % slots) 0) room (length-set ms (i % slots) 0 ∙ marks.0) (get_or-set_same ms (i % slots) 0 0 (omega (arith, marks.0)))
        (λ k g f. inr (
          get_or-set_other ms (i % slots) (k % slots) 0 0 (λ q. omega arith),
          λ z e.
              let p = i - 1 - k in
              let x : i - 1 - p ≡ k = omega arith in
              absent p (window_has window_size l i h p (omega arith) (omega arith)) (window_at_lem window_size l i h p (omega arith) (omega arith) ∙ ap (λ (t : ℕ). get_or l t 0) x ∙ e),
        ))

    -- v stands at place p, whose mark is 0
    module _ (p : ℕ) (g : p < length w) (e : get_or w p 0 ≡ v) (zero : get_or ms (slot_of i p) 0 ≡ 0) where
      abbrev at : ℕ
      at = slot_of i p

      abbrev j : ℕ
      j = i - 1 - p

      abbrev ns : List ℕ
      ns = set (set ms at 1) (i % slots) 0

      clash : (k : ℕ) → k < i → i < k + window_size → get_or ms (k % slots) 0 ≡ 0 → get_or l k 0 ≡ v → (k ≡ j → ⊥) → (t : Bool) → ltb k j ≡ t → ⊥
      clash k x y z d q true f = let n = inside p g e in (marks.1 k x (omega arith)).0 z j (ltb-true k j f) (omega arith) (here p g e ∙ sym d)
      clash k x y z d q false f = let c = ltb-false k j f in (says p g e).0 zero k (omega arith) x (d ∙ sym (here p g e))

      step : (k : ℕ) → k < i → i < k + window_size → (t : Bool) → eqb k j ≡ t → Kept ns k
      step k x y true f =
          let q = eqb-true k j f in
          let a : get_or ns (k % slots) 0 ≡ 1 =
          get_or-set_other (set ms at 1) (i % slots) (k % slots) 0 0 (λ r. omega arith)
          ∙ ap (λ (t : ℕ). get_or (set ms at 1) (t % slots) 0) q ∙ get_or-set_same ms at 1 0 (omega (arith, marks.0)) in
          inl (λ z. omega arith, ap (λ (t : ℕ). get_or l t 0) q ∙ here p g e)
      step k x y false f =
          let q = eqb-false k j f in
          let n = inside p g e in
          inr (
            get_or-set_other (set ms at 1) (i % slots) (k % slots) 0 0 (λ r. omega arith) ∙ get_or-set_other ms at (k % slots) 1 0 (λ r. q (omega arith)),
            λ z d. clash k x y z d q (ltb k j) refl,
          )

      pub marks_named : Marks ns (set l i v) (i + 1)
      marks_named =
          marks_step ns room (length-set (set ms at 1) (i % slots) 0 ∙ length-set ms at 1 ∙ marks.0)
          (get_or-set_same (set ms at 1) (i % slots) 0 0 (omega (arith, length-set ms at 1, marks.0)))
          (λ k x y. step k x y (eqb k j) refl)

    -- after a ratio was read from n bytes and accepted
    pub marks_more : (s ns : List ℕ) (n : ℕ) → open_one w s ≡ Ratio v n → begins (coded v w) s ≡ true
        → (n ≡ 1 → ns ≡ set (set ms (slot_of i (get_or s 0 0)) 1) (i % slots) 0) → ((n ≡ 1 → ⊥) → ns ≡ set ms (i % slots) 0) → Marks ns (set l i v) (i + 1)
    marks_more s ns n e b one more = go (eqb n 1) refl
      where
        go : (t : Bool) → eqb n 1 ≡ t → Marks ns (set l i v) (i + 1)
        go true f =
            let q = eqb-true n 1 f in
            let d = named_one w v s (e ∙ ap (Ratio v) q) in
            let z : eqb (get_or ms (slot_of i (get_or s 0 0)) 0) 0 ≡ true = mark_decides (get_or s 0 0) d.1 d.2 ∙ sym (named_begins w v s d) ∙ b in
            subst (λ (x : List ℕ). Marks x (set l i v) (i + 1)) (sym (one q))
            (marks_named (get_or s 0 0) d.1 d.2 (eqb-true (get_or ms (slot_of i (get_or s 0 0)) 0) 0 z))
        go false f =
            let q = eqb-false n 1 f in
            subst (λ (x : List ℕ). Marks x (set l i v) (i + 1)) (sym (more q)) (marks_fresh (named_absent w v (window_few window_size (take i l)).0 s n e b q))
