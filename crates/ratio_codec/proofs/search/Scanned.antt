-- A scan of a window from its newest ratio on, as the search goes: the best of the ratios passed, with one more, with more that are passed
-- over, and where it ends.
use mathlib.Core.Path.{◌≡◌, refl, sym, ap, ◌∙◌}
use mathlib.Core.Bool.{Bool, true, false}
use mathlib.Core.List.{List, [], ◌∷◌, ◌++◌, append-nil, reverse}
use Prim.Native.Nat.{ℕ, suc, ◌+◌, ◌-◌, ◌≤◌, ◌<◌}
use native.Mathlib.Numerals.{add-one}
use native.Mathlib.Omega.{arith}
use borrow.Author.Tests.{leb-true, leb-false}
use lib.Dec.{leb}
use lib.ListN.{length, take, drop, get_or, length-take, length-reverse, take-append-drop}
use lib.Seq.{take-suc, take_all, take-add, length-take-le, append_snoc, get_or-take, get_or-drop}
use Rattle.ratio_format.specs.Zeros.{equal_sum, sum_of}
use Rattle.ratio_format.specs.Choice.{Best, newer, best}
use Rattle.ratio_format.proofs.Zeros.Sums.{sum_same}
use Rattle.ratio_format.proofs.Choice.{best_most, best_wins, best_stays}
use Rattle.ratio_format.proofs.Windows.{reverse-back}
use Rattle.ratio_window.specs.Passed.{Passed}
use Rattle.ratio_window.proofs.Passed.{passed_one}
use Rattle.ratio_format.proofs.Zeros.Bounds.{sum_le}

module _ (v : ℕ) where
  -- one ratio more makes the best sum no smaller
  best_grows : (x : ℕ) (w : List ℕ) → (best v w).sum ≤ (best v (x ∷ w)).sum
  best_grows x w = go (leb (best v w).sum (sum_of v x)) refl
    where
      go : (t : Bool) → leb (best v w).sum (sum_of v x) ≡ t → (best v w).sum ≤ (best v (x ∷ w)).sum
      go true e =
          let h = leb-true (best v w).sum (sum_of v x) e in
          omega (arith, ap (λ (b : Best). b.sum) (best_wins v x w refl h))
      go false e = omega (arith, ap (λ (b : Best). b.sum) (best_stays v x w refl (leb-false (best v w).sum (sum_of v x) e)))

  -- one older ratio is better by a larger sum only
  module _ (u : ℕ) where
    older_wins : (w : List ℕ) → (best v w).sum < sum_of v u → best v (w ++ (u ∷ [])) ≡ record { place = length w; sum = sum_of v u }
    older_wins [] h = best_wins v u [] refl (omega arith)
    older_wins (x ∷ w) h =
        best_stays v x (w ++ (u ∷ [])) (older_wins w (omega (arith, best_grows x w))) (omega (arith, best_most v (x ∷ w) 0 (omega arith)))
        ∙ ap (λ (p : ℕ). record { place = p; sum = sum_of v u }) (add-one (length w))

    older_loses : (w : List ℕ) → sum_of v u ≤ (best v w).sum → best v (w ++ (u ∷ [])) ≡ best v w
    unfolding best
    older_loses [] h =
        let e : sum_of v u ≡ 0 = omega arith in
        best_wins v u [] refl (omega arith) ∙ ap (λ (s : ℕ). record { place = 0; sum = s }) e
    older_loses (x ∷ w) h =
        go (older_loses w) (leb (sum_of v u) (best v w).sum) refl (leb (best v w).sum (sum_of v x)) refl
      where
        go : (sum_of v u ≤ (best v w).sum → best v (w ++ (u ∷ [])) ≡ best v w) → (t : Bool) → leb (sum_of v u) (best v w).sum ≡ t
            → (r : Bool) → leb (best v w).sum (sum_of v x) ≡ r → best v (x ∷ (w ++ (u ∷ []))) ≡ best v (x ∷ w)
        go ih true e r f = ap (newer (sum_of v x)) (ih (leb-true (sum_of v u) (best v w).sum e))
        go ih false e true f =
            let g = best_wins v x w refl (leb-true (best v w).sum (sum_of v x) f) in
            best_wins v x (w ++ (u ∷ [])) (older_wins w (leb-false (sum_of v u) (best v w).sum e)) (omega (arith, ap (λ (b : Best). b.sum) g)) ∙ sym g
        go ih false e false f =
            absurd (omega (arith, leb-false (sum_of v u) (best v w).sum e, ap (λ (b : Best). b.sum) (best_stays v x w refl (leb-false (best v w).sum (sum_of v x) f))))

  -- older ratios with no larger sum change nothing
  best-over : (w rest : List ℕ) → Passed v rest (best v w).sum 0 (length rest) → best v (w ++ rest) ≡ best v w
  best-over w [] h = ap (best v) (append-nil w)
  best-over w (x ∷ rest) h =
      let l = older_loses x w (h 0 (omega arith) (omega arith)) in
      let e : (best v (w ++ (x ∷ []))).sum ≡ (best v w).sum = ap (λ (b : Best). b.sum) l in
      ap (best v) (sym (append_snoc w x rest)) ∙ best-over (w ++ (x ∷ [])) rest (λ k f g. rw e (h (suc k) (omega arith) (omega arith))) ∙ l

  -- of the slice l, oldest first: the i newest are passed, none of them is equal, and p and s are the best of them
  abbrev pub Scanned : List ℕ → ℕ → ℕ → ℕ → Type 0
  Scanned l i p s = (i ≤ length l) × (s ≤ 7) × (best v (take i (reverse l)) ≡ record { place = p; sum = s })

  pub scanned_start : (l : List ℕ) → Scanned l 0 0 0
  unfolding best
  scanned_start l = (omega arith, omega arith, refl)

  -- all are passed
  pub scanned_all : (l : List ℕ) (i p s : ℕ) → Scanned l i p s → length l ≤ i → best v (reverse l) ≡ record { place = p; sum = s }
  scanned_all l i p s h g = ap (best v) (sym (take_all i (reverse l) (rw length-reverse g))) ∙ h.2

  -- more are passed, up to r
  module _ (l : List ℕ) (i p s : ℕ) (h : Scanned l i p s) (r : ℕ) (g : i ≤ r) (q : Passed v (reverse l) s i r) where
    abbrev rest : List ℕ
    rest = take (r - i) (drop i (reverse l))

    split : take r (reverse l) ≡ take i (reverse l) ++ rest
    split =
        let e : r ≡ i + (r - i) = omega arith in
        ap (λ (n : ℕ). take n (reverse l)) e ∙ take-add i (r - i) (reverse l)

    passed_rest : Passed v rest (best v (take i (reverse l))).sum 0 (length rest)
    passed_rest k f x =
        let n : k < r - i = omega (arith, length-take (r - i) (drop i (reverse l))) in
        let e : get_or rest k 0 ≡ get_or (reverse l) (i + k) 0 = get_or-take (r - i) (drop i (reverse l)) k 0 n ∙ get_or-drop i (reverse l) k 0 in
        omega (arith, ap (λ (b : Best). b.sum) h.2, ap (sum_of v) e, q (i + k) (omega arith) (omega arith))

    pub scanned_pass : r ≤ length l → Scanned l r p s
    scanned_pass f = (f, h.1, ap (best v) split ∙ best-over (take i (reverse l)) rest passed_rest ∙ h.2)

  -- the next one
  module _ (l : List ℕ) (i p s : ℕ) (h : Scanned l i p s) (g : i < length l) where
    abbrev next : ℕ
    next = get_or l (length l - 1 - i) 0

    more : take (i + 1) (reverse l) ≡ take i (reverse l) ++ (next ∷ [])
    more =
        ap (λ (n : ℕ). take n (reverse l)) (add-one i)
        ∙ take-suc (reverse l) i 0 (rw length-reverse g)
        ∙ ap (λ (u : ℕ). take i (reverse l) ++ (u ∷ [])) (reverse-back l i g)

    passed : length (take i (reverse l)) ≡ i
    passed = length-take-le i (reverse l) (rw length-reverse (omega arith))

    sum_is : (best v (take i (reverse l))).sum ≡ s
    sum_is = ap (λ (b : Best). b.sum) h.2

    wins : s < sum_of v next → best v (take (i + 1) (reverse l)) ≡ record { place = i; sum = sum_of v next }
    wins k =
        ap (best v) more ∙ older_wins next (take i (reverse l)) (omega (arith, sum_is))
        ∙ ap (λ (n : ℕ). record { place = n; sum = sum_of v next }) passed

    pub scanned_wins : s < sum_of v next → sum_of v next ≤ 7 → Scanned l (i + 1) i (sum_of v next)
    scanned_wins k m = (omega arith, m, wins k)

    pub scanned_loses : sum_of v next ≤ s → Scanned l (i + 1) p s
    scanned_loses k = scanned_pass l i p s h (i + 1) (omega arith) (passed_one v (reverse l) s i (rw (reverse-back l i g) k)) (omega arith)

    -- an equal one ends the scan
    pub scanned_equal : next ≡ v → best v (reverse l) ≡ record { place = i; sum = equal_sum }
    scanned_equal e =
        let q : sum_of v next ≡ equal_sum = ap (sum_of v) e ∙ sum_same v in
        let b = wins (omega arith) in
        ap (best v) (sym (take-append-drop (i + 1) (reverse l)))
        ∙ best-over (take (i + 1) (reverse l)) (drop (i + 1) (reverse l))
        (λ k f n. omega (arith, ap (λ (b : Best). b.sum) b, sum_le v (get_or (drop (i + 1) (reverse l)) k 0)))
        ∙ b ∙ ap (λ (n : ℕ). record { place = i; sum = n }) q
