-- What a search answers, from the sums of the ratios of a list that are the window of ratio i: that no sum is 2 or more, or that an index
-- has the largest.
use mathlib.Core.Path.{◌≡◌, sym, ap, ◌∙◌}
use mathlib.Core.List.{List}
use Prim.Native.Nat.{ℕ, ◌+◌, ◌-◌, ◌≤◌, ◌<◌}
use native.Mathlib.Nat.{lt_of_not-le}
use native.Mathlib.Omega.{arith}
use lib.ListN.{length, take, get_or}
use Rattle.ratio_format.specs.Windows.{window_of}
use Rattle.ratio_format.specs.Zeros.{sum_of}
use Rattle.ratio_format.specs.Choice.{best}
use Rattle.ratio_format.proofs.Choice.{best_at, best_most, best-first}
use Rattle.ratio_window.specs.Searched.{Searched}
use Rattle.ratio_window.specs.Passed.{Passed}
use Rattle.ratio_format.proofs.Windows.Before.{window_inside, window_has, window_at_lem}

module _ (size : ℕ) (l : List ℕ) (v i : ℕ) (h : i ≤ length l) where
  abbrev w : List ℕ
  w = window_of size (take i l)

  -- no sum of the window is above s
  best_passed : (s : ℕ) → Passed v l s (i - size) i → 0 < (best v w).sum → (best v w).sum ≤ s
  best_passed s a g =
      let b = best_at v w g in
      let p = (best v w).place in
      let q = window_inside size l i h p b.0 in
      omega (arith, a (i - 1 - p) (omega arith) (omega arith), sym b.1 ∙ ap (sum_of v) (window_at_lem size l i h p q.0 q.1))

  pub searched_none : (p s : ℕ) → s < 2 → Passed v l s (i - size) i → Searched v w p s
  searched_none p s g a =
      (λ k. absurd (omega arith), λ k. lt_of_not-le (λ (f : 2 ≤ (best v w).sum). omega (arith, best_passed s a (omega arith))))

  -- the newest ratio with the largest sum, from 2 on
  module _ (at s : ℕ) (two : 2 ≤ s) (from : i - size ≤ at) (to : at < i) (has : sum_of v (get_or l at 0) ≡ s)
      (newer : (k : ℕ) → at < k → k < i → sum_of v (get_or l k 0) < s) (all : Passed v l s (i - size) i) where
    abbrev p : ℕ
    p = i - 1 - at

    at_is : get_or w p 0 ≡ get_or l at 0
    at_is =
        let e : i - 1 - p ≡ at = omega arith in
        window_at_lem size l i h p (omega arith) (omega arith) ∙ ap (λ (k : ℕ). get_or l k 0) e

    sum_here : sum_of v (get_or w p 0) ≡ s
    sum_here = ap (sum_of v) at_is ∙ has

    sum_is : s ≡ (best v w).sum
    sum_is =
        let m = best_most v w p (window_has size l i h p (omega arith) (omega arith)) in
        let g : s ≤ (best v w).sum = omega (arith, sum_here) in
        omega (arith, best_passed s all (omega arith))

    place_is : p ≡ (best v w).place
    place_is =
        let b = best_at v w (omega (arith, sum_is)) in
        let q = (best v w).place in
        let n = window_inside size l i h q b.0 in
        let low : q ≤ p = omega (arith, lt_of_not-le (λ (f : p + 1 ≤ q). omega (arith, best-first v w p (omega arith), sum_here, sum_is))) in
        let high : p ≤ q =
        omega (arith, lt_of_not-le (λ (f : q + 1 ≤ p). omega (arith, newer (i - 1 - q) (omega arith) (omega arith), sym b.1 ∙ ap (sum_of v) (window_at_lem size l i h q n.0 n.1), sum_is))) in
        omega arith

    pub searched_best : Searched v w p s
    searched_best = (λ k. (place_is, sum_is), λ k. absurd (omega arith))
