-- The state of the search: the newest ratios of the window are passed, down to an index, and the best of them is known.
use mathlib.Core.Path.{◌≡◌, refl, sym, ap, ◌∙◌, subst}
use mathlib.Core.Bool.{Bool, true, false}
use mathlib.Core.List.{List}
use Prim.Native.Nat.{ℕ, ◌-◌, ◌≤◌, ◌<◌}
use native.Mathlib.Omega.{arith}
use borrow.Author.Tests.{leb-true, leb-false}
use lib.Dec.{leb}
use lib.ListN.{length, take, get_or}
use Rattle.ratio_format.specs.Windows.{window_size, window_of}
use Rattle.ratio_format.specs.Zeros.{equal_sum, sum_of}
use Rattle.ratio_format.proofs.Zeros.Sums.{sum_same}
use Rattle.ratio_window.specs.Searched.{Searched}
use Rattle.ratio_window.specs.Passed.{Passed}
use Rattle.ratio_window.proofs.Passed.{passed_start, passed_more, passed_join, passed_mono}
use Rattle.ratio_format.proofs.Zeros.Bounds.{sum_le}
use Rattle.ratio_window.proofs.Searched.{searched_none, searched_best}

module _ (v : ℕ) (l : List ℕ) (i : ℕ) where
  -- the sum is that of the newest ratio with the largest sum, at the index `at`
  abbrev Holds : ℕ → ℕ → Type 0
  Holds at sum = (i - window_size ≤ at) × (sum_of v (get_or l at 0) ≡ sum) × ((k : ℕ) → at < k → k < i → sum_of v (get_or l k 0) < sum)

  -- the ratios from q on are passed; from 2 on the sum is one that was found
  abbrev pub Searching : ℕ → ℕ → ℕ → ℕ → Type 0
  Searching q at trail sum =
      (q ≤ i) × (at < i) × (trail ≤ sum) × (1 ≤ sum) × (sum ≤ 7) × Passed v l sum q i × (2 ≤ sum → Holds at sum)

  pub searching_start : 0 < i → Searching i (i - 1) 0 1
  searching_start h = (omega arith, omega arith, omega arith, omega arith, omega arith, passed_start v l 1 i, λ g. absurd (omega arith))

  -- the same of equal numbers
  pub searching_as : (q a b t u s r : ℕ) → a ≡ b → t ≡ u → s ≡ r → Searching q b u r → Searching q a t s
  searching_as q a b t u s r e f g h =
      subst (λ (n : ℕ). Searching q n t s) (sym e) (subst (λ (n : ℕ). Searching q b n s) (sym f) (subst (λ (n : ℕ). Searching q b u n) (sym g) h))

  module _ (q at trail sum : ℕ) (s : Searching q at trail sum) where
    -- more ratios are passed
    pub searching_pass : (r : ℕ) → r ≤ q → Passed v l sum r q → Searching r at trail sum
    searching_pass r h p = (omega arith, s.1, s.2, s.3, s.4, passed_join v l sum r q i p s.5, s.6)

    -- all are passed
    pub searching_all : i ≤ length l → q ≤ i - window_size → Searched v (window_of window_size (take i l)) (i - 1 - at) sum
    searching_all h g = go (leb 2 sum) refl
      where
        all : Passed v l sum (i - window_size) i
        all k a b = s.5 k (omega arith) b

        go : (t : Bool) → leb 2 sum ≡ t → Searched v (window_of window_size (take i l)) (i - 1 - at) sum
        go true e =
            let two = leb-true 2 sum e in
            let f = s.6 two in
            searched_best window_size l v i h at sum two f.0 s.1 f.1 f.2 all
        go false e = searched_none window_size l v i h (i - 1 - at) sum (leb-false 2 sum e) all

    -- the next ratio, at q - 1, is counted
    module _ (filled : i - window_size < q) where
      pub searching_wins : (t n : ℕ) → sum_of v (get_or l (q - 1) 0) ≡ n → t ≤ n → n ≤ 7 → sum < n → Searching (q - 1) (q - 1) t n
      searching_wins t n e h g f = (
        omega arith,
        omega arith,
        h,
        omega arith,
        g,
        passed_more v l n q i (omega arith) (omega arith) (passed_mono v l sum n q i (omega arith) s.5),
        λ x. (omega arith, e, λ k a b. omega (arith, s.5 k (omega arith) b)),
      )

      pub searching_loses : sum_of v (get_or l (q - 1) 0) ≤ sum → Searching (q - 1) at trail sum
      searching_loses e = (omega arith, s.1, s.2, s.3, s.4, passed_more v l sum q i (omega arith) e s.5, s.6)

      -- an equal one ends the search
      pub searching_equal : i ≤ length l → get_or l (q - 1) 0 ≡ v → Searched v (window_of window_size (take i l)) (i - q) equal_sum
      searching_equal h e =
          let p : i - 1 - (q - 1) ≡ i - q = omega arith in
          subst (λ (n : ℕ). Searched v (window_of window_size (take i l)) n 16) p
          (searched_best window_size l v i h (q - 1) equal_sum (omega arith) (omega arith) (omega arith) (ap (sum_of v) e ∙ sum_same v)
          (λ k a b. omega (arith, s.5 k (omega arith) b)) (λ k a b. sum_le v (get_or l k 0)))
