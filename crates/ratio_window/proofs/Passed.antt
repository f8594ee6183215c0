-- Ratios that are passed over: none, one more at either end, one part after the other, and under a larger sum.
use mathlib.Core.Path.{◌≡◌, refl, sym, subst}
use mathlib.Core.Bool.{Bool, true, false}
use mathlib.Core.List.{List}
use Prim.Native.Nat.{ℕ, ◌+◌, ◌-◌, ◌≤◌, ◌<◌}
use native.Mathlib.Omega.{arith}
use borrow.Author.Tests.{leb-true, leb-false}
use lib.Dec.{leb}
use lib.ListN.{get_or}
use Rattle.ratio_format.specs.Zeros.{sum_of}
use Rattle.ratio_window.specs.Passed.{Passed}

module _ (v : ℕ) (l : List ℕ) where
  pub passed_start : (s a : ℕ) → Passed v l s a a
  passed_start s a k h g = absurd (omega arith)

  pub passed_join : (s a b c : ℕ) → Passed v l s a b → Passed v l s b c → Passed v l s a c
  passed_join s a b c p q k h g = go (leb b k) refl
    where
      go : (t : Bool) → leb b k ≡ t → sum_of v (get_or l k 0) ≤ s
      go true e = q k (leb-true b k e) g
      go false e = p k h (leb-false b k e)

  -- one ratio, at the index a
  pub passed_one : (s a : ℕ) → sum_of v (get_or l a 0) ≤ s → Passed v l s a (a + 1)
  passed_one s a e k h g =
      let i : k ≡ a = omega arith in
      subst (λ (j : ℕ). sum_of v (get_or l j 0) ≤ s) (sym i) e

  pub passed_next : (s a b : ℕ) → Passed v l s a b → sum_of v (get_or l b 0) ≤ s → Passed v l s a (b + 1)
  passed_next s a b p e = passed_join s a b (b + 1) p (passed_one s b e)

  pub passed_more : (s q c : ℕ) → 0 < q → sum_of v (get_or l (q - 1) 0) ≤ s → Passed v l s q c → Passed v l s (q - 1) c
  passed_more s q c h e p =
      let i : q - 1 + 1 ≡ q = omega arith in
      passed_join s (q - 1) (q - 1 + 1) c (passed_one s (q - 1) e) (rw i p)

  pub passed_mono : (s r a b : ℕ) → s ≤ r → Passed v l s a b → Passed v l r a b
  passed_mono s r a b h p k g f = omega (arith, p k g f)
