-- The first place from a place of the window on that holds a ratio: whether it is that place, and what stands before it.
use mathlib.Core.Path.{◌≡◌, sym, ap, ◌∙◌}
use mathlib.Core.List.{List}
use Prim.Native.Nat.{ℕ, ◌+◌, ◌-◌, ◌^◌, ◌≤◌, ◌<◌}
use native.Mathlib.Numerals.{add-one}
use native.Mathlib.Omega.{arith}
use borrow.Author.Tests.{eq-eqb, ne_eqb}
use lib.Dec.{lit<}
use lib.ListN.{length, get_or, drop, length-drop}
use lib.Seq.{drop-cons, drop-length, get_or-drop}
use Rattle.lists.specs.Below.{Below}
use Rattle.lists.proofs.Below.{below_at}
use Rattle.ratio_format.specs.Choice.{find}
use Rattle.ratio_format.proofs.Zeros.Sums.{sum_other}
use Rattle.ratio_format.proofs.Choice.{find_first, find_le}
use Rattle.ratio_window.specs.Passed.{Passed}

module _ (v : ℕ) (w : List ℕ) where
  -- from place i on
  abbrev pub find_from : ℕ → ℕ
  find_from i = i + find v (drop i w)

  pub find_from_here : (i : ℕ) → i < length w → get_or w i 0 ≡ v → i ≡ find_from i
  unfolding find
  find_from_here i h e = rw (drop-cons w i 0 h, eq-eqb v (get_or w i 0) (sym e)) (omega arith)

  pub find_from_next : (i : ℕ) → i < length w → (get_or w i 0 ≡ v → ⊥) → find_from i ≡ find_from (i + 1)
  unfolding find
  find_from_next i h n = rw (drop-cons w i 0 h, ne_eqb v (get_or w i 0) (λ e. n (sym e)), add-one i) (omega arith)

  pub find_from_end : (i : ℕ) → i ≡ length w → i ≡ find_from i
  unfolding find
  find_from_end i e = rw (e, drop-length w) (omega arith)

  pub find_from_le : (i : ℕ) → i ≤ length w → find_from i ≤ length w
  find_from_le i h = omega (arith, find_le v (drop i w), length-drop i w)

  -- what stands before it is not equal
  find_from_first : (i k : ℕ) → i ≤ k → k < find_from i → get_or w k 0 ≡ v → ⊥
  find_from_first i k h g e =
      let q : i + (k - i) ≡ k = omega arith in
      find_first v (drop i w) (k - i) (omega arith) (get_or-drop i w (k - i) 0 ∙ ap (λ (n : ℕ). get_or w n 0) q ∙ e)

  pub find_from_passed : v < 2 ^ 64 → Below (2 ^ 64) w → (i : ℕ) → Passed v w 7 i (find_from i)
  find_from_passed hv ha i k h g = omega (arith, sum_other v (get_or w k 0) hv (below_at (2 ^ 64) (lit< tt) w ha k) (λ e. find_from_first i k h g (sym e)))
