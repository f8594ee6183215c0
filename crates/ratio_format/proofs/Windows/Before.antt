-- The window of ratio i of a list, which is the part of the list before it: the places that it has, the ratio at each, the part itself, and
-- the smallest place of a ratio.
use mathlib.Core.Path.{◌≡◌, sym, ap, ◌∙◌}
use mathlib.Core.List.{List, reverse}
use Prim.Native.Nat.{ℕ, ◌+◌, ◌-◌, ◌≤◌, ◌<◌}
use native.Mathlib.Nat.{lt_of_not-le}
use native.Mathlib.Omega.{arith}
use lib.ListN.{length, take, drop, get_or, length-take, length-reverse}
use lib.Seq.{get_or-take, length-take-le}
use Rattle.ratio_format.specs.Windows.{window_of}
use Rattle.ratio_format.specs.Choice.{find}
use Rattle.ratio_format.proofs.Windows.{reverse-back_at, window_of_lem}
use Rattle.ratio_format.proofs.Choice.{find_at, find_lt, find_first}

module _ (size : ℕ) (l : List ℕ) (i : ℕ) (h : i ≤ length l) where
  abbrev w : List ℕ
  w = window_of size (take i l)

  -- its places are those below its size that the list has
  pub window_inside : (p : ℕ) → p < length w → (p < size) × (p < i)
  window_inside p g =
      let n = length-take size (reverse (take i l)) in
      let m = length-reverse (take i l) in
      let k = length-take-le i l h in
      (omega arith, omega arith)

  pub window_has : (p : ℕ) → p < size → p < i → p < length w
  window_has p g f =
      let n = length-take size (reverse (take i l)) in
      let m = length-reverse (take i l) in
      let k = length-take-le i l h in
      omega arith

  -- place 0 is the newest
  pub window_at_lem : (p : ℕ) → p < size → p < i → get_or w p 0 ≡ get_or l (i - 1 - p) 0
  window_at_lem p g f = get_or-take size (reverse (take i l)) p 0 g ∙ reverse-back_at l i p f h

  -- the part from its start f up to the ratio i
  pub window_part : (f : ℕ) → f ≡ i - size → reverse (take (i - f) (drop f l)) ≡ w
  window_part f e = ap (λ (n : ℕ). reverse (take (i - n) (drop n l))) e ∙ window_of_lem size l i h

  -- the smallest place of v, where the ratio there is equal and no newer one is
  pub find_newest : (v p : ℕ) → p < size → p < i → get_or l (i - 1 - p) 0 ≡ v → ((k : ℕ) → i - 1 - p < k → k < i → get_or l k 0 ≡ v → ⊥) → find v w ≡ p
  find_newest v p small in_List is newest =
      let here : get_or w p 0 ≡ v = window_at_lem p small in_List ∙ is in
      let m = find_lt v w p (window_has p small in_List) here in
      let first : find v w < p + 1 = lt_of_not-le (λ (f : p + 1 ≤ find v w). find_first v w p (omega arith) here) in
      let q = window_inside (find v w) m in
      let last : i - 1 - find v w < i - 1 - p + 1 = lt_of_not-le (λ (f : i - 1 - p + 1 ≤ i - 1 - find v w).
      newest (i - 1 - find v w) (omega arith) (omega arith) (sym (window_at_lem (find v w) q.0 q.1) ∙ find_at v w m)) in
      omega arith
