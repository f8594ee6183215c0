-- Laws of the bound on positions.
use mathlib.Core.Bool.{Bool, true, false}
use mathlib.Core.List.{List}
use mathlib.Core.Path.{◌≡◌, refl, sym}
use Prim.Native.Nat.{ℕ, ◌≤◌, ◌<◌, ◌^◌}
use native.Mathlib.Omega.{arith}
use borrow.Author.Tests.{ltb-true, ltb-false}
use lib.Dec.{ltb}
use lib.ListN.{length, get_or, get_or-eq_default}
use Rattle.std.proofs.Common.{Option, Some, None, cond, MatchOption, one-add}
use Rattle.std.specs.List.{position, position_or_len}
use Rattle.std.proofs.lemmas.List.Recursion.{is_position_or_len}
use Rattle.lists.specs.Lists.{first_index}
use Rattle.limits.specs.Points.{max_position, too_high, first_high}
use Rattle.lists.specs.Below.{Below}
use Rattle.lists.proofs.Below.{below_at, below_of}
use Rattle.lists.proofs.Lists.{first_le, first_below, first_at}

-- where no position is too high, each is below 2 ^ 62
pub high_none : (ts : List ℕ) → length ts ≤ first_high ts → (k : ℕ) → k < length ts → get_or ts k 0 < 2 ^ 62
high_none ts h k k< = omega (arith, ltb-false max_position (get_or ts k 0) (first_below too_high 0 ts k (omega arith)))

pub high_below : (ts : List ℕ) → length ts ≤ first_high ts → Below (2 ^ 62) ts
high_below ts h = below_of (2 ^ 62) ts (λ k. go k (ltb k (length ts)) refl)
  where
    go : (k : ℕ) (t : Bool) → ltb k (length ts) ≡ t → get_or ts k 0 < 2 ^ 62
    go k true e = high_none ts h k (ltb-true k (length ts) e)
    go k false e = omega (arith, get_or-eq_default ts 0 (ltb-false k (length ts) e))

-- and where each is, none is too high
pub none_high : (ts : List ℕ) → Below (2 ^ 62) ts → length ts ≤ first_high ts
none_high ts low = go (ltb (first_high ts) (length ts)) refl
  where
    go : (t : Bool) → ltb (first_high ts) (length ts) ≡ t → length ts ≤ first_high ts
    go true e =
        let high = first_at too_high 0 ts (ltb-true (first_high ts) (length ts) e) in
        absurd (omega (arith, below_at (2 ^ 62) (omega arith) ts low (first_high ts), ltb-true max_position (get_or ts (first_high ts) 0) high))
    go false e = ltb-false (first_high ts) (length ts) e

-- a search through the positions finds it
pub high_found : (ts : List ℕ) (r : Option ℕ) → r ≡ position too_high ts → MatchOption r (first_high ts ≡ length ts) (λ i. (i ≡ first_high ts) × (i < length ts))
unfolding first_index
high_found ts r e = rw e (go (ltb (position_or_len too_high ts) (length ts)) refl)
  where
    same : first_high ts ≡ position_or_len too_high ts
    same = is_position_or_len (first_index too_high) too_high refl (λ x xs. rw one-add refl) ts

    go : (t : Bool) → ltb (position_or_len too_high ts) (length ts) ≡ t → MatchOption (cond t (Some (position_or_len too_high ts)) None) (first_high ts ≡ length ts) (λ i. (i ≡ first_high ts) × (i < length ts))
    go true l = (sym same, ltb-true (position_or_len too_high ts) (length ts) l)
    go false l = omega (arith, same, first_le too_high ts, ltb-false (position_or_len too_high ts) (length ts) l)
