-- Laws of the sides that a record stores.
use mathlib.Core.Bool.{true}
use mathlib.Core.Path.{◌≡◌, ap₂}
use Prim.Native.Nat.{ℕ, ◌≤◌}
use borrow.Author.Tests.{leb-true, le-leb}
use lib.Dec.{leb}
use Rattle.lists.specs.Compare.{both}
use Rattle.lists.proofs.Compare.{both_true}
use Rattle.limits.specs.Sides.{max_side, is_side}

pub side_range : (n : ℕ) → is_side n ≡ true → (1 ≤ n) × (n ≤ max_side)
unfolding is_side
side_range n e =
    let h = both_true (leb 1 n) (leb n max_side) e in
    (leb-true 1 n h.0, leb-true n max_side h.1)

pub side_in_lem : (n : ℕ) → 1 ≤ n → n ≤ max_side → is_side n ≡ true
unfolding is_side
side_in_lem n a b = ap₂ both (le-leb 1 n a) (le-leb n max_side b)
