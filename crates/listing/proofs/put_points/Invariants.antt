-- The text so far, with the lines of the points that are left behind it, is the whole text, and the lines so far have at most 38 bytes each.
use mathlib.Core.Path.{◌≡◌}
use mathlib.Core.List.{◌++◌}
use Prim.Native.Nat.{◌+◌, ◌*◌, ◌≤◌}
use lib.ListN.{length}
use Rattle.std.specs.Iterator.Adapters.{zip_first, zip_second}
use Rattle.std.specs.Slice.Iter.{iter_rest}
use Rattle.listing.specs.Lines.{point_lines}
use Rattle.listing.proofs.put_points.Given as goal

abbrev pub invariant-loop-position : goal.invariant-loop-position
invariant-loop-position l =
    let ts = iter_rest (zip_first l.position-iterator) in
    let vs = iter_rest (zip_second l.position-iterator) in
    (goal.iterator-loop-position).can_next l.position-iterator
    × (goal.iterator-loop-position).is_finite l.position-iterator
    × (length ts ≡ length vs)
    × (l.out ++ point_lines ts vs ≡ l.initial.out ++ point_lines l.positions l.ratios)
    × (length l.out + 38 * length ts ≤ length l.initial.out + 38 * length l.positions)
