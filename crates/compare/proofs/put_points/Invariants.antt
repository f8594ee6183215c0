-- The lines of the indices below i are put.
use mathlib.Core.Path.{◌≡◌}
use mathlib.Core.List.{◌++◌}
use Prim.Native.Nat.{◌*◌, ◌≤◌}
use lib.ListN.{length}
use Rattle.compare.specs.Pieces.{lines_below}
use Rattle.compare.specs.Printed.{line_limit}
use Rattle.compare.proofs.put_points.Given as goal

abbrev pub invariant-loop-i : goal.invariant-loop-i
invariant-loop-i l =
    let below = lines_below l.first.positions.now l.first.ratios.now l.second.positions.now l.second.ratios.now l.i in
    (l.out ≡ l.initial.out ++ below) × (length below ≤ line_limit * 2 * l.i)
