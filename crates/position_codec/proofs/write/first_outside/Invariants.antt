-- `first_outside` meets its contract. The loop's invariant: the table holds the step at each point passed.
use Prim.Native.Nat.{◌≤◌}
use Rattle.position_format.specs.Rows.{rows}
use Rattle.position_format.specs.Steps.{first_outside}
use Rattle.position_codec.proofs.write.first_outside.Given as goal

abbrev pub invariant-loop-i : goal.invariant-loop-i
invariant-loop-i l = l.i ≤ first_outside rows l.positions
