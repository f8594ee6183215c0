-- `recode_positions` meets its contract. The loop's invariant: the bits of the points passed are copied with the other form's prefixes, and none of their
-- steps is outside. The measure is how many are left. Since the body is the coding of positions each code is there.
use Prim.Native.Nat.{◌-◌}
use Rattle.position_codec.specs.Coded.{positions_of}
use Rattle.position_codec.proofs.recode.State.{Recoding}
use Rattle.position_codec.proofs.recode.recode_positions.Given as goal

abbrev pub invariant-loop-i : goal.invariant-loop-i
invariant-loop-i l = Recoding l.from l.to l.count (positions_of l.coded) l.fn.out l.out l.i l.at l.s

abbrev pub decreases-loop-i : goal.decreases-loop-i
decreases-loop-i l = l.count - l.i
