-- `walk_positions` meets its contract. The loop's invariant: some positions are read and stand in the output as far as it has room, and the body can be
-- the coding of no others.
use Rattle.position_format.specs.Tables.{table_of}
use Rattle.position_codec.proofs.read.State.{Walked}
use Rattle.position_codec.proofs.read.walk_positions.Given as goal

abbrev pub invariant-loop-i : goal.invariant-loop-i
invariant-loop-i l = Walked (table_of l.form) l.count l.body l.initial.out l.out l.at l.two.0 l.two.1.0 l.i
