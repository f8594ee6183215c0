-- `put_positions` meets its contract. The loop's invariant: the bits of the points passed are written or held.
use lib.ListN.{take}
use Rattle.bits.specs.Sinks.{Held, PlacedBits}
use Rattle.position_format.specs.Tables.{table_of}
use Rattle.position_format.specs.Positions.{position_bits}
use Rattle.position_codec.proofs.write.put_positions.Given as goal

abbrev pub invariant-loop-i : goal.invariant-loop-i
invariant-loop-i l = Held (position_bits (table_of l.form) (take l.i l.positions)) l.s × PlacedBits (position_bits (table_of l.form) (take l.i l.positions)) l.s.at l.fn.out l.out
