-- `TableRow::holding` meets its contract. The loop's invariant: no row passed holds the step; the last row holds every one.
use Prim.Native.Nat.{◌≤◌}
use Rattle.position_format.specs.Rows.{wide_rows, row_of}
use Rattle.position_codec.proofs.row.TableRow.holding.Given as goal

abbrev pub invariant-loop-index : goal.invariant-loop-index
invariant-loop-index l = l.index ≤ row_of wide_rows l.z
