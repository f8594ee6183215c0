-- `TableRow::range` meets its contract: the table holds the ends of the row's range.
use Rattle.position_codec.proofs.table.Numbers.{ranged}
use Rattle.position_codec.proofs.row.TableRow.range.Goals as goal

pub returns : goal.returns
returns c = let r = ranged c.args.self.index c.args.self.known in (r.low_is, r.high_is)
