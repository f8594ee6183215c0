-- `TableRow::width` meets its contract: the widths stand in one word.
use mathlib.Core.Path.{◌∙◌}
use Rattle.position_codec.proofs.table.Numbers.{ranged}
use Rattle.position_codec.proofs.row.TableRow.width.Goals as goal

pub returns : goal.returns
returns c = c.byte_of.ensures ∙ (ranged c.args.self.index c.args.self.known).wide
