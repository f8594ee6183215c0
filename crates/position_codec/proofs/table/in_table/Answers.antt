-- `in_table` meets its contract: the table holds a step when its last row does.
use mathlib.Core.Path.{ap, ◌∙◌}
use lib.ListN.{get_or}
use mir.Syntax.{w64}
use mir.ValLaws.{to_z-of_z}
use Rattle.position_format.specs.Rows.{wide_rows, holds, no_row}
use Rattle.position_format.proofs.Tables.WideRows.{old-test}
use Rattle.position_codec.proofs.table.in_table.Goals as goal

pub returns : goal.returns
returns c = c.holds.ensures ∙ ap (holds (get_or wide_rows 4 no_row)) (to_z-of_z w64 c.args.z c.ranges.z) ∙ old-test c.args.z
