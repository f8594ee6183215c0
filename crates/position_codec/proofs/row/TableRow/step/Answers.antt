-- `TableRow::step` meets its contract: the row before is the only one that is asked.
use mathlib.Core.Path.{sym, ap, ◌∙◌}
use Prim.Native.Nat.{◌-◌}
use lib.ListN.{get_or}
use mir.Syntax.{w64}
use mir.ValLaws.{to_z-of_z}
use Rattle.position_format.specs.Rows.{wide_rows, holds, no_row}
use Rattle.position_codec.proofs.Found.StepFound.{table_early, table_first}
use Rattle.position_codec.proofs.row.TableRow.step.Goals as goal

pub returns-then-holds : goal.returns-then-holds
returns-then-holds c =
    let step_is = to_z-of_z w64 c.reading-z.result (record { sfits = c.reading-z.type_inv }) ∙ c.reading-z.ensures in
    let asked = c.holds.ensures ∙ ap (holds (get_or wide_rows (c.args.self.index - 1) no_row)) step_is in
    table_early c.args.self c.requires.0 c.args.x c.requires.1 (sym asked ∙ c.if-holds.true)

pub returns : goal.returns
returns c =
    let step_is = to_z-of_z w64 c.reading-z.result (record { sfits = c.reading-z.type_inv }) ∙ c.reading-z.ensures in
    let asked = c.holds.ensures ∙ ap (holds (get_or wide_rows (c.args.self.index - 1) no_row)) step_is in
    table_first c.args.self c.requires.0 c.args.x c.requires.1 (sym asked ∙ c.if-holds.false) _ step_is
