-- `TableRow::short_step` meets its contract: the row before is the only one that is asked.
use mathlib.Core.Path.{sym, ◌∙◌}
use mir.Syntax.{w64}
use mir.ValLaws.{to_z-of_z}
use Rattle.position_codec.proofs.Found.StepFound.{table_early, table_first}
use Rattle.position_codec.proofs.row.TableRow.short_step.Goals as goal

pub returns-then-short_early : goal.returns-then-short_early
returns-then-short_early c = table_early c.args.self c.requires.0 c.args.x c.requires.1 (sym c.short_early.ensures ∙ c.if-short_early.true)

pub returns : goal.returns
returns c =
    table_first c.args.self c.requires.0 c.args.x c.requires.1 (sym c.short_early.ensures ∙ c.if-short_early.false) _
    (to_z-of_z w64 c.short_reading-z.result (record { sfits = c.short_reading-z.type_inv }) ∙ c.short_reading-z.ensures)
