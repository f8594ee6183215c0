-- `TableRow::holding` meets its contract: the goals that the check leaves.
use mathlib.Core.Path.{sym, ap, ◌∙◌}
use native.Mathlib.Numerals.{add-one}
use native.Mathlib.Omega.{arith}
use lib.ListN.{get_or}
use mir.Syntax.{w64}
use mir.ValLaws.{to_z-of_z}
use Rattle.position_format.specs.Rows.{wide_rows, holds, no_row}
use Rattle.position_format.proofs.Rows.Codes.{row-found, row_later}
use Rattle.position_format.proofs.Tables.WideRows.{wide_count, last_holds}
use Rattle.position_codec.proofs.row.TableRow.holding.Goals as goal

pub returns-then-holds : goal.returns-then-holds
returns-then-holds c =
    let i = c.loop-index.index in
    let step_is = to_z-of_z w64 c.args.z c.ranges.z in
    row-found wide_rows c.args.z i (rw step_is at c.loop-index.invariant) (omega (arith, c.loop-index-test.true, wide_count))
    (sym (c.holds.ensures ∙ ap (holds (get_or wide_rows i no_row)) step_is) ∙ c.if-holds.true)

pub loop-index-preserved : goal.loop-index-preserved
loop-index-preserved c =
    let i = c.loop-index.index in
    let step_is = to_z-of_z w64 c.args.z c.ranges.z in
    rw (add-one, step_is)
    (row_later wide_rows c.args.z i (rw step_is at c.loop-index.invariant) (omega (arith, c.loop-index-test.true, wide_count))
    (sym (c.holds.ensures ∙ ap (holds (get_or wide_rows i no_row)) step_is) ∙ c.if-holds.false))

pub returns : goal.returns
returns c =
    let step_is = to_z-of_z w64 c.args.z c.ranges.z in
    row-found wide_rows c.args.z 5 (omega (arith, rw step_is at c.loop-index.invariant, c.loop-index-test.false)) (omega (arith, wide_count))
    (last_holds c.args.z c.ranges.z.sfits)
