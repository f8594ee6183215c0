-- `first_outside` meets its contract: the goals that the check leaves.
use mathlib.Core.Bool.{not}
use mathlib.Core.Path.{ap, ◌∙◌}
use native.Mathlib.Omega.{arith}
use mir.Syntax.{w64}
use mir.ValLaws.{to_z-of_z}
use Rattle.position_format.specs.Rows.{rows, in_table}
use Rattle.position_format.proofs.Points.{outside_here, outside_later}
use Rattle.position_codec.proofs.write.first_outside.Goals as goal

pub returns-then-not-in_table : goal.returns-then-not-in_table
returns-then-not-in_table c =
    let l = c.loop-i in
    let tested = c.in_table.ensures ∙ ap (in_table rows) (to_z-of_z w64 c.step_at.result (record { sfits = c.step_at.type_inv }) ∙ c.step_at.ensures) in
    let here = outside_here rows c.args.positions.now l.i l.auto.i c.loop-i-test.true l.invariant c.in_table.result tested (ap not c.if-not-in_table.true) in
    (omega (arith, here, c.loop-i-test.true), here)

pub loop-i-preserved : goal.loop-i-preserved
loop-i-preserved c =
    let l = c.loop-i in
    let tested = c.in_table.ensures ∙ ap (in_table rows) (to_z-of_z w64 c.step_at.result (record { sfits = c.step_at.type_inv }) ∙ c.step_at.ensures) in
    omega (arith, outside_later rows c.args.positions.now l.i l.auto.i c.loop-i-test.true l.invariant c.in_table.result tested (ap not c.if-not-in_table.false))
