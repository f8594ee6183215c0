-- `code_of` meets its contract: the form's table holds the step, and the code is by the step's row.
use mathlib.Core.Path.{◌∙◌}
use native.Mathlib.Omega.{arith}
use mir.Syntax.{w64}
use mir.ValLaws.{to_z-of_z}
use Rattle.position_codec.proofs.Codes.{codable_row}
use Rattle.position_codec.proofs.table.code_of.Goals as goal

pub code_in-requires : goal.code_in-requires
code_in-requires c =
    let f = codable_row c.args.form c.args.z _ c.holding-row.result.index c.requires (to_z-of_z w64 c.args.z c.ranges.z) c.holding-row.ensures in
    (f.0, f.1 ∙ c.in-0.is)

pub code_in-requires-in-1 : goal.code_in-requires-in-1
code_in-requires-in-1 c =
    let f = codable_row c.args.form c.args.z _ c.holding-row.result.index c.requires (to_z-of_z w64 c.args.z c.ranges.z) c.holding-row.ensures in
    (f.0, f.1 ∙ c.in-1.is)

pub code_in-requires-in-2 : goal.code_in-requires-in-2
code_in-requires-in-2 c =
    let f = codable_row c.args.form c.args.z _ c.holding-row.result.index c.requires (to_z-of_z w64 c.args.z c.ranges.z) c.holding-row.ensures in
    (f.0, f.1 ∙ c.in-2.is)

pub code_in-requires-in-3 : goal.code_in-requires-in-3
code_in-requires-in-3 c =
    let f = codable_row c.args.form c.args.z _ c.holding-row.result.index c.requires (to_z-of_z w64 c.args.z c.ranges.z) c.holding-row.ensures in
    (f.0, f.1 ∙ c.in-3.is)

pub code_in-requires-in-4 : goal.code_in-requires-in-4
code_in-requires-in-4 c =
    let f = codable_row c.args.form c.args.z _ c.holding-row.result.index c.requires (to_z-of_z w64 c.args.z c.ranges.z) c.holding-row.ensures in
    (f.0, f.1 ∙ c.in-4.is)

pub code_in-requires-in_default : goal.code_in-requires-in_default
code_in-requires-in_default c =
    let f = codable_row c.args.form c.args.z _ c.holding-row.result.index c.requires (to_z-of_z w64 c.args.z c.ranges.z) c.holding-row.ensures in
    (f.0, omega (arith, f.1, c.holding-row.result.known))
