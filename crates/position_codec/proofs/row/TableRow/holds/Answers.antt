-- `TableRow::holds` meets its contract: by the ends of the row's range.
use mathlib.Core.Path.{ap, ◌∙◌}
use lib.IntN.{ℤ}
use mir.Syntax.{w64}
use mir.Val.{to_z, of_z}
use mir.ValLaws.{to_z-of_z}
use Rattle.position_format.specs.Rows.{holds}
use Rattle.position_codec.specs.Codes.{row_at}
use Rattle.position_codec.proofs.row.Between.{between}
use Rattle.position_codec.proofs.table.Numbers.{ranged}
use Rattle.position_codec.proofs.row.TableRow.holds.Goals as goal

pub returns : goal.returns
returns c =
    let r = row_at c.args.self in
    let k = ranged c.args.self.index c.args.self.known in
    between r.low r.high (to_z w64 (of_z w64 c.args.z)) _ _ _ _
    (c.new.ensures.start ∙ ap (λ (y : ℤ). to_z w64 (of_z w64 y)) c.range-range.ensures.0 ∙ k.low_back)
    (c.new.ensures.end ∙ ap (λ (y : ℤ). to_z w64 (of_z w64 y)) c.range-range.ensures.1 ∙ k.high_back)
    c.new.ensures.exhausted c.contains.ensures.value
    ∙ ap (holds r) (to_z-of_z w64 c.args.z c.ranges.z)
