-- `TableRow::short_early` meets its contract: the number counted from the lowest step of the row before.
use mathlib.Core.Path.{ap₂, ◌∙◌}
use Prim.Native.Nat.{ℕ, ◌+◌, ◌-◌, ◌/◌, ◌%◌}
use lib.Dec.{ltb}
use native.Mathlib.Omega.{arith}
use Rattle.position_format.specs.declared.Form.TheVariants.{Wide}
use Rattle.position_format.specs.Rows.{wide_rows}
use Rattle.position_format.proofs.Tables.{form_sound}
use Rattle.position_format.proofs.Rows.Ranges.{before-counted, width_before}
use Rattle.position_format.proofs.Tables.WideRows.{wide_count}
use Rattle.position_codec.proofs.row.TableRow.short_early.Goals as goal

pub size-before-requires : goal.size-before-requires
size-before-requires c =
    width_before wide_rows (form_sound Wide).good (form_sound Wide).widens c.args.self.index 57 c.requires.0 (omega (arith, c.args.self.known, wide_count)) c.requires.2

pub returns : goal.returns
returns c =
    ap₂ (λ (m n : ℕ). ltb ((c.args.x + (n - 1) / 2) % m) n) c.size-size.ensures.0
    c.size-before.ensures.0
    ∙ before-counted wide_rows (form_sound Wide).good 57 (form_sound Wide).even c.args.self.index (omega (arith, c.args.self.known, wide_count)) c.args.x c.requires.1 c.requires.2
    (form_sound Wide).widens c.requires.0
