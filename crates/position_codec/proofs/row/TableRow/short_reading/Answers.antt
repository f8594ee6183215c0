-- `TableRow::short_reading` meets its contract: the number counted from the row's lowest step.
use mathlib.Core.Path.{ap, ◌∙◌}
use Prim.Native.Nat.{ℕ, ◌+◌, ◌-◌, ◌/◌, ◌%◌, ◌^◌, ◌≤◌, ◌<◌}
use native.Mathlib.Nat.{mod-lt, le_trans, sub-le}
use native.Mathlib.Omega.{arith}
use lib.IntN.{pos, ◌-ℤ◌}
use Rattle.integers.proofs.Machine.{diff_back}
use Rattle.position_format.specs.declared.Form.TheVariants.{Wide}
use Rattle.position_format.specs.Rows.{wide_rows}
use Rattle.position_format.proofs.Tables.{form_sound}
use Rattle.position_format.proofs.Rows.Ranges.{reading-counted}
use Rattle.position_format.proofs.Tables.WideRows.{wide_count}
use Rattle.position_codec.proofs.row.TableRow.short_reading.Goals as goal

counted_lt : (x : ℕ) {m : ℕ} → 0 < m → m ≤ 2 ^ 57 → x % m < 2 ^ 62
counted_lt x nonzero few = omega (arith, mod-lt x nonzero)

half_lt : {m : ℕ} → m ≤ 2 ^ 57 → m / 2 < 2 ^ 62
half_lt few = omega arith

pub returns : goal.returns
returns c = diff_back _ _ (counted_lt _ c.size-size.ensures.1 c.size-size.ensures.2) (half_lt (le_trans (sub-le _ _) c.size-size.ensures.2))
    ∙ ap (λ (m : ℕ). pos ((c.args.x + (m - 1) / 2) % m) -ℤ pos ((m - 1) / 2)) c.size-size.ensures.0
    ∙ reading-counted wide_rows (form_sound Wide).good 57 (form_sound Wide).even c.args.self.index (omega (arith, c.args.self.known, wide_count)) c.args.x c.requires.0 c.requires.1
