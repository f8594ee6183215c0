-- `lead_at` meets its contract: a code that stands there is by the row that five bits lead to.
use Prim.Native.Nat.{◌/◌, ◌^◌}
use native.Mathlib.Omega.{arith}
use Rattle.position_codec.proofs.table.Numbers.{lead_zero}
use Rattle.position_codec.proofs.recode.Copying.{lead_read}
use Rattle.position_codec.proofs.recode.lead_at.Goals as goal

pub returns-then-w-lt9223372036854775808 : goal.returns-then-w-lt9223372036854775808
returns-then-w-lt9223372036854775808 c =
    lead_read c.args.form c.args.w (record { row = record { index = 0; known = omega arith }; len = 1 }) (lead_zero c.args.form (c.args.w / 2 ^ 59) (omega (arith, c.ranges.w.fits)) (omega (arith, c.if-w-lt9223372036854775808.true)))

pub returns : goal.returns
returns c = lead_read c.args.form c.args.w c.lead_of.result c.lead_of.ensures.0
