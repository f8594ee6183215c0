-- `shared_at` meets its contract: both tables have the first four rows.
use Prim.Native.Nat.{◌<◌}
use native.Mathlib.Omega.{arith}
use Rattle.position_codec.proofs.recode.Copying.{shared_code}
use Rattle.position_codec.proofs.recode.shared_at.Goals as goal

pub returns : goal.returns
returns c =
    let l = c.lead_at-len in
    let four : l.result.row.index < 4 = omega (arith, c.if-row-ge-SHARED_ROWS.false) in
    let few = l.ensures.0 four in
    (few.0, few.1, shared_code c.args.form c.args.w l.result four l.ensures.1)
