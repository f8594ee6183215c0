-- `pass_over` meets its contract: the goals that the check leaves.
use mathlib.Core.List.{reverse}
use Prim.Native.Nat.{◌-◌}
use native.Mathlib.Omega.{arith}
use lib.ListN.{length, get_or}
use Rattle.ratio_format.proofs.Windows.{reverse-back}
use Rattle.ratio_window.proofs.Passed.{passed_next}
use Rattle.ratio_format.proofs.Zeros.Bounds.{sum_under}
use Rattle.ratio_codec.proofs.search.pass_over.Goals as goal

pub loop-i-preserved : goal.loop-i-preserved
loop-i-preserved c =
    let k = length c.args.window.now - 1 - c.loop-i.i in
    λ s q.
    passed_next c.args.v (reverse c.args.window.now) s c.args.from c.loop-i.i (c.loop-i.invariant s q)
    (rw (reverse-back c.args.window.now c.loop-i.i c.loop-i-test.true) (sum_under c.args.v (get_or c.args.window.now k 0) s c.ranges.v.fits (c.type_inv.window k).fits (omega (arith, c.if-x-bound.false)) c.if-x-eq0.false))
