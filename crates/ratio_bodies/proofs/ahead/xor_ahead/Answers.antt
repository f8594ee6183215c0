-- `xor_ahead` meets its contract: a law for each outcome.
use Prim.Native.Nat.{◌/◌, ◌%◌}
use native.Mathlib.Omega.{arith}
use lib.ListN.{get_or}
use Rattle.ratio_format.proofs.Zeros.{raised_fits}
use Rattle.ratio_bodies.proofs.ahead.FirstByte.{xor-ahead_high, xor-ahead_good}
use Rattle.ratio_bodies.proofs.ahead.xor_ahead.Goals as goal

pub returns-then-trail-len-gt8 : goal.returns-then-trail-len-gt8
returns-then-trail-len-gt8 c = xor-ahead_high c.args.u c.args.at c.args.body.now c.requires (omega (arith, c.if-trail-len-gt8.true))

pub raised-requires : goal.raised-requires
raised-requires c =
    let b = get_or c.args.body.now c.args.at 0 in
    (omega arith, raised_fits c.get_first-m.result (b % 16) (b / 16) c.get_first-m.ensures.1 c.if-trail-len-gt8.false)

pub returns : goal.returns
returns c = xor-ahead_good c.args.u c.args.at c.args.body.now c.requires c.get_first-m.result c.raised.result c.if-trail-len-gt8.false c.get_first-m.ensures.0 c.raised.ensures
