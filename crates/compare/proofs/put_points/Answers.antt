-- `put_points` meets its contract: no index, and one more.
use native.Mathlib.Omega.{arith}
use mathlib.Core.Path.{ap}
use lib.ListN.{length}
use Rattle.std.proofs.lemmas.Grind.{common_steps}
use Rattle.compare.proofs.Pieces.{below_none, below_more}
use Rattle.compare.proofs.put_points.Goals as goal

pub loop-i-init : goal.loop-i-init
loop-i-init c =
    let none = below_none c.args.first.now.positions.now c.args.first.now.ratios.now c.args.second.now.positions.now c.args.second.now.ratios.now in
    (grind (arith, common_steps, none), omega (arith, ap length none))

pub loop-i-preserved : goal.loop-i-preserved
loop-i-preserved c =
    let more = below_more c.args.first.now.positions.now c.args.first.now.ratios.now c.args.second.now.positions.now c.args.second.now.ratios.now c.loop-i.i in
    let before = c.loop-i.invariant in
    (grind (arith, common_steps, more, before.0), grind (arith, common_steps, more, before.1))
