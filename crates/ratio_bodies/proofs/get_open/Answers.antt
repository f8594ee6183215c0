-- `get_open` meets its contract: the goals that the check leaves.
use Rattle.std.proofs.Common.{◌≡◌}
use native.Mathlib.Omega.{arith}
use Rattle.ratio_format.specs.Open.{open_one}
use Rattle.ratio_format.proofs.Bodies.Taken.{open_within}
use Rattle.ratio_bodies.proofs.Taking.{taking_all, taking_stop, taking_within, taking_more, onto_into}
use Rattle.ratio_bodies.proofs.get_open.Goals as goal

pub returns-in_default : goal.returns-in_default
returns-in_default c = onto_into open_one c.args.count c.args.body.now c.args.out.now c.loop-i.out (record { count = c.loop-i.i; used = c.loop-i.at })
    (taking_stop open_one c.args.count c.args.body.now c.args.out.now 0 0 c.loop-i.out c.loop-i.at c.loop-i.i c.loop-i.invariant (omega arith) c.open_from.result c.open_from.ensures c.in_default.is)

pub overflow_add-at : goal.overflow_add-at
overflow_add-at c = omega (arith, taking_within open_one c.args.count c.args.body.now c.args.out.now 0 0 c.loop-i.out c.loop-i.at c.loop-i.i c.loop-i.invariant (omega arith) c.open_from.result c.open_from.ensures open_within c.in-Some.v c.in-Some.n c.in-Some.is)

pub loop-i-preserved : goal.loop-i-preserved
loop-i-preserved c = taking_more open_one c.args.count c.args.body.now c.args.out.now 0 0 c.loop-i.out c.loop-i.at c.loop-i.i c.loop-i.invariant (omega arith) c.open_from.result c.open_from.ensures open_within c.in-Some.v c.in-Some.n c.in-Some.is c.requires

pub returns : goal.returns
returns c =
    let e : c.loop-i.i ≡ c.args.count = omega arith in
    onto_into open_one c.args.count c.args.body.now c.args.out.now c.loop-i.out (record { count = c.args.count; used = c.loop-i.at })
    (rw e at (taking_all open_one c.args.count c.args.body.now c.args.out.now 0 0 c.loop-i.out c.loop-i.at c.loop-i.i c.loop-i.invariant (omega arith)))
