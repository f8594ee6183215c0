-- `suspect` meets its contract: the goals that the check leaves.
use mathlib.Core.Logic.{⊎_map}
use Prim.Native.Nat.{◌+◌, ◌-◌, ◌*◌}
use native.Mathlib.Omega.{arith}
use Rattle.ratio_search.specs.BytePlanes.{slots}
use Rattle.ratio_search.proofs.pairs.Blocks.{quiet_more, slot_differs}
use Rattle.ratio_search.proofs.pairs.suspect.Goals as goal

pub loop-j-preserved : goal.loop-j-preserved
loop-j-preserved c = λ e. quiet_more c.args.planes.now
    (c.args.p.a * slots + c.args.slot) c.byte_of-x.result (c.args.p.b * slots + c.args.slot) c.byte_of-y.result
    (c.args.p.c * slots + c.args.slot) c.byte_of-z.result (c.args.p.d * slots + c.args.slot) c.byte_of-w.result
    c.loop-j.any c.loop-j.j c.loop-j.invariant e

pub returns : goal.returns
returns c = λ e t h g.
    ⊎_map
    (slot_differs c.args.planes.now c.args.v c.args.p.a c.args.p.b c.args.slot _ _ t c.byte_of-x.ensures c.byte_of-y.ensures h)
    (slot_differs c.args.planes.now c.args.v c.args.p.c c.args.p.d c.args.slot _ _ t c.byte_of-z.ensures c.byte_of-w.ensures h)
    (c.loop-j.invariant e (t - c.args.slot) (omega arith))
