-- `step_at` meets its contract: no position is too high.
use Prim.Native.Nat.{◌-◌}
use native.Mathlib.Omega.{arith}
use Rattle.limits.proofs.Points.{high_none}
use Rattle.position_codec.proofs.write.step_at.Goals as goal

pub invariant_of-two : goal.invariant_of-two
invariant_of-two c = record {
  before_small = high_none c.args.positions.now c.requires.2 (c.args.i - 2) (omega arith);
  last_small = high_none c.args.positions.now c.requires.2 (c.args.i - 1) (omega arith);
}

pub step_to-requires : goal.step_to-requires
step_to-requires c = high_none c.args.positions.now c.requires.2 c.args.i (omega arith)
