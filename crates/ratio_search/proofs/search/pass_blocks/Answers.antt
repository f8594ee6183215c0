-- `pass_blocks` meets its contract: the goals that the check leaves.
use native.Mathlib.Omega.{arith}
use Rattle.ratio_search.proofs.pairs.Blocks.{behind_block}
use Rattle.ratio_search.proofs.search.pass_blocks.Goals as goal

pub loop-h-preserved : goal.loop-h-preserved
loop-h-preserved c = (
  omega arith,
  behind_block c.args.planes.now c.args.ratios.now c.args.v c.args.p.sum c.args.from c.args.high c.loop-h.h c.args.p.a c.args.p.b c.args.p.c c.args.p.d
      c.requires.0 c.args.p.first c.args.p.second (omega arith) c.loop-h.invariant.0 c.loop-h.invariant.1 (c.suspect.ensures c.if-suspect.false),
)
