-- `pass_ratios` meets its contract: one ratio more is passed.
use Rattle.std.proofs.Common.{arith}
use Rattle.ratio_format.specs.Zeros.{sum_of}
use Rattle.ratio_window.proofs.Passed.{passed_more}
use Rattle.ratio_search.proofs.search.pass_ratios.Goals as goal

pub loop-k-preserved : goal.loop-k-preserved
unfolding sum_of
loop-k-preserved c =
    passed_more c.args.v c.args.ratios.now c.args.p.sum c.loop-k.k c.args.high (omega arith) (c.beats.ensures c.if-beats.false) c.loop-k.invariant
