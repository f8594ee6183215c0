-- `pass_ratios` meets its contract. The invariant: no ratio from k up to `high` has a larger sum.
use Rattle.ratio_window.specs.Passed.{Passed}
use Rattle.ratio_search.proofs.search.pass_ratios.Given as goal

abbrev pub invariant-loop-k : goal.invariant-loop-k
invariant-loop-k l = Passed l.v l.ratios l.p.sum l.k l.high
