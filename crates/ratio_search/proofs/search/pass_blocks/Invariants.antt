-- `pass_blocks` meets its contract. The invariant: every ratio from h up to `high` is passed.
use Prim.Native.Nat.{◌≤◌}
use Rattle.ratio_search.proofs.pairs.Blocks.{Behind}
use Rattle.ratio_search.proofs.search.pass_blocks.Given as goal

abbrev pub invariant-loop-h : goal.invariant-loop-h
invariant-loop-h l = (l.h ≤ l.high) × Behind l.v l.ratios l.p.sum l.from l.high l.h

abbrev pub decreases-loop-h : goal.decreases-loop-h
decreases-loop-h l = l.h
