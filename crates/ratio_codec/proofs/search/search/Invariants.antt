-- `search` meets its contract. The invariant: the place and the sum are the best of the i newest ratios, and none of them is equal.
use Prim.Native.Nat.{◌-◌}
use lib.ListN.{length}
use Rattle.ratio_codec.proofs.search.Scanned.{Scanned}
use Rattle.ratio_codec.proofs.search.search.Given as goal

abbrev pub invariant-loop-i : goal.invariant-loop-i
invariant-loop-i l = Scanned l.v l.window l.i l.place l.sum

abbrev pub decreases-loop-i : goal.decreases-loop-i
decreases-loop-i l = length l.window - l.i
