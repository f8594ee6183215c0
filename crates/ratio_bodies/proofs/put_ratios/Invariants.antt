-- `put_ratios` meets its contract. The invariant: the coding of the first i ratios stands at the front, and the rest stays; the planes are
-- those of the ratios before `done`, and the index that of the ratios before i, but for the last repeats.
use Prim.Native.Nat.{◌-◌}
use lib.ListN.{length}
use Rattle.ratio_search.specs.BytePlanes.{KeptTo}
use Rattle.ratio_bodies.specs.Indexes.{NearlyIndexed}
use Rattle.ratio_bodies.proofs.PutRatios.{Writing}
use Rattle.ratio_bodies.proofs.put_ratios.Given as goal

abbrev pub invariant-loop-i : goal.invariant-loop-i
invariant-loop-i l = Writing l.ratios l.initial.out l.out l.at l.i × KeptTo l.planes l.ratios l.i × NearlyIndexed l.newest l.ratios l.i

abbrev pub decreases-loop-i : goal.decreases-loop-i
decreases-loop-i l = length l.ratios - l.i
