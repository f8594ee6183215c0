-- `read_stretch` meets its contract. The invariant: the first i ratios stand in the array, and with what reading on from there takes they are all
-- that is taken; the planes are those of the ratios before `done`, and the marks those of the window of ratio i.
use Prim.Native.Nat.{◌-◌}
use Rattle.ratio_format.specs.Open.{strict_one}
use Rattle.ratio_bodies.specs.Taking.{Taking, Ready}
use Rattle.ratio_bodies.proofs.stretch.read_stretch.Given as goal

abbrev pub invariant-loop-i : goal.invariant-loop-i
invariant-loop-i l = Taking strict_one l.to l.body l.initial.ratios l.from l.begun l.ratios l.at l.i × Ready l.planes l.again l.ratios l.i

abbrev pub decreases-loop-i : goal.decreases-loop-i
decreases-loop-i l = l.to - l.i
