-- `read_through` meets its contract. The invariant: those that were read are counted, and the last of them stand in the array with what strict
-- reading keeps of them; where the array has room for all, nothing was read yet. The measure is how many there can still be.
use mathlib.Core.Path.{◌≡◌}
use Prim.Native.Nat.{◌+◌, ◌-◌, ◌≤◌}
use lib.ListN.{length, take}
use Rattle.ratio_bodies.specs.Taking.{Ready}
use Rattle.ratio_bodies.proofs.through.Counting.{Counted}
use Rattle.ratio_bodies.proofs.through.read_through.Given as goal

abbrev pub invariant-loop-planes : goal.invariant-loop-planes
invariant-loop-planes l = (length l.ratios ≡ length l.initial.ratios) × (l.from ≤ length l.ratios) × Counted l.count l.body (take l.from l.ratios) (l.before + l.from) l.begun
    × Ready l.planes l.again l.ratios l.from
    × (l.count ≤ length l.initial.ratios → (l.from ≡ 0) × (l.begun ≡ 0) × (l.before ≡ 0) × (l.ratios ≡ l.initial.ratios))

abbrev pub decreases-loop-planes : goal.decreases-loop-planes
decreases-loop-planes l = l.count - l.before
