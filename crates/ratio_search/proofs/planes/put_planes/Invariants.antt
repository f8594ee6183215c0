-- `put_planes` meets its contract. The invariant: the lowest j bytes are put, and all other slots stay.
use Rattle.ratio_search.proofs.PutPlanes.{InSlot}
use Rattle.ratio_search.proofs.planes.put_planes.Given as goal

abbrev pub invariant-loop-j : goal.invariant-loop-j
invariant-loop-j l = InSlot l.initial.planes l.i l.v l.planes l.j
