-- `BytePlanes::fill` meets its contract. The invariant: the planes hold what is wanted of the ratios before k.
use Rattle.std.proofs.Common.{◌≡◌, ◌-◌, length}
use Rattle.ratio_search.specs.BytePlanes.{slots, cells, Planes}
use Rattle.ratio_search.proofs.planes.BytePlanes.fill.Given as goal

abbrev pub invariant-loop-k : goal.invariant-loop-k
invariant-loop-k l = (length l.self.cells ≡ cells) × Planes l.self.cells l.ratios (l.to - slots) l.k
