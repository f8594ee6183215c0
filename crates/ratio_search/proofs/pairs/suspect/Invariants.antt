-- `suspect` meets its contract. The invariant: where no suspect was found, none of the first j slots is one.
use mathlib.Core.Path.{◌≡◌}
use mathlib.Core.Bool.{false}
use Rattle.ratio_search.proofs.pairs.Blocks.{Quiet}
use Rattle.ratio_search.proofs.pairs.suspect.Given as goal

abbrev pub invariant-loop-j : goal.invariant-loop-j
invariant-loop-j l = l.any ≡ false → Quiet l.planes l.a l.x l.b l.y l.c l.z l.d l.w l.j
