-- `get_references` meets its contract. The invariant: k ratios were read from the offset `at` on, and the marks are those of the window of the next one.
use Rattle.std.proofs.Common.{◌+◌}
use Rattle.ratio_format.specs.Open.{strict_one}
use Rattle.ratio_bodies.specs.Marks.{Marks}
use Rattle.ratio_bodies.specs.Taking.{Taking}
use Rattle.ratio_bodies.proofs.strict.get_references.Given as goal

abbrev pub invariant-loop-k : goal.invariant-loop-k
invariant-loop-k l = Taking strict_one l.to l.body l.initial.ratios l.i l.at l.ratios (l.at + l.k) (l.i + l.k) × Marks l.again l.ratios (l.i + l.k)
