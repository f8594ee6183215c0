-- `put_repeats` meets its contract. The invariant: k ratios repeat the one before them, and the first k bytes are 0.
use Rattle.outputs.proofs.Outputs.Clear.{Cleared}
use Rattle.ratio_bodies.proofs.repeats.Repeated.{Repeats}
use Rattle.ratio_bodies.proofs.repeats.put_repeats.Given as goal

abbrev pub invariant-loop-k : goal.invariant-loop-k
invariant-loop-k l = Repeats l.ratios l.from l.k × Cleared l.initial.out l.out l.k
