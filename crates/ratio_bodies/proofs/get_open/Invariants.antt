-- `get_open` meets its contract. The invariant: the first i ratios stand at the front, and with what reading on from there takes they are all
-- that is taken.
use Rattle.ratio_format.specs.Open.{open_one}
use Rattle.ratio_bodies.specs.Taking.{Taking}
use Rattle.ratio_bodies.proofs.get_open.Given as goal

abbrev pub invariant-loop-i : goal.invariant-loop-i
invariant-loop-i l = Taking open_one l.count l.body l.initial.out 0 0 l.out l.at l.i
