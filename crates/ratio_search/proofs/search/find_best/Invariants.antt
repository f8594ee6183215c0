-- `find_best` meets its contract. The invariant: the ratios from q on are passed, and the sum and its index are the best of them.
use Rattle.ratio_search.proofs.search.Searching.{Searching}
use Rattle.ratio_search.proofs.search.find_best.Given as goal

abbrev pub invariant-loop-q : goal.invariant-loop-q
invariant-loop-q l = Searching l.v l.ratios l.i l.q l.at l.trail l.sum

abbrev pub decreases-loop-q : goal.decreases-loop-q
decreases-loop-q l = l.q
