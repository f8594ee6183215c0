-- `pass_equal` meets its contract. The invariant: the first place from `from` on that holds v is the first from i on.
use mathlib.Core.Path.{◌≡◌}
use mathlib.Core.List.{reverse}
use Rattle.ratio_codec.proofs.search.Find.{find_from}
use Rattle.ratio_codec.proofs.search.pass_equal.Given as goal

abbrev pub invariant-loop-i : goal.invariant-loop-i
invariant-loop-i l = find_from l.v (reverse l.window) l.i ≡ find_from l.v (reverse l.window) l.from
