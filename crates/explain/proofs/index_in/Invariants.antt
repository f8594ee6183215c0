-- `index_in` meets its contract. The loop's invariant: the bytes passed are digits, and n is the number that they make, cut at the largest number
-- of points.
use mathlib.Core.Path.{◌≡◌}
use Prim.Native.Nat.{◌≤◌, min}
use Rattle.lists.specs.Lists.{first_index}
use Rattle.limits.specs.Points.{max_points}
use Rattle.explain.specs.Indexes.{not_digit}
use Rattle.explain.proofs.Indexes.{value_of}
use Rattle.explain.proofs.index_in.Given as goal

abbrev pub invariant-loop-c : goal.invariant-loop-c
invariant-loop-c l = (l.c-index ≤ first_index not_digit l.text) × (l.n ≡ min max_points (value_of l.text l.c-index))
