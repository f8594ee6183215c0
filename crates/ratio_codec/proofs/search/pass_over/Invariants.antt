-- `pass_over` meets its contract. The invariant: no ratio from `from` up to i has a larger sum.
use mathlib.Core.List.{reverse}
use Prim.Native.Nat.{ℕ, ◌-◌, ◌^◌, ◌≤◌}
use Rattle.ratio_window.specs.Passed.{Passed}
use Rattle.ratio_codec.proofs.search.pass_over.Given as goal

abbrev pub invariant-loop-i : goal.invariant-loop-i
invariant-loop-i l = (s : ℕ) → 256 ^ (7 - s) ≤ l.bound → Passed l.v (reverse l.window) s l.from l.i
