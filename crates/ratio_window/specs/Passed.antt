-- Ratios that a search passes over. Internal: document 01 says nothing of them.
--   Passed v l s from to   no ratio of l from index `from` up to `to` has a sum above s with v
use Rattle.std.specs.Prelude.{List, ℕ, ◌≤◌, ◌<◌, get_or}
use Rattle.ratio_format.specs.Zeros.{sum_of}

-- the sums are at most s
abbrev pub Passed : ℕ → List ℕ → ℕ → ℕ → ℕ → Type 0
Passed v l s from to = (k : ℕ) → from ≤ k → k < to → sum_of v (get_or l k 0) ≤ s
