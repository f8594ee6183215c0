-- A list set to 0 from the front, one element a turn.
use mathlib.Core.Path.{◌≡◌}
use mathlib.Core.List.{List, ◌++◌}
use Prim.Native.Nat.{ℕ, ◌≤◌}
use lib.ListN.{length, drop, replicate}

-- p is d with its first i elements 0
abbrev pub Cleared : List ℕ → List ℕ → ℕ → Type 0
Cleared d p i = (i ≤ length d) × (length p ≡ length d) × (p ≡ replicate i 0 ++ drop i d)
