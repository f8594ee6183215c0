-- What a search of a window for a ratio may answer. Internal: document 01 says nothing of it.
--   Searched v w p s   place p and sum s of the window w: its best for v where the best sum is 2 or more, and else a sum below 2
use Rattle.std.specs.Prelude.{List, ◌≡◌, ℕ, ◌≤◌, ◌<◌}
use Rattle.ratio_format.specs.Choice.{best}

-- a sum below 2 is of no use to the choice, so which one it is and where it stands is left open
abbrev pub Searched : ℕ → List ℕ → ℕ → ℕ → Type 0
Searched v w p s = (2 ≤ s → (p ≡ (best v w).place) × (s ≡ (best v w).sum)) × (s < 2 → (best v w).sum < 2)
