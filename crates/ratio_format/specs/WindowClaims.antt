-- Document 01, "Ratios": what the kept window holds, and in which cells of its array. Document 01 says which ratios it holds and in which order; that the
-- cells stand oldest first, and that unused ones are 0 at first, is ours. Proved in proofs/WindowClaims.
--   Takes w v u      the window u is the window w after the ratio v
--   TakesRatio       a window takes each ratio so, repeats too
--   NewestFirst      place 0 of a window is its newest ratio, and as many places hold a ratio as its fill says
--   FreshHoldsNone   "a fresh one holds none"
use Rattle.std.specs.Prelude.{[], ◌∷◌, ◌++◌, ◌≡◌, ℕ, ◌+◌, ◌-◌, ◌≤◌, ◌<◌, length, get_or, take, drop, set, replicate}
use Rattle.ratio_format.specs.declared.Window.{Window}
use Rattle.ratio_format.specs.Windows.{fresh_window, held, pushed}

-- the ratio goes into the next cell, or into the last one of a full window, whose other cells move down by one; so it is the newest of at most 127
-- ratios, and the others stay in their order
pub record Takes (w : Window) (v : ℕ) (u : Window) : Type 0 where
  pub with_room : w.fill < 127 → u ≡ record { ratios = set w.ratios w.fill v; fill = w.fill + 1 }
  pub full : 127 ≤ w.fill → u ≡ record { ratios = drop 1 w.ratios ++ (v ∷ []); fill = w.fill }
  pub newest : length w.ratios ≡ 127 → w.fill ≤ 127 → held u ≡ take 127 (v ∷ held w)

-- any window and any ratio
abbrev pub TakesRatio : Type 0
TakesRatio = (w : Window) (v : ℕ) → Takes w v (pushed w v)

-- the cells stand oldest first
abbrev pub NewestFirst : Type 0
NewestFirst = (w : Window) → w.fill ≤ length w.ratios
    → (length (held w) ≡ w.fill) × ((p : ℕ) → p < w.fill → get_or (held w) p 0 ≡ get_or w.ratios (w.fill - 1 - p) 0)

-- 127 cells, all 0
abbrev pub FreshHoldsNone : Type 0
FreshHoldsNone = (held fresh_window ≡ []) × (fresh_window ≡ record { ratios = replicate 127 0; fill = 0 })
