-- Document 01, "Ratios": the window, a list of the preceding ratios. The standard term is a sliding window; its fill is the number of cells
-- in use. What document 01 calls a place in the window is an index, 0 for the newest.
--   window_size     how many ratios it holds
--   push n v w      the window w of size n after the ratio v: repeats are kept
--   window_of n vs  the window of size n after the ratios vs, in the order in which they came
--   fresh_window    a kept window that holds none
--   held w          the ratios of a kept window, newest first
--   pushed w v      a kept window after the ratio v
use Rattle.std.specs.Prelude.{cond, List, [], ◌∷◌, ◌++◌, reverse, ℕ, ◌+◌, ltb, take, drop, set, replicate}
use Rattle.ratio_format.specs.declared.Window.{Window}

-- the size of our window
abbrev pub window_size : ℕ
window_size = 127

-- one ratio more; the oldest goes where the window is full
abbrev pub push : ℕ → ℕ → List ℕ → List ℕ
push n v w = take n (v ∷ w)

-- the window after a list of ratios
abbrev pub window_of : ℕ → List ℕ → List ℕ
window_of n vs = take n (reverse vs)

-- a fresh window holds none; all its cells are 0
abbrev pub fresh_window : Window
fresh_window = record { ratios = replicate window_size 0; fill = 0 }

-- the ratios that a kept window holds, newest first: its cells stand oldest first, and those past the fill hold none
abbrev pub held : Window → List ℕ
held w = reverse (take w.fill w.ratios)

-- with room the next cell takes the ratio, and every other cell stays; a full window moves down by one, and the last cell takes it
abbrev pub pushed : Window → ℕ → Window
pushed w v =
    cond (ltb w.fill window_size)
    (record { ratios = set w.ratios w.fill v; fill = w.fill + 1 })
    (record { ratios = drop 1 w.ratios ++ (v ∷ []); fill = w.fill })
