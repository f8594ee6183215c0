-- The text in pieces, as the program's functions put them, one after the other.
--   properties_text h          the lines of the properties
--   lines_at ts vs us ws i     the lines of the index i, for positions ts and us and ratios vs and ws
--   lines_below ts vs us ws n  those of each index below n
use Rattle.std.specs.Prelude.{List, [], ◌++◌, ℕ, zero, suc}
use Rattle.differences.specs.declared.OverallDifferences.{OverallDifferences}
use Rattle.differences.specs.Differences.{position_at, ratio_at}
use Rattle.compare.specs.Lines.{line_if}

-- rate, side, count, form
abbrev pub properties_text : OverallDifferences → List ℕ
properties_text h = line_if h.rate ++ (line_if h.side ++ (line_if h.count ++ line_if h.form))

-- the position's before the ratio's
abbrev pub lines_at : List ℕ → List ℕ → List ℕ → List ℕ → ℕ → List ℕ
lines_at ts vs us ws i = line_if (position_at ts us i) ++ line_if (ratio_at vs ws i)

-- index by index
unfoldable pub lines_below : List ℕ → List ℕ → List ℕ → List ℕ → ℕ → List ℕ
lines_below ts vs us ws zero = []
lines_below ts vs us ws (suc n) = lines_below ts vs us ws n ++ lines_at ts vs us ws n
