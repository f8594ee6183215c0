-- Document 01, "Numbers that bound it", with document 02, No. 3: points and positions.
--   max_points      the largest number of points of a run; max_wide_points: of one in the wide form
--   max_position    the largest position, a sample index
--   too_high t      t is above it
--   first_high ts   the index of the first position above it; the length where there is none
use Rattle.std.specs.Prelude.{Bool, List, ℕ, ◌-◌, ◌^◌, ltb}
use Rattle.lists.specs.Lists.{first_index}

-- a run has at most this many points
abbrev pub max_points : ℕ
max_points = 4096

-- and in the wide form at most so many
abbrev pub max_wide_points : ℕ
max_wide_points = 3500

-- the largest position
abbrev pub max_position : ℕ
max_position = 2 ^ 62 - 1

-- whether a position is above it
abbrev pub too_high : ℕ → Bool
too_high t = ltb max_position t

-- the index of the first position above it, or the list's length
abbrev pub first_high : List ℕ → ℕ
first_high ts = first_index too_high ts
