-- Document 02, No. 2: the side of the disc that a run is cut on, 0 for none.
--   max_side    the largest side
--   is_side n   n is a side that a record stores: 1 to 26
use Rattle.std.specs.Prelude.{Bool, ℕ, leb}
use Rattle.lists.specs.Compare.{both}

-- A to Z
abbrev pub max_side : ℕ
max_side = 26

-- a stored side is never 0
unfoldable pub is_side : ℕ → Bool
is_side n = both (leb 1 n) (leb n max_side)
