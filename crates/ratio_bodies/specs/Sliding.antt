-- The array through which strict reading goes without an output. Internal: document 01 says nothing of it.
--   room        how many ratios it has room for
--   shift       by how many places its last ratios move where it is full: a multiple of the slots
--   Slid l m    m is the array l after that
use Rattle.std.specs.Prelude.{List, ◌≡◌, ℕ, ◌+◌, ◌-◌, ◌<◌, length, get_or}
use Rattle.ratio_search.specs.BytePlanes.{slots}

-- at least two times the slots
abbrev pub room : ℕ
room = 512

-- as many stay as there are slots
abbrev pub shift : ℕ
shift = room - slots

-- the last ratios stand at the front
abbrev pub Slid : List ℕ → List ℕ → Type 0
Slid l m = (length m ≡ length l) × ((k : ℕ) → k < slots → get_or m k 0 ≡ get_or l (k + shift) 0)
