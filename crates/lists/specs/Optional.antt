-- A list, or nothing: what decoding gives.
--   missing o   there is no list
--   list_of o   the list, if there is one; else the empty one
use Rattle.std.specs.Prelude.{Bool, true, false, List, [], ℕ}
use Rattle.std.proofs.Math.Option.{Option, none, some}

-- whether there is none
abbrev pub missing : Option (List ℕ) → Bool
missing none = true
missing (some l) = false

-- the list
abbrev pub list_of : Option (List ℕ) → List ℕ
list_of none = []
list_of (some l) = l
