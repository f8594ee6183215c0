-- A number of bytes at the front of a buffer.
--   IsPrefixLen n xs   there are n bytes at the front of xs
use Rattle.std.specs.Prelude.{◌≡◌, ℕ, ◌≤◌, List, length, take}

-- the second part follows from the first, and spares the caller who lends them a proof
abbrev pub IsPrefixLen : ℕ → List ℕ → Type 0
IsPrefixLen n xs = (n ≤ length xs) × (n ≡ length (take n xs))
