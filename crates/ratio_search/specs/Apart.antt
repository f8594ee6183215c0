-- Bytes that bound a sum. Internal: document 01 says nothing of them.
--   Apart s a b   the bytes a and b stand so far apart that both can differ only where the sum is at most s
use Rattle.std.specs.Prelude.{ℕ, ◌+◌, ◌≤◌, ◌<◌}

-- of eight bytes
abbrev pub Apart : ℕ → ℕ → ℕ → Type 0
Apart s a b = (a + 7 ≤ s + b) × (a < 8) × (b < 8)
