-- Byte planes of a run of ratios: each byte of a ratio in a part of its own, so that one byte of many ratios stands together. Internal:
-- document 01 says nothing of them.
--   slots                   how many ratios the planes hold: the window's size and one more
--   cells                   how many bytes they have
--   BothDiffer ps v a b t   neither byte a nor byte b of slot t is that of v
--   Planes ps l from to     the planes ps hold the bytes of the ratios of l from index `from` up to `to`
--   Kept ps l n             planes of full size, of the last ratios of l before index n, as many as the planes hold
--   KeptTo p l i            the planes p are so kept of ratios of l, of none from index i on
use Rattle.std.specs.Prelude.{List, ◌≡◌, ℕ, ◌+◌, ◌-◌, ◌*◌, ◌%◌, ◌≤◌, ◌<◌, length, get_or}
use Rattle.bits.specs.Digits.{byte_of}
use Rattle.ratio_format.specs.Windows.{window_size}
use Rattle.ratio_search.specs.declared.planes.BytePlanes.{BytePlanes}

-- a power of 2, so that a remainder is cheap
abbrev pub slots : ℕ
slots = window_size + 1

-- eight bytes to a ratio
abbrev pub cells : ℕ
cells = 8 * slots

-- eight parts; the ratio at index k stands in slot k % slots
abbrev pub Planes : List ℕ → List ℕ → ℕ → ℕ → Type 0
Planes ps l from to = (j k : ℕ) → j < 8 → from ≤ k → k < to → get_or ps (j * slots + k % slots) 0 ≡ byte_of (get_or l k 0) j

-- two bytes of a slot that both differ from those of v
abbrev pub BothDiffer : List ℕ → ℕ → ℕ → ℕ → ℕ → Type 0
BothDiffer ps v a b t = (get_or ps (a * slots + t) 0 ≡ byte_of v a → ⊥) × (get_or ps (b * slots + t) 0 ≡ byte_of v b → ⊥)

-- what a run keeps between its ratios
abbrev pub Kept : List ℕ → List ℕ → ℕ → Type 0
Kept ps l n = (length ps ≡ cells) × Planes ps l (n - slots) n

-- and what a reader or a writer knows of them before ratio i
abbrev pub KeptTo : BytePlanes → List ℕ → ℕ → Type 0
KeptTo p l i = Kept p.cells l p.done × (p.done ≤ i)
