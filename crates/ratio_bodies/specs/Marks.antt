-- Marks of the ratios of a window: whether a ratio occurs again later in it. Internal: document 01 says nothing of them.
--   slot_of i p     the slot of the ratio at place p of the window of ratio i
--   Last l k i      the ratio at index k of l does not occur again before index i
--   Again l k i     it does
--   Marks ms l i    the marks ms say so for the window of ratio i
use Rattle.std.specs.Prelude.{List, ◌≡◌, ℕ, ◌+◌, ◌-◌, ◌%◌, ◌≤◌, ◌<◌, length, get_or}
use Rattle.ratio_format.specs.Windows.{window_size}
use Rattle.ratio_search.specs.BytePlanes.{slots}

-- the slots are those of the planes: the ratio at index k stands in slot k % slots
abbrev pub slot_of : ℕ → ℕ → ℕ
slot_of i p = (i - 1 - p) % slots

-- no later one is equal
abbrev pub Last : List ℕ → ℕ → ℕ → Type 0
Last l k i = (m : ℕ) → k < m → m < i → get_or l m 0 ≡ get_or l k 0 → ⊥

-- a later one is equal
abbrev pub Again : List ℕ → ℕ → ℕ → Type 0
Again l k i = (m : ℕ) × (k < m) × (m < i) × (get_or l m 0 ≡ get_or l k 0)

-- a mark of 0 says that it does not, any other that it does
abbrev pub Marks : List ℕ → List ℕ → ℕ → Type 0
Marks ms l i =
    (length ms ≡ slots)
    × ((k : ℕ) → k < i → i ≤ k + window_size → (get_or ms (k % slots) 0 ≡ 0 → Last l k i) × ((get_or ms (k % slots) 0 ≡ 0 → ⊥) → Again l k i))
