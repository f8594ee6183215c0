-- An index of the ratios passed, by a key of their value. Internal: document 01 says nothing of it.
--   keys                   how many keys there are
--   key_of v               the key of the value v
--   Bounded ns i           an entry for each key, none of which names a ratio from i on: an entry is 1 more than an index, or 0
--   Indexed ns l i         of the first i ratios of l, none with a key is newer than its entry says
--   NearlyIndexed ns l i   the same but for those that are equal to the last of them, which may still be to be noted
--   PlaceIs l i p          ratio i of l is written as the reference to place p of its window
use Rattle.std.specs.Prelude.{List, [], ◌∷◌, ◌⊎◌, ◌≡◌, ℕ, ◌-◌, ◌%◌, ◌≤◌, ◌<◌, length, get_or, take}
use Rattle.ratio_format.specs.Windows.{window_size, window_of}
use Rattle.ratio_format.specs.RatioForms.{coded}

-- a prime number
abbrev pub keys : ℕ
keys = 509

-- any function below that would do
abbrev pub key_of : ℕ → ℕ
key_of v = v % keys

-- the entries
abbrev pub Bounded : List ℕ → ℕ → Type 0
Bounded ns i = (length ns ≡ keys) × ((k : ℕ) → get_or ns k 0 ≤ i)

-- all ratios are noted
abbrev pub Indexed : List ℕ → List ℕ → ℕ → Type 0
Indexed ns l i = Bounded ns i × ((j : ℕ) → j < i → j < get_or ns (key_of (get_or l j 0)) 0)

-- or all but the last repeats
abbrev pub NearlyIndexed : List ℕ → List ℕ → ℕ → Type 0
NearlyIndexed ns l i = Bounded ns i × ((j : ℕ) → j < i → (j < get_or ns (key_of (get_or l j 0)) 0) ⊎ (get_or l j 0 ≡ get_or l (i - 1) 0))

-- one byte
abbrev pub PlaceIs : List ℕ → ℕ → ℕ → Type 0
PlaceIs l i p = (p < window_size) × (coded (get_or l i 0) (window_of window_size (take i l)) ≡ p ∷ [])
