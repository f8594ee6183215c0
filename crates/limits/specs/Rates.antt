-- Document 01, "Numbers that bound it", and document 02, No. 4: the rates, in the standard term sample rates, in samples
-- a second.
--   times_one_two_four b  b times one, two and four
--   rates                 44,100 and 48,000, each times one, two and four
--   is_rate r             r is one of the rates
--   six_rates             document 01's list
--   RateRule              the rates are the numbers of that list and no others
use Rattle.std.specs.Prelude.{Bool, List, [], ◌∷◌, ◌++◌, ◌≡◌, ℕ, ◌*◌}
use Rattle.lists.specs.Lists.{member}

-- a base rate times one, two and four
abbrev pub times_one_two_four : ℕ → List ℕ
times_one_two_four base = base ∷ 2 * base ∷ 4 * base ∷ []

-- the base rates are the compact disc's, and that of film and broadcast
unfoldable pub rates : List ℕ
rates = times_one_two_four 44100 ++ times_one_two_four 48000

-- the rate test: every call that tests a rate goes by this
unfoldable pub is_rate : ℕ → Bool
is_rate r = member r rates

-- the list, as it stands in document 01
abbrev pub six_rates : List ℕ
six_rates = 44100 ∷ 48000 ∷ 88200 ∷ 96000 ∷ 176400 ∷ 192000 ∷ []

-- of every number the rate test says whether it is in the list
abbrev pub RateRule : Type 0
RateRule = (r : ℕ) → is_rate r ≡ member r six_rates
