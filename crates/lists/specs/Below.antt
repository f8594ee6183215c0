-- Lists whose elements are all below a bound, as digits are below their base.
--   Below b ds   every element of ds is below b
use Rattle.std.specs.Prelude.{List, [], ◌∷◌, ℕ, ◌<◌}

-- every element of ds is below b
unfoldable pub Below : ℕ → List ℕ → Type 0
Below b [] = Unit {0}
Below b (d ∷ ds) = (d < b) × Below b ds
