-- Document 01, "Positions": steps. The standard term is the second difference, or delta of deltas.
--   step_of a b t        the step at a point t after the points a and b: (t - b) - (b - a), exactly
--   steps_from a b ts    the steps at the points ts after the points a and b
--   steps ts             the steps of a list of positions, from the third on
--   step_here ts i       the step at the point of index i
--   outside rs z         the table does not hold the step z
--   first_outside rs ts  the index of the first point whose step the table does not hold; where there is none, the number of positions, or 2
--                        for fewer than two
use Rattle.std.specs.Prelude.{Bool, not, List, [], ◌∷◌, ℕ, ◌+◌, ◌-◌, ℤ, pos, ◌-ℤ◌, get_or}
use Rattle.lists.specs.Lists.{first_index}
use Rattle.position_format.specs.Rows.{Row, in_table}

-- the step at t, after a and b
abbrev pub step_of : ℕ → ℕ → ℕ → ℤ
step_of a b t = (pos t -ℤ pos b) -ℤ (pos b -ℤ pos a)

-- the steps after two points
unfoldable pub steps_from : ℕ → ℕ → List ℕ → List ℤ
steps_from a b [] = []
steps_from a b (t ∷ ts) = step_of a b t ∷ steps_from b t ts

-- the steps of a list: none below three positions
unfoldable pub steps : List ℕ → List ℤ
steps [] = []
steps (a ∷ []) = []
steps (a ∷ b ∷ ts) = steps_from a b ts

-- whether the table holds no code for z
abbrev pub outside : List Row → ℤ → Bool
outside rs z = not (in_table rs z)

-- the index among the points, which is two more than among the steps
abbrev pub first_outside : List Row → List ℕ → ℕ
first_outside rs ts = first_index (outside rs) (steps ts) + 2

-- the step at the point of index i, from the third on
abbrev pub step_here : List ℕ → ℕ → ℤ
step_here ts i = step_of (get_or ts (i - 2) 0) (get_or ts (i - 1) 0) (get_or ts i 0)
