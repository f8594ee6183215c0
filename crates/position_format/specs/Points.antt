-- Document 01, "Positions": the points of a run one after the other, as they are written and read.
--   next_bits rs i a b t   the bits of a position t at point i, after the positions a and b
--   point_bits rs ts i     the bits of point i of the positions ts
--   Stands rs i a b ds t   the bits ds begin with those of the position t at point i, after the positions a and b
use Rattle.std.specs.Prelude.{true, cond, List, ◌≡◌, ℕ, ◌-◌, ◌≤◌, ltb, get_or}
use Rattle.lists.specs.Compare.{begins}
use Rattle.bits.specs.Digits.{bits_of}
use Rattle.limits.specs.Points.{max_position}
use Rattle.position_format.specs.Rows.{Row, in_table, code}
use Rattle.position_format.specs.Steps.{step_of}

-- the first two points take 64 bits each, every other the code of its step
abbrev pub next_bits : List Row → ℕ → ℕ → ℕ → ℕ → List ℕ
next_bits rs i a b t = cond (ltb i 2) (bits_of 64 t) (code rs (step_of a b t))

-- after the two points before it
abbrev pub point_bits : List Row → List ℕ → ℕ → List ℕ
point_bits rs ts i = next_bits rs i (get_or ts (i - 2) 0) (get_or ts (i - 1) 0) (get_or ts i 0)

-- a position in its range whose step the table holds, from the third point on
pub record Stands (rs : List Row) (i a b : ℕ) (ds : List ℕ) (t : ℕ) : Type 0 where
  pub low : t ≤ max_position
  pub held : 2 ≤ i → in_table rs (step_of a b t) ≡ true
  pub front : begins (next_bits rs i a b t) ds ≡ true
