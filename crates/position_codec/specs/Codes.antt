-- What the internal functions say of codes and of points (document 01, "Positions", and document 02, No. 3).
--   row_at r               the row of the wide table that r names by its index
--   PrefixIs r x p         the prefix of the row r is the number x in p bits
--   Coded rs z c           c is the code of the step z by the table rs
--   BetweenPositions z     z is a step between positions in range
--   CodableStep f z        what the step coder asks of a step z in the form f
--   CodablePositions f ts  what the coder asks of positions ts in the form f
--   Point f ts i           ts are such positions, not too many, and i is the index of one
-- The step coder's promise is, in the wide form, that each step between positions in range has a code: a caller owes nothing of a table. In the old form
-- it owes that the table holds the step.
use Rattle.std.specs.Prelude.{true, List, ◌++◌, ◌≡◌, ℕ, ◌^◌, ◌≤◌, ◌<◌, ℤ, length, get_or}
use Rattle.bits.specs.Digits.{bits_of}
use Rattle.limits.specs.Points.{max_points, max_position, first_high}
use Rattle.position_format.specs.declared.Form.{Form}
use Rattle.position_format.specs.declared.Form.TheVariants.{Old, Wide}
use Rattle.position_format.specs.Rows.{Row, rows, wide_rows, in_table, code, no_row}
use Rattle.position_format.specs.Steps.{step_of}
use Rattle.position_format.specs.Positions.{valid_positions}
use Rattle.position_codec.specs.declared.row.TableRow.{TableRow}
use Rattle.position_codec.specs.declared.table.Code.{Code}

-- a row by its index
abbrev pub row_at : TableRow → Row
row_at r = get_or wide_rows r.index no_row

-- a row's prefix as a number
pub record PrefixIs (r : Row) (x p : ℕ) : Type 0 where
  pub prefixed : 0 < p
  pub short : p ≤ 64
  pub fits : x < 2 ^ p
  pub bits : r.prefix ≡ bits_of p x

-- a prefix and the bits after it, as two numbers
pub record Coded (rs : List Row) (z : ℤ) (c : Code) : Type 0 where
  pub prefixed : 0 < c.size
  pub short : c.size ≤ 64
  pub prefix : c.prefix < 2 ^ c.size
  pub narrow : c.width ≤ 64
  pub rest : c.rest < 2 ^ c.width
  pub bits : bits_of c.size c.prefix ++ bits_of c.width c.rest ≡ code rs z

-- the step at a position t after a and b, all three in range
pub record BetweenPositions (z : ℤ) : Type 0 where
  pub a : ℕ
  pub b : ℕ
  pub t : ℕ
  pub a_low : a ≤ max_position
  pub b_low : b ≤ max_position
  pub t_low : t ≤ max_position
  pub step : z ≡ step_of a b t

-- in the old form the table holds the step, which test 5 of writing sees to; in the wide form each step between positions in range has a code
abbrev pub CodableStep : Form → ℤ → Type 0
CodableStep Old z = in_table rows z ≡ true
CodableStep Wide z = BetweenPositions z

-- in the old form they are in range and the table holds each step, which tests 4 and 5 of writing see to; in the wide form they are in range
abbrev pub CodablePositions : Form → List ℕ → Type 0
CodablePositions Old ts = valid_positions rows ts ≡ true
CodablePositions Wide ts = length ts ≤ first_high ts

-- a point of a run that can be coded
pub record Point (f : Form) (ts : List ℕ) (i : ℕ) : Type 0 where
  pub codable : CodablePositions f ts
  pub many : length ts ≤ max_points
  pub here : i < length ts
