-- Document 02, No. 3: the two forms that positions are coded in; the standard term is an encoding. The form is declared in src/lib.rt.
--   table_of f     the table of steps of the form f
--   points_of f    the largest number of points of a run in that form
--   EveryStep      in the wide form each step between positions in range has a code, so no list of positions in range has a step outside
--   OldSteps       a step that one of document 01's first four rows holds has the same code in both forms; one that only its last row holds has 1111
--                  in the old form and 11110 in the wide one, and then the same 32 bits
--   EscapedSteps   every other step between positions in range is escaped, in the standard term: 11111, and then its 64 bits in two's complement
--   ReadsCoded     a body is read as positions exactly when it is their coding, there are as many as the count, and they are valid. So a step in a row
--                  that is not the first to hold it, -2^63, and a position out of range are no coding
-- Each is proved in proofs/Tables/WideRows.
use Rattle.std.specs.Prelude.{true, false, List, [], ◌∷◌, ◌++◌, ◌↔◌, ◌≡◌, ℕ, ◌≤◌, ◌<◌, ℤ, length}
use Rattle.std.proofs.Math.Option.{some}
use Rattle.bits.specs.Digits.{bits_of}
use Rattle.limits.specs.Points.{max_points, max_wide_points, max_position, first_high}
use Rattle.position_format.specs.declared.Form.{Form}
use Rattle.position_format.specs.declared.Form.TheVariants.{Old, Wide}
use Rattle.position_format.specs.Rows.{Row, rows, wide_rows, in_table, residue, code, row_of}
use Rattle.position_format.specs.Steps.{step_of}
use Rattle.position_format.specs.Positions.{coded_positions, valid_positions, read_positions}

-- document 01's, or the wide one
abbrev pub table_of : Form → List Row
table_of Old = rows
table_of Wide = wide_rows

-- 4,096, or 3,500, so that a record stays below 64 KiB
abbrev pub points_of : Form → ℕ
points_of Old = max_points
points_of Wide = max_wide_points

-- the step coder's promise
abbrev pub EveryStep : Type 0
EveryStep = ((a b t : ℕ) → a ≤ max_position → b ≤ max_position → t ≤ max_position → in_table wide_rows (step_of a b t) ≡ true)
    × ((ts : List ℕ) → length ts ≤ first_high ts → valid_positions wide_rows ts ≡ true)

-- the rows that both tables have
abbrev pub OldSteps : Type 0
OldSteps = (z : ℤ) → in_table rows z ≡ true
    → (row_of rows z < 4 → code wide_rows z ≡ code rows z)
    × (row_of rows z ≡ 4
    → (code rows z ≡ (1 ∷ 1 ∷ 1 ∷ 1 ∷ []) ++ bits_of 32 (residue 32 z)) × (code wide_rows z ≡ (1 ∷ 1 ∷ 1 ∷ 1 ∷ 0 ∷ []) ++ bits_of 32 (residue 32 z)))

-- and the one that the wide table has besides
abbrev pub EscapedSteps : Type 0
EscapedSteps = (a b t : ℕ) → a ≤ max_position → b ≤ max_position → t ≤ max_position → in_table rows (step_of a b t) ≡ false
    → code wide_rows (step_of a b t) ≡ (1 ∷ 1 ∷ 1 ∷ 1 ∷ 1 ∷ []) ++ bits_of 64 (residue 64 (step_of a b t))

-- by decoding and coding again, in either form
abbrev pub ReadsCoded : Type 0
ReadsCoded = (f : Form) (n : ℕ) (body ts : List ℕ)
    → (read_positions (table_of f) n body ≡ some ts) ↔ ((body ≡ coded_positions (table_of f) ts) × (length ts ≡ n) × (valid_positions (table_of f) ts ≡ true))
