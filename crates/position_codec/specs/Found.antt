-- What the internal readers say of what they find at the front of bits (document 01, "Positions").
--   Ahead body at w            the word w begins with the bits of a body from a bit offset on, 57 of them, with 0 bits past the end
--   Leads rs ds i n            the bits ds begin with the prefix of the row of index i, whose codes have n bits
--   ReadBy rs i x r            the step that the row of index i reads in its bits x, if no row before it holds that
--   StepFound rs ds r          the step whose code the bits ds begin with, and how many bits that has, or that there is none
--   PositionFound a b z r      the position after a and b whose step is z, or that there is none in range
--   PointFound rs i a b ds r   the position that stands at the front of ds at point i, and how many bits it takes, or that there is none
--   kept o i t                 the output o with the position t at index i, if it has room there
--   FilledPart l b o p         the list l was put at the front of o, as far as that has room, and o is now p; or there is no such list
use Rattle.std.specs.Prelude.{Option, None, Some, Bool, true, false, cond, List, ◌≡◌, ℕ, ◌≤◌, ◌<◌, ℤ, ltb, length, get_or, set, take, drop}
use Rattle.std.proofs.Math.Option as maybe
use Rattle.std.proofs.Math.Option.{none, some}
use Rattle.lists.specs.Compare.{begins}
use Rattle.bits.specs.Digits.{bits_of}
use Rattle.bits.specs.Packing.{bits, ahead}
use Rattle.limits.specs.Points.{max_position}
use Rattle.outputs.specs.Outputs.{over}
use Rattle.position_format.specs.Rows.{Row, in_table, reading, code, code_length, no_row, row_of}
use Rattle.position_format.specs.Steps.{step_of}
use Rattle.position_format.specs.Points.{next_bits, Stands}

-- bits at the top of a word
abbrev pub Ahead : List ℕ → ℕ → ℕ → Type 0
Ahead body at w = take 57 (bits_of 64 w) ≡ ahead 57 (drop at (bits body))

-- a row by its prefix
pub record Leads (rs : List Row) (ds : List ℕ) (i n : ℕ) : Type 0 where
  pub row : i < length rs
  pub front : begins (get_or rs i no_row).prefix ds ≡ true
  pub len : n ≡ code_length (get_or rs i no_row)

-- a step by its row
abbrev pub ReadBy : List Row → ℕ → ℕ → Option ℤ → Type 0
ReadBy rs i x (Some z) = (z ≡ reading (get_or rs i no_row) x) × (row_of rs z ≡ i)
ReadBy rs i x None = row_of rs (reading (get_or rs i no_row) x) ≡ i → ⊥

-- a step that the table holds, by its code
abbrev pub StepFound : List Row → List ℕ → Option (ℤ × ℕ) → Type 0
StepFound rs ds (Some s) = (in_table rs s.0 ≡ true) × (begins (code rs s.0) ds ≡ true) × (s.1 ≡ length (code rs s.0))
StepFound rs ds None = (z : ℤ) → in_table rs z ≡ true → begins (code rs z) ds ≡ false

-- a position in its range, by its step
abbrev pub PositionFound : ℕ → ℕ → ℤ → Option ℕ → Type 0
PositionFound a b z (Some t) = (t ≤ max_position) × (step_of a b t ≡ z)
PositionFound a b z None = (t : ℕ) → t ≤ max_position → step_of a b t ≡ z → ⊥

-- the position at a point
abbrev pub PointFound : List Row → ℕ → ℕ → ℕ → List ℕ → Option (ℕ × ℕ) → Type 0
PointFound rs i a b ds (Some s) = Stands rs i a b ds s.0 × (s.1 ≡ length (next_bits rs i a b s.0))
PointFound rs i a b ds None = (t : ℕ) → Stands rs i a b ds t → ⊥

-- an output after the position t at index i
abbrev pub kept : List ℕ → ℕ → ℕ → List ℕ
kept o i t = cond (ltb i (length o)) (set o i t) o

-- the list as far as the output has room
abbrev pub FilledPart : maybe.Option (List ℕ) → Bool → List ℕ → List ℕ → Type 0
FilledPart none b o p = b ≡ false
FilledPart (some l) b o p = (b ≡ true) × (p ≡ over (take (length o) l) o)
