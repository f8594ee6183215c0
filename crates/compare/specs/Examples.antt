-- Document 02, No. 7: lines of the comparing program and whole outputs, as one table, proved from the definitions by one statement.
--   Example, example   a text, and its bytes as they should be
--   compared_text      the output for two runs that differ in every way: document 01's listed run, and other_run
--   refused_second, refused_first  the line of a refusal of an empty second file, `refused 10 at 0 in 2`, and of an empty first one
--   examples           the rows; examples_hold: each is as it is given
--   PrintsExample      the program's output for the records of these runs, for equal ones, and for files of which one or both are empty
use Rattle.std.specs.Prelude.{None, List, [], ◌∷◌, map, ◌≡◌, refl, ℕ}
use Rattle.std.specs.Float.Ieee.{of_bits, of_fields}
use Rattle.bits.specs.Digits.{digits_of}
use Rattle.kind.specs.Kinds.{kind_of}
use Rattle.record_format.specs.Examples.{listed_run, listed_bytes}
use Rattle.record_format.specs.Runs.{record_of}
use Rattle.text.specs.Numbers.{trimmed, decimal, hex16}
use Rattle.differences.specs.declared.Property.TheVariants.{Rate, Side, Count, Form}
use Rattle.differences.specs.declared.Difference.TheVariants.{InProperty, Position, Ratio, More}
use Rattle.differences.specs.Differences.{position_at, ratio_at, points_to, differences}
use Rattle.differences.specs.Examples.{other_run}
use Rattle.compare.specs.Lines.{property_line, position_line, ratio_line, more_line, line_of, line_if, differences_text, refused_in_line}
use Rattle.compare.specs.Printed.{printed}

-- an example: a text, and its bytes
pub record Example : Type 0 where
  pub text : List ℕ
  pub expected : List ℕ

-- such an example
abbrev example : List ℕ → List ℕ → Example
example l p = record { text = l; expected = p }

-- `rate 96000 88200`, `side 0 4`, `count 3 5`, `form 3 5`, `position 1 960 961`, `ratio 1 number 3fe0000000000000 nan 7ff8000000000000`,
-- `ratio 2 number 3fe0000000000000 number 8000000000000000`, `more 2`
abbrev pub compared_text : List ℕ
compared_text =
    114 ∷ 97 ∷ 116 ∷ 101 ∷ 32 ∷ 57 ∷ 54 ∷ 48 ∷ 48 ∷ 48 ∷ 32 ∷ 56 ∷ 56 ∷ 50 ∷ 48 ∷ 48 ∷ 10
    ∷ 115 ∷ 105 ∷ 100 ∷ 101 ∷ 32 ∷ 48 ∷ 32 ∷ 52 ∷ 10
    ∷ 99 ∷ 111 ∷ 117 ∷ 110 ∷ 116 ∷ 32 ∷ 51 ∷ 32 ∷ 53 ∷ 10
    ∷ 102 ∷ 111 ∷ 114 ∷ 109 ∷ 32 ∷ 51 ∷ 32 ∷ 53 ∷ 10
    ∷ 112 ∷ 111 ∷ 115 ∷ 105 ∷ 116 ∷ 105 ∷ 111 ∷ 110 ∷ 32 ∷ 49 ∷ 32 ∷ 57 ∷ 54 ∷ 48 ∷ 32 ∷ 57 ∷ 54 ∷ 49 ∷ 10
    ∷ 114 ∷ 97 ∷ 116 ∷ 105 ∷ 111 ∷ 32 ∷ 49 ∷ 32 ∷ 110 ∷ 117 ∷ 109 ∷ 98 ∷ 101 ∷ 114 ∷ 32 ∷ 51 ∷ 102 ∷ 101 ∷ 48 ∷ 48 ∷ 48 ∷ 48
    ∷ 48 ∷ 48 ∷ 48 ∷ 48 ∷ 48 ∷ 48 ∷ 48 ∷ 48 ∷ 48 ∷ 32 ∷ 110 ∷ 97 ∷ 110 ∷ 32 ∷ 55 ∷ 102 ∷ 102 ∷ 56 ∷ 48 ∷ 48 ∷ 48 ∷ 48 ∷ 48 ∷ 48
    ∷ 48 ∷ 48 ∷ 48 ∷ 48 ∷ 48 ∷ 48 ∷ 10
    ∷ 114 ∷ 97 ∷ 116 ∷ 105 ∷ 111 ∷ 32 ∷ 50 ∷ 32 ∷ 110 ∷ 117 ∷ 109 ∷ 98 ∷ 101 ∷ 114 ∷ 32 ∷ 51 ∷ 102 ∷ 101 ∷ 48 ∷ 48 ∷ 48 ∷ 48
    ∷ 48 ∷ 48 ∷ 48 ∷ 48 ∷ 48 ∷ 48 ∷ 48 ∷ 48 ∷ 48 ∷ 32 ∷ 110 ∷ 117 ∷ 109 ∷ 98 ∷ 101 ∷ 114 ∷ 32 ∷ 56 ∷ 48 ∷ 48 ∷ 48 ∷ 48 ∷ 48 ∷ 48
    ∷ 48 ∷ 48 ∷ 48 ∷ 48 ∷ 48 ∷ 48 ∷ 48 ∷ 48 ∷ 48 ∷ 10
    ∷ 109 ∷ 111 ∷ 114 ∷ 101 ∷ 32 ∷ 50 ∷ 10 ∷ []

-- `refused 10 at 0 in 2`
abbrev pub refused_second : List ℕ
refused_second = 114 ∷ 101 ∷ 102 ∷ 117 ∷ 115 ∷ 101 ∷ 100 ∷ 32 ∷ 49 ∷ 48 ∷ 32 ∷ 97 ∷ 116 ∷ 32 ∷ 48 ∷ 32 ∷ 105 ∷ 110 ∷ 32 ∷ 50 ∷ 10 ∷ []

-- `refused 10 at 0 in 1`
abbrev pub refused_first : List ℕ
refused_first = 114 ∷ 101 ∷ 102 ∷ 117 ∷ 115 ∷ 101 ∷ 100 ∷ 32 ∷ 49 ∷ 48 ∷ 32 ∷ 97 ∷ 116 ∷ 32 ∷ 48 ∷ 32 ∷ 105 ∷ 110 ∷ 32 ∷ 49 ∷ 10 ∷ []

-- a line of each kind, none where there is no difference or not both have the index, refusals, and two runs that differ in every way
pub examples : List Example
examples =
    example (line_of (InProperty Rate 96000 88200)) (114 ∷ 97 ∷ 116 ∷ 101 ∷ 32 ∷ 57 ∷ 54 ∷ 48 ∷ 48 ∷ 48 ∷ 32 ∷ 56 ∷ 56 ∷ 50 ∷ 48 ∷ 48 ∷ 10 ∷ [])
    ∷ example (line_of (InProperty Side 0 4)) (115 ∷ 105 ∷ 100 ∷ 101 ∷ 32 ∷ 48 ∷ 32 ∷ 52 ∷ 10 ∷ [])
    ∷ example (line_of (InProperty Count 3 5)) (99 ∷ 111 ∷ 117 ∷ 110 ∷ 116 ∷ 32 ∷ 51 ∷ 32 ∷ 53 ∷ 10 ∷ [])
    ∷ example (line_of (InProperty Form 3 5)) (102 ∷ 111 ∷ 114 ∷ 109 ∷ 32 ∷ 51 ∷ 32 ∷ 53 ∷ 10 ∷ [])
    ∷ example (line_of (Position 10 960 961)) (112 ∷ 111 ∷ 115 ∷ 105 ∷ 116 ∷ 105 ∷ 111 ∷ 110 ∷ 32 ∷ 49 ∷ 48 ∷ 32 ∷ 57 ∷ 54 ∷ 48 ∷ 32 ∷ 57 ∷ 54 ∷ 49 ∷ 10 ∷ [])
    ∷ example (line_if (ratio_at (1 ∷ 0x3FE0000000000000 ∷ []) (1 ∷ 0x7FF8000000000000 ∷ []) 1)) (114 ∷ 97 ∷ 116 ∷ 105 ∷ 111 ∷ 32 ∷ 49 ∷ 32 ∷ 110 ∷ 117 ∷ 109 ∷ 98 ∷ 101 ∷ 114 ∷ 32 ∷ 51 ∷ 102 ∷ 101 ∷ 48 ∷ 48 ∷ 48 ∷ 48
    ∷ 48 ∷ 48 ∷ 48 ∷ 48 ∷ 48 ∷ 48 ∷ 48 ∷ 48 ∷ 48 ∷ 32 ∷ 110 ∷ 97 ∷ 110 ∷ 32 ∷ 55 ∷ 102 ∷ 102 ∷ 56 ∷ 48 ∷ 48 ∷ 48 ∷ 48 ∷ 48 ∷ 48
    ∷ 48 ∷ 48 ∷ 48 ∷ 48 ∷ 48 ∷ 48 ∷ 10 ∷ [])
    ∷ example (line_if (ratio_at (0xFFF0000000000000 ∷ []) (0 ∷ []) 0)) (114 ∷ 97 ∷ 116 ∷ 105 ∷ 111 ∷ 32 ∷ 48 ∷ 32 ∷ 105 ∷ 110 ∷ 102 ∷ 105 ∷ 110 ∷ 105 ∷ 116 ∷ 121 ∷ 32 ∷ 102 ∷ 102 ∷ 102 ∷ 48 ∷ 48
    ∷ 48 ∷ 48 ∷ 48 ∷ 48 ∷ 48 ∷ 48 ∷ 48 ∷ 48 ∷ 48 ∷ 48 ∷ 48 ∷ 32 ∷ 110 ∷ 117 ∷ 109 ∷ 98 ∷ 101 ∷ 114 ∷ 32 ∷ 48 ∷ 48 ∷ 48 ∷ 48 ∷ 48
    ∷ 48 ∷ 48 ∷ 48 ∷ 48 ∷ 48 ∷ 48 ∷ 48 ∷ 48 ∷ 48 ∷ 48 ∷ 48 ∷ 10 ∷ [])
    ∷ example (line_if (ratio_at (0xFFF0000000000000 ∷ []) (0 ∷ []) 1)) []
    ∷ example (line_of (Position 4095 0 4611686018427387903)) (112 ∷ 111 ∷ 115 ∷ 105 ∷ 116 ∷ 105 ∷ 111 ∷ 110 ∷ 32 ∷ 52 ∷ 48 ∷ 57 ∷ 53 ∷ 32 ∷ 48 ∷ 32 ∷ 52 ∷ 54 ∷ 49 ∷ 49 ∷ 54 ∷ 56 ∷ 54 ∷ 48 ∷ 49 ∷ 56 ∷ 52 ∷ 50 ∷ 55 ∷ 51 ∷ 56 ∷ 55 ∷ 57 ∷ 48 ∷ 51 ∷ 10 ∷ [])
    ∷ example (line_of (Ratio 10 0x7FF0000000000000 (kind_of 0x7FF0000000000000) 0xFFF800000000ABCD (kind_of 0xFFF800000000ABCD))) (114 ∷ 97 ∷ 116 ∷ 105 ∷ 111 ∷ 32 ∷ 49 ∷ 48 ∷ 32 ∷ 105 ∷ 110 ∷ 102 ∷ 105 ∷ 110 ∷ 105 ∷ 116 ∷ 121 ∷ 32 ∷ 55 ∷ 102 ∷ 102 ∷ 48 ∷ 48 ∷ 48 ∷ 48 ∷ 48 ∷ 48 ∷ 48 ∷ 48 ∷ 48 ∷ 48 ∷ 48 ∷ 48 ∷ 48 ∷ 32 ∷ 110 ∷ 97 ∷ 110 ∷ 32 ∷ 102 ∷ 102 ∷ 102 ∷ 56 ∷ 48 ∷ 48 ∷ 48 ∷ 48 ∷ 48 ∷ 48 ∷ 48 ∷ 48 ∷ 97 ∷ 98 ∷ 99 ∷ 100 ∷ 10 ∷ [])
    ∷ example (line_of (More 2)) (109 ∷ 111 ∷ 114 ∷ 101 ∷ 32 ∷ 50 ∷ 10 ∷ [])
    ∷ example (line_of (More 596)) (109 ∷ 111 ∷ 114 ∷ 101 ∷ 32 ∷ 53 ∷ 57 ∷ 54 ∷ 10 ∷ [])
    ∷ example (line_if None) []
    ∷ example (refused_in_line 10 0 2) (114 ∷ 101 ∷ 102 ∷ 117 ∷ 115 ∷ 101 ∷ 100 ∷ 32 ∷ 49 ∷ 48 ∷ 32 ∷ 97 ∷ 116 ∷ 32 ∷ 48 ∷ 32 ∷ 105 ∷ 110 ∷ 32 ∷ 50 ∷ 10 ∷ [])
    ∷ example (refused_in_line 18 4711 1) (114 ∷ 101 ∷ 102 ∷ 117 ∷ 115 ∷ 101 ∷ 100 ∷ 32 ∷ 49 ∷ 56 ∷ 32 ∷ 97 ∷ 116 ∷ 32 ∷ 52 ∷ 55 ∷ 49 ∷ 49 ∷ 32 ∷ 105 ∷ 110 ∷ 32 ∷ 49
    ∷ 10 ∷ [])
    ∷ example (differences_text (differences listed_run other_run)) compared_text
    ∷ []

-- each text, computed from the definitions, is the one that is given
pub examples_hold : map (λ e. e.text) examples ≡ map (λ e. e.expected) examples
unfolding examples digits_of trimmed decimal hex16 of_bits of_fields position_at ratio_at points_to differences property_line position_line ratio_line more_line differences_text refused_in_line
examples_hold = refl

-- the output in full; proved in proofs/Examples
abbrev pub PrintsExample : Type 0
PrintsExample =
    (printed listed_bytes (record_of other_run) ≡ compared_text)
    × (printed listed_bytes listed_bytes ≡ [])
    × (printed listed_bytes [] ≡ refused_second)
    × (printed [] listed_bytes ≡ refused_first)
    × (printed [] [] ≡ refused_first)
