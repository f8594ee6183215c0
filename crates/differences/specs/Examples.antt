-- Document 02, No. 7: pairs of runs and their differences, as one table, proved from the definitions by one statement.
--   Example, example   two runs, and their differences as they should be
--   half, positive_zero, negative_zero    the kinds of 0.5, 0 and -0
--   other_run          a run that differs from document 01's listed run in every way, and has two points more
--   special_run, opposite_run, empty_run, short_run, negative_run, smallest_run   other runs of the rows
--   examples           the rows; examples_hold: each is as it is given
use Rattle.std.specs.Prelude.{true, false, List, [], ◌∷◌, map, ◌≡◌, refl, pos, negsuc}
use Rattle.std.specs.Float.{fin}
use Rattle.std.specs.Float.Ieee.{of_bits, of_fields}
use Rattle.kind.specs.declared.Kind.{Kind}
use Rattle.kind.specs.declared.Kind.TheVariants.{Number, Infinity, Nan}
use Rattle.position_format.specs.declared.Form.TheVariants as form
use Rattle.record_format.specs.Examples.{listed_run, sided_run}
use Rattle.record_format.specs.Moves.{in_form}
use Rattle.record_format.specs.Runs.{Run, run}
use Rattle.differences.specs.declared.Property.TheVariants.{Rate, Side, Count, Form}
use Rattle.differences.specs.declared.Difference.{Difference}
use Rattle.differences.specs.declared.Difference.TheVariants.{InProperty, Position, Ratio, More}
use Rattle.differences.specs.Differences.{position_at, ratio_at, points_to, differences}

-- an example: two runs, and what differs
pub record Example : Type 0 where
  pub first : Run
  pub second : Run
  pub expected : List Difference

-- such an example
abbrev example : Run → Run → List Difference → Example
example r q l = record { first = r; second = q; expected = l }

-- 0.5 as a kind
abbrev half : Kind
half = Number (fin false 1 (negsuc 0))

-- 0 as a kind
abbrev positive_zero : Kind
positive_zero = Number (fin false 0 (pos 0))

-- -0 as a kind
abbrev negative_zero : Kind
negative_zero = Number (fin true 0 (pos 0))

-- another rate, a side, the wide form, a position, a not-a-number, -0, and two points more
abbrev pub other_run : Run
other_run = run 88200 4 form.Wide (0 ∷ 961 ∷ 1920 ∷ 2880 ∷ 3840 ∷ []) (0x3FE0000000000000 ∷ 0x7FF8000000000000 ∷ 0x8000000000000000 ∷ 0 ∷ 0 ∷ [])

-- 0, a not-a-number and an infinity
abbrev special_run : Run
special_run = run 48000 26 form.Old (7 ∷ 7 ∷ 7 ∷ []) (0 ∷ 0x7FF8000000000000 ∷ 0x7FF0000000000000 ∷ [])

-- -0, another not-a-number and the other infinity, at other positions but the second
abbrev opposite_run : Run
opposite_run = run 48000 26 form.Old (6 ∷ 7 ∷ 8 ∷ []) (0x8000000000000000 ∷ 0x7FF8000000000001 ∷ 0xFFF0000000000000 ∷ [])

-- a run of no points
abbrev empty_run : Run
empty_run = run 96000 0 form.Old [] []

-- a run of one
abbrev short_run : Run
short_run = run 96000 0 form.Old (5 ∷ []) (0x3FE0000000000000 ∷ [])

-- a run of one point, whose ratio is a negative not-a-number
abbrev negative_run : Run
negative_run = run 96000 0 form.Old (5 ∷ []) (0xFFF8000000000001 ∷ [])

-- the same with the smallest number above 0
abbrev smallest_run : Run
smallest_run = run 96000 0 form.Old (5 ∷ []) (1 ∷ [])

-- the same run twice, and one with a not-a-number and an infinity; a side and none, both ways; both forms of one run; every way at once, both ways; zeros,
-- not-a-numbers and infinities, of which each differs; a negative not-a-number and the smallest number; no points beside one, and no points twice
pub examples : List Example
examples =
    example listed_run listed_run []
    ∷ example special_run special_run []
    ∷ example listed_run sided_run (InProperty Side 0 4 ∷ [])
    ∷ example sided_run listed_run (InProperty Side 4 0 ∷ [])
    ∷ example listed_run (in_form form.Wide listed_run) (InProperty Form 3 5 ∷ [])
    ∷ example listed_run other_run
    (InProperty Rate 96000 88200
    ∷ InProperty Side 0 4
    ∷ InProperty Count 3 5
    ∷ InProperty Form 3 5
    ∷ Position 1 960 961
    ∷ Ratio 1 0x3FE0000000000000 half 0x7FF8000000000000 (Nan 0x7FF8000000000000)
    ∷ Ratio 2 0x3FE0000000000000 half 0x8000000000000000 negative_zero
    ∷ More 2
    ∷ [])
    ∷ example other_run listed_run
    (InProperty Rate 88200 96000
    ∷ InProperty Side 4 0
    ∷ InProperty Count 5 3
    ∷ InProperty Form 5 3
    ∷ Position 1 961 960
    ∷ Ratio 1 0x7FF8000000000000 (Nan 0x7FF8000000000000) 0x3FE0000000000000 half
    ∷ Ratio 2 0x8000000000000000 negative_zero 0x3FE0000000000000 half
    ∷ More 2
    ∷ [])
    ∷ example special_run opposite_run
    (Position 0 7 6
    ∷ Ratio 0 0 positive_zero 0x8000000000000000 negative_zero
    ∷ Ratio 1 0x7FF8000000000000 (Nan 0x7FF8000000000000) 0x7FF8000000000001 (Nan 0x7FF8000000000001)
    ∷ Position 2 7 8
    ∷ Ratio 2 0x7FF0000000000000 (Infinity false) 0xFFF0000000000000 (Infinity true)
    ∷ [])
    ∷ example negative_run smallest_run (Ratio 0 0xFFF8000000000001 (Nan 0xFFF8000000000001) 1 (Number (fin false 1 (negsuc 1073))) ∷ [])
    ∷ example empty_run short_run (InProperty Count 0 1 ∷ More 1 ∷ [])
    ∷ example empty_run empty_run []
    ∷ []

-- each list, computed from the definitions, is the one that is given
pub examples_hold : map (λ e. differences e.first e.second) examples ≡ map (λ e. e.expected) examples
unfolding examples of_bits of_fields position_at ratio_at points_to differences
examples_hold = refl
