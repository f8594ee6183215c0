-- Document 01, "The record" and "Numbers that come back", with the side and the form of document 02, No. 2 and No. 3: where the fields of a record stand,
-- what they hold, and the tests of reading. No output has a part in them.
--   rate_at, side_at s, count_at s, positions_at s, ratios_at s   the offset of each field, by what it holds
--   has_side s               a side's field stands past the rate's
--   end_at s                 the offset past the record
--   rate_in, side_in, count_in   the numbers in the fields of the rate, of the side (0 where there is none) and of the count
--   form_in s                the form that the tag of the positions' field names
--   positions_in s           the positions that the positions' field is the coding of, in its form, or nothing
--   ratios_in k s            the ratios that the reading k of the ratios' field gives, or nothing
--   other_rate e r           another rate is expected than r
--   rate_tests, side_tests, count_tests  the tests of their fields; front_tests e s: of all three, with the expected rate e (0 for none)
--   many_tests s             the test of the count by the form
--   positions_tests_by tags s    those of the positions' field, whose tag must be one of the list; positions_tests: of either form's
--   ratios_tests             those of the ratios' field
--   points_tests_by tags k s  those of the points: the positions' field and then the ratios'; points_tests: of either form's
--   record_tests_by tags k e s   those of a record in their order, with the reading k of the ratios' field, where the tag of the positions' field must be
--                            one of the list; record_tests: of either form's
-- The reading k of the ratios' field is, in the standard term, its decoder. Strict and open reading, in standard terms canonical and lenient decoding, differ
-- in it only: strict_ratios or open_ratios.
use Rattle.std.specs.Prelude.{Bool, not, cond, List, [], ◌∷◌, ◌++◌, ℕ, ltb, eqb}
use Rattle.std.proofs.Math.Option.{Option, none, some}
use Rattle.lists.specs.Compare.{both}
use Rattle.lists.specs.Optional.{missing}
use Rattle.bits.specs.Digits.{number_of}
use Rattle.limits.specs.Rates.{is_rate}
use Rattle.limits.specs.Points.{max_points}
use Rattle.limits.specs.Sides.{is_side}
use Rattle.refusals.specs.Tests.{Test, test}
use Rattle.position_format.specs.declared.Form.{Form}
use Rattle.position_format.specs.Tables.{table_of, points_of}
use Rattle.position_format.specs.Positions.{read_positions}
use Rattle.record_format.specs.Fields.{tag_at, body_at, next_at, head_tests, body_tests, field_tests}
use Rattle.record_format.specs.Runs.{rate_tag, side_tag, count_tag, positions_tags, form_of, ratios_tag, rate_size, side_size, count_size}

-- ---- where the fields stand, and what they hold

-- the rate's field stands at the front
abbrev pub rate_at : ℕ
rate_at = 0

-- the side's past it, if there is one
abbrev pub side_at : List ℕ → ℕ
side_at s = next_at s rate_at

-- the tag that stands there tells; where the input ends before it there is none, and the count's tests give 10 there
abbrev pub has_side : List ℕ → Bool
has_side s = eqb (tag_at s (side_at s)) side_tag

-- the count's past that, or else in its place
unfoldable pub count_at : List ℕ → ℕ
count_at s = cond (has_side s) (next_at s (side_at s)) (side_at s)

-- the positions' past that
abbrev pub positions_at : List ℕ → ℕ
positions_at s = next_at s (count_at s)

-- and then the ratios'
abbrev pub ratios_at : List ℕ → ℕ
ratios_at s = next_at s (positions_at s)

-- the offset past the record
abbrev pub end_at : List ℕ → ℕ
end_at s = next_at s (ratios_at s)

-- the rate
abbrev pub rate_in : List ℕ → ℕ
rate_in s = number_of 256 (body_at s rate_at)

-- the side: 0 where there is no field of one
unfoldable pub side_in : List ℕ → ℕ
side_in s = cond (has_side s) (number_of 256 (body_at s (side_at s))) 0

-- the count
abbrev pub count_in : List ℕ → ℕ
count_in s = number_of 256 (body_at s (count_at s))

-- the form of the positions
abbrev pub form_in : List ℕ → Form
form_in s = form_of (tag_at s (positions_at s))

-- the positions, or nothing
abbrev pub positions_in : List ℕ → Option (List ℕ)
positions_in s = read_positions (table_of (form_in s)) (count_in s) (body_at s (positions_at s))

-- the ratios by the reading k, or nothing
abbrev pub ratios_in : (ℕ → List ℕ → Option (List ℕ)) → List ℕ → Option (List ℕ)
ratios_in k s = k (count_in s) (body_at s (ratios_at s))

-- ---- the tests, field by field

-- whether a rate was expected, which is not 0, and differs
abbrev pub other_rate : ℕ → ℕ → Bool
other_rate e r = both (not (eqb e 0)) (not (eqb e r))

-- the rate's field, and then its contents by number: 13, 14
abbrev pub rate_tests : ℕ → List ℕ → List Test
rate_tests e s =
    field_tests s (rate_tag ∷ []) (some rate_size) rate_at
    ++ (test (not (is_rate (rate_in s))) 13 rate_at ∷ test (other_rate e (rate_in s)) 14 rate_at ∷ [])

-- the side's, if there is one: 20. A field there with another tag is taken for the count's, whose tests give 11 where its tag is not 2 either
abbrev pub side_tests : List ℕ → List Test
side_tests s =
    cond (has_side s)
    (field_tests s (side_tag ∷ []) (some side_size) (side_at s) ++ (test (not (is_side (side_in s))) 20 (side_at s) ∷ []))
    []

-- the count's: 15
abbrev pub count_tests : List ℕ → List Test
count_tests s = field_tests s (count_tag ∷ []) (some count_size) (count_at s) ++ (test (ltb max_points (count_in s)) 15 (count_at s) ∷ [])

-- rate, side and count
abbrev pub front_tests : ℕ → List ℕ → List Test
front_tests e s = rate_tests e s ++ (side_tests s ++ count_tests s)

-- more points than a run in the form has: 15, at the count's field. In the old form it never applies, since the count's own test stands before it
abbrev pub many_tests : List ℕ → List Test
many_tests s = test (ltb (points_of (form_in s)) (count_in s)) 15 (count_at s) ∷ []

-- the positions' field, where some tags are good: 17. 15 stands between its head and its body, so that they are not those of field_tests in a row
abbrev pub positions_tests_by : List ℕ → List ℕ → List Test
positions_tests_by tags s =
    head_tests s tags (positions_at s)
    ++ (many_tests s ++ (body_tests s (positions_at s) ++ (test (missing (positions_in s)) 17 (positions_at s) ∷ [])))

-- in either form
abbrev pub positions_tests : List ℕ → List Test
positions_tests s = positions_tests_by positions_tags s

-- the ratios': 18
abbrev pub ratios_tests : (ℕ → List ℕ → Option (List ℕ)) → List ℕ → List Test
ratios_tests k s = field_tests s (ratios_tag ∷ []) none (ratios_at s) ++ (test (missing (ratios_in k s)) 18 (ratios_at s) ∷ [])

-- positions and ratios, where some tags of the positions' field are good
abbrev pub points_tests_by : List ℕ → (ℕ → List ℕ → Option (List ℕ)) → List ℕ → List Test
points_tests_by tags k s = positions_tests_by tags s ++ ratios_tests k s

-- in either form
abbrev pub points_tests : (ℕ → List ℕ → Option (List ℕ)) → List ℕ → List Test
points_tests k s = points_tests_by positions_tags k s

-- the fields in order, where some tags of the positions' field are good
abbrev pub record_tests_by : List ℕ → (ℕ → List ℕ → Option (List ℕ)) → ℕ → List ℕ → List Test
record_tests_by tags k e s = front_tests e s ++ points_tests_by tags k s

-- in either form
abbrev pub record_tests : (ℕ → List ℕ → Option (List ℕ)) → ℕ → List ℕ → List Test
record_tests k e s = record_tests_by positions_tags k e s
