-- Answers of the check as one number for C, and what a fetch leaves in its outputs, computed from the definitions.
--   NumberExample, numbered   the expected rate, the input, and the number
--   numbers, numbers_hold     the rows; each is as it is given
--   fetch_points              the points of document 01's 46 bytes at the front of both outputs, and the rest as it was; zeros where one output has no room,
--                             where another rate is expected, which is told before the room, and where a body is no coding
use Rattle.std.specs.Prelude.{List, [], ◌∷◌, ◌++◌, map, ◌≡◌, refl, ℕ, replicate, take}
use Rattle.lists.specs.Lists.{member, first_index}
use Rattle.lists.specs.Compare.{same, begins}
use Rattle.bits.specs.Digits.{digits_of, number_of}
use Rattle.bits.specs.Packing.{bits, eights, pack}
use Rattle.limits.specs.Rates.{rates, is_rate}
use Rattle.limits.specs.Sides.{is_side}
use Rattle.refusals.specs.Tests.{first_of}
use Rattle.position_format.specs.Steps.{steps_from, steps}
use Rattle.position_format.specs.Positions.{step_bits, position_bits, coded_positions, valid_positions, decoded_steps, decoded_bits, decoded, read_positions, step_at}
use Rattle.ratio_format.specs.Zeros.{zeros_at, lead_zeros, trail_zeros, sum_of}
use Rattle.ratio_format.specs.Choice.{find, best, ratio_form}
use Rattle.ratio_format.specs.RatioForms.{written, coded}
use Rattle.ratio_format.specs.Open.{open_one, open_xor}
use Rattle.ratio_format.specs.Bodies.{coded_from, open_from, strict_ratios}
use Rattle.record_format.specs.Fields.{tag_at, length_at, body_at, next_at}
use Rattle.record_format.specs.Reading.{count_at, side_in}
use Rattle.record_format.specs.Checking.{found, checked, check_number}
use Rattle.record_format.specs.Fetching.{read_with, Fetched, fetched}
use Rattle.position_format.specs.Rows.{rows, wide_rows, in_table, code}
use Rattle.record_format.specs.Examples.{listed_bytes, sided_bytes}
use Rattle.record_format.specs.FetchClaims.{refused_fetch}
use Rattle.record_format.specs.AnswerExamples.{given_rate, given_side, given_count, two_open}

-- a rate that is expected, an input, and the number
pub record NumberExample : Type 0 where
  pub expected : ℕ
  pub input : List ℕ
  pub number : ℕ

-- such an example
abbrev numbered : ℕ → List ℕ → ℕ → NumberExample
numbered e s n = record { expected = e; input = s; number = n }

-- a record of no points
abbrev empty : List ℕ
empty = given_rate ++ (given_count 0 ++ (0x03 ∷ 0x00 ∷ 0x00 ∷ 0x04 ∷ 0x00 ∷ 0x00 ∷ []))

-- sizes, also with bytes behind; 10 for no input, for a cut rate and for the ratios' field cut in its head and in its body; 11, 12 in each field of the front, 13,
-- 14, 20, 15, 17 and 18, each with its place
pub numbers : List NumberExample
numbers =
    numbered 0 empty 18
    ∷ numbered 96000 (empty ++ (0x07 ∷ [])) 18
    ∷ numbered 0 listed_bytes 46
    ∷ numbered 0 sided_bytes 50
    ∷ numbered 0 [] 655360
    ∷ numbered 0 (take 6 given_rate) 655360
    ∷ numbered 0 (take 13 empty) 655372
    ∷ numbered 0 (take 15 empty) 655375
    ∷ numbered 0 (take 17 empty) 655375
    ∷ numbered 0 (take 45 listed_bytes) 655392
    ∷ numbered 0 (0x02 ∷ 0x00 ∷ 0x04 ∷ []) 720896
    ∷ numbered 0 (given_rate ++ (given_count 0 ++ (0x04 ∷ 0x00 ∷ 0x00 ∷ []))) 720908
    ∷ numbered 0 (0x01 ∷ 0x00 ∷ 0x03 ∷ []) 786432
    ∷ numbered 0 (given_rate ++ (0x02 ∷ 0x00 ∷ 0x03 ∷ [])) 786439
    ∷ numbered 0 (given_rate ++ (given_side 4 ++ (0x02 ∷ 0x00 ∷ 0x01 ∷ []))) 786443
    ∷ numbered 0 (0x01 ∷ 0x00 ∷ 0x04 ∷ 0x00 ∷ 0x00 ∷ 0x00 ∷ 0x01 ∷ []) 851968
    ∷ numbered 48000 listed_bytes 917504
    ∷ numbered 0 (given_rate ++ given_count 4097) 983047
    ∷ numbered 0 (given_rate ++ (given_side 4 ++ (given_count 3501 ++ (0x05 ∷ 0x00 ∷ 0x00 ∷ [])))) 983051
    ∷ numbered 0 (given_rate ++ (given_count 1 ++ (0x03 ∷ 0x00 ∷ 0x00 ∷ []))) 1114124
    ∷ numbered 0 (given_rate ++ (given_count 2 ++ two_open 3)) 1179679
    ∷ numbered 0 (given_rate ++ given_side 27) 1310727
    ∷ []

-- each number, computed from the definitions, is the one that is given
pub numbers_hold : map (λ x. check_number (checked x.expected x.input)) numbers ≡ map (λ x. x.number) numbers
unfolding numbers member first_index begins same digits_of number_of bits eights pack rates is_rate is_side first_of rows wide_rows in_table code steps_from steps step_bits position_bits coded_positions valid_positions step_at decoded_steps decoded_bits decoded read_positions zeros_at lead_zeros trail_zeros sum_of find best ratio_form written coded coded_from open_xor open_one open_from strict_ratios tag_at length_at body_at next_at count_at side_in found
numbers_hold = refl

-- into outputs of sevens and of eights
abbrev into : ℕ → List ℕ → ℕ → ℕ → Fetched
into e s m n = fetched e s (replicate m 7) (replicate n 8)

-- with room; without, in either output; with another rate expected and no room; and no coding
pub fetch_points :
    (into 0 listed_bytes 4 5
    ≡ record {
      answer = record { number = 0; place = 0; count = 3 };
      positions = 0 ∷ 960 ∷ 1920 ∷ 7 ∷ [];
      ratios = 0x3FE0000000000000 ∷ 0x3FE0000000000000 ∷ 0x3FE0000000000000 ∷ 8 ∷ 8 ∷ [];
    })
    × (into 0 listed_bytes 2 3 ≡ refused_fetch 16 7 (replicate 2 7) (replicate 3 8))
    × (into 0 sided_bytes 3 2 ≡ refused_fetch 16 11 (replicate 3 7) (replicate 2 8))
    × (into 48000 listed_bytes 2 2 ≡ refused_fetch 14 0 (replicate 2 7) (replicate 2 8))
    × (into 0 (given_rate ++ (given_count 2 ++ two_open 3)) 3 3 ≡ refused_fetch 18 31 (replicate 3 7) (replicate 3 8))
unfolding member first_index begins same digits_of number_of bits eights pack rates is_rate is_side first_of rows wide_rows in_table code steps_from steps step_bits position_bits coded_positions valid_positions step_at decoded_steps decoded_bits decoded read_positions zeros_at lead_zeros trail_zeros sum_of find best ratio_form written coded coded_from open_xor open_one open_from strict_ratios tag_at length_at body_at next_at count_at side_in read_with
fetch_points = (refl, refl, refl, refl, refl)
