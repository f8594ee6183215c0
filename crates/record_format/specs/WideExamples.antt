-- Document 02, No. 3: answers of reading and of writing in the wide form, as tables, computed from the definitions by one statement each.
--   third a b ds                    the body of two positions and the bits ds of a third
--   escaped x                       the code of the row of 64 bits with the bits of x
--   BodyExample, body, bodies       what is read from such a body by the wide table; bodies_hold: each is as it is given
--   front n, sided n                the fields of the rate 96000 and the count n, without a side and on side 4
--   room_for m s a                  check, fetch and open reading of s with room for m points give a
--   reads, reads_hold               the rows, and that each is as it is given; open_points: what open reading leaves in the outputs
--   writes, writes_hold             likewise of writing
use Rattle.std.specs.Prelude.{◌≡◌, refl, List, [], ◌∷◌, ◌++◌, map, ℕ, ◌+◌, ◌-◌, ◌^◌, replicate}
use Rattle.std.proofs.Math.Option.{Option, none, some}
use Rattle.lists.specs.Lists.{member, first_index}
use Rattle.lists.specs.Compare.{begins, same}
use Rattle.bits.specs.Digits.{digits_of, bits_of, number_of}
use Rattle.bits.specs.Packing.{bits, eights, pack}
use Rattle.limits.specs.Rates.{rates, is_rate}
use Rattle.limits.specs.Sides.{is_side}
use Rattle.refusals.specs.Tests.{first_of}
use Rattle.position_format.specs.declared.Form.TheVariants.{Old, Wide}
use Rattle.position_format.specs.Rows.{rows, wide_rows, in_table, code}
use Rattle.position_format.specs.Steps.{steps_from, steps}
use Rattle.position_format.specs.Positions.{step_bits, position_bits, coded_positions, valid_positions, step_at, decoded_steps, decoded_bits, decoded, read_positions}
use Rattle.ratio_format.specs.Zeros.{zeros_at, lead_zeros, trail_zeros, sum_of}
use Rattle.ratio_format.specs.Choice.{find, best, ratio_form}
use Rattle.ratio_format.specs.RatioForms.{written, coded}
use Rattle.ratio_format.specs.Open.{open_one}
use Rattle.ratio_format.specs.Bodies.{coded_from, open_from, strict_ratios}
use Rattle.record_format.specs.declared.CheckAnswer.{CheckAnswer}
use Rattle.record_format.specs.Fields.{field_bytes, laid, tag_at, length_at, body_at, next_at}
use Rattle.record_format.specs.Examples.{paused_bytes}
use Rattle.record_format.specs.Runs.{run, record_of}
use Rattle.record_format.specs.Writing.{write_refusal, write_answer}
use Rattle.record_format.specs.CheckClaims.{refused_found}
use Rattle.record_format.specs.AnswerExamples.{given_rate, given_side, given_count, two_open, sound, ReadExample, alike, open_only, no_room, ReadsSo, WriteExample, wrote, WritesSo}
use Rattle.record_format.specs.Reading.{count_at, side_in}
use Rattle.record_format.specs.Checking.{found}
use Rattle.record_format.specs.Fetching.{read_with, read_open}

-- ---- steps

-- three points
abbrev third : ℕ → ℕ → List ℕ → List ℕ
third a b ds = pack (bits_of 64 a ++ (bits_of 64 b ++ ds))

-- 11111 and 64 bits
abbrev escaped : ℕ → List ℕ
escaped x = (1 ∷ 1 ∷ 1 ∷ 1 ∷ 1 ∷ []) ++ bits_of 64 x

-- a body, and what it holds
pub record BodyExample : Type 0 where
  pub body : List ℕ
  pub holds : Option (List ℕ)

-- such an example
abbrev body : List ℕ → Option (List ℕ) → BodyExample
body l o = record { body = l; holds = o }

-- the steps past the ends of the 32 bits, the largest ones, 2^31, and the old table's code of 2,049, which is another step here; and what no writer
-- writes: the old table's code of 2^31, a step that an earlier row holds, -2^63, a position out of range on either side, a sum past signed 64 bits, too few
-- bits, a 1 in the fill
pub bodies : List BodyExample
bodies =
    body (third 0 0 (escaped (2 ^ 31 + 1))) (some (0 ∷ 0 ∷ (2 ^ 31 + 1) ∷ []))
    ∷ body (third (2 ^ 31) (2 ^ 31) (escaped (2 ^ 64 - 2 ^ 31))) (some ((2 ^ 31) ∷ (2 ^ 31) ∷ 0 ∷ []))
    ∷ body (third (2 ^ 62 - 1) 0 (escaped (2 ^ 63 - 2))) (some ((2 ^ 62 - 1) ∷ 0 ∷ (2 ^ 62 - 1) ∷ []))
    ∷ body (third 0 (2 ^ 62 - 1) (escaped (2 ^ 64 - (2 ^ 63 - 2)))) (some (0 ∷ (2 ^ 62 - 1) ∷ 0 ∷ []))
    ∷ body (third 0 0 ((1 ∷ 1 ∷ 1 ∷ 1 ∷ 0 ∷ []) ++ bits_of 32 (2 ^ 31))) (some (0 ∷ 0 ∷ (2 ^ 31) ∷ []))
    ∷ body (third 0 0 ((1 ∷ 1 ∷ 1 ∷ 1 ∷ []) ++ bits_of 32 2049)) (some (0 ∷ 0 ∷ 4098 ∷ []))
    ∷ body (third 0 0 ((1 ∷ 1 ∷ 1 ∷ 1 ∷ []) ++ bits_of 32 (2 ^ 31))) none
    ∷ body (third 0 0 (escaped (2 ^ 31))) none
    ∷ body (third (2 ^ 31) (2 ^ 31) (escaped (2 ^ 64 - (2 ^ 31 - 1)))) none
    ∷ body (third 0 0 (escaped 0)) none
    ∷ body (third 0 0 (escaped 65)) none
    ∷ body (third 0 (2 ^ 62 - 1) (escaped (2 ^ 63))) none
    ∷ body (third 0 0 (escaped (2 ^ 64 - 2 ^ 31 - 1))) none
    ∷ body (third 0 0 (escaped (2 ^ 62))) none
    ∷ body (third 0 (2 ^ 62 - 1) (escaped (2 ^ 63 - 1))) none
    ∷ body (third 0 0 ((1 ∷ 1 ∷ 1 ∷ 1 ∷ 1 ∷ []) ++ bits_of 50 1)) none
    ∷ body (third 0 0 (escaped (2 ^ 31 + 1) ++ (0 ∷ 0 ∷ 1 ∷ []))) none
    ∷ []

-- each, computed from the definitions, is the one that is given
pub bodies_hold : map (λ x. read_positions wide_rows 3 x.body) bodies ≡ map (λ x. x.holds) bodies
unfolding bodies first_index begins same digits_of number_of bits eights pack rows wide_rows in_table code steps_from steps step_bits position_bits coded_positions valid_positions step_at decoded_steps decoded_bits decoded read_positions
bodies_hold = refl

-- ---- reading

-- a rate's field and a count's
abbrev front : ℕ → List ℕ
front n = given_rate ++ given_count n

-- a side's between them
abbrev sided : ℕ → List ℕ
sided n = given_rate ++ (given_side 4 ++ given_count n)

-- without a rate expected, all answer alike
abbrev room_for : ℕ → List ℕ → CheckAnswer → ReadExample
room_for m s a = alike 0 m s a

-- 3,501 points: nothing behind the count, a cut head, another tag, each form's tag; the room first; 4,096 wide points, 4,097, and 3,500; no points with a
-- byte too many, and in each form; tag 5 in the place of the ratios'; a run with a pause; no room beside each number that a
-- check then gives, 0, 10, 11, 15, 17 and 18; an open form
pub reads : List ReadExample
reads =
    room_for 4096 (front 3501) (refused_found 10 12)
    ∷ room_for 4096 (front 3501 ++ (0x05 ∷ 0x00 ∷ [])) (refused_found 10 12)
    ∷ room_for 4096 (front 3501 ++ (0x09 ∷ 0x00 ∷ 0x00 ∷ [])) (refused_found 11 12)
    ∷ room_for 4096 (front 3501 ++ (0x05 ∷ 0x00 ∷ 0x00 ∷ [])) (refused_found 15 7)
    ∷ room_for 4096 (front 3501 ++ (0x05 ∷ 0xFF ∷ 0xFF ∷ [])) (refused_found 15 7)
    ∷ room_for 4096 (sided 3501 ++ (0x05 ∷ 0xFF ∷ 0xFF ∷ [])) (refused_found 15 11)
    ∷ room_for 4096 (front 3501 ++ (0x03 ∷ 0xFF ∷ 0xFF ∷ [])) (refused_found 10 12)
    ∷ room_for 4096 (front 4096 ++ (0x05 ∷ 0x00 ∷ 0x00 ∷ [])) (refused_found 15 7)
    ∷ no_room 3500 (front 3501 ++ (0x05 ∷ 0x00 ∷ 0x00 ∷ [])) 7 (refused_found 15 7)
    ∷ no_room 3500 (sided 3501 ++ (0x05 ∷ 0x00 ∷ 0x00 ∷ [])) 11 (refused_found 15 11)
    ∷ room_for 4096 (front 4097) (refused_found 15 7)
    ∷ room_for 4096 (front 3500 ++ (0x05 ∷ 0xFF ∷ 0xFF ∷ [])) (refused_found 10 12)
    ∷ room_for 4096 (front 0 ++ (0x05 ∷ 0x00 ∷ 0x01 ∷ 0x00 ∷ [])) (refused_found 17 12)
    ∷ room_for 4096 (front 0 ++ (0x05 ∷ 0x00 ∷ 0x00 ∷ 0x04 ∷ 0x00 ∷ 0x00 ∷ [])) (sound 0 0 5 18)
    ∷ room_for 4096 (sided 0 ++ (0x05 ∷ 0x00 ∷ 0x00 ∷ 0x04 ∷ 0x00 ∷ 0x00 ∷ [])) (sound 4 0 5 22)
    ∷ room_for 4096 (front 0 ++ (0x03 ∷ 0x00 ∷ 0x00 ∷ 0x04 ∷ 0x00 ∷ 0x00 ∷ [])) (sound 0 0 3 18)
    ∷ room_for 4096 (front 0 ++ (0x05 ∷ 0x00 ∷ 0x00 ∷ 0x05 ∷ 0x00 ∷ 0x00 ∷ [])) (refused_found 11 15)
    ∷ room_for 3 paused_bytes (sound 0 3 5 54)
    ∷ no_room 2 paused_bytes 7 (sound 0 3 5 54)
    ∷ no_room 1 (front 2) 7 (refused_found 10 12)
    ∷ no_room 1 (front 2 ++ (0x09 ∷ 0x00 ∷ 0x00 ∷ [])) 7 (refused_found 11 12)
    ∷ no_room 1 (front 2 ++ (0x05 ∷ 0x00 ∷ 0x00 ∷ [])) 7 (refused_found 17 12)
    ∷ no_room 1 (front 2 ++ two_open 5) 7 (refused_found 18 31)
    ∷ open_only 4096 (front 2 ++ two_open 5) (refused_found 18 31) (sound 0 2 5 52)
    ∷ open_only 4096 (sided 2 ++ two_open 5) (refused_found 18 35) (sound 4 2 5 56)
    ∷ []

-- each answer, computed from the definitions, is the one that is given
pub reads_hold : ReadsSo reads
unfolding reads member first_index begins same digits_of number_of bits eights pack rates is_rate is_side first_of rows wide_rows in_table code steps_from steps step_bits position_bits coded_positions valid_positions step_at decoded_steps decoded_bits decoded read_positions zeros_at lead_zeros trail_zeros sum_of find best ratio_form written coded coded_from open_one open_from strict_ratios tag_at length_at body_at next_at count_at side_in read_with found
reads_hold = (refl, refl, refl)

-- the points at the front of both outputs, which keep the rest
pub open_points :
    ((read_open 0 (front 2 ++ two_open 5) (replicate 3 7) (replicate 3 8)).positions ≡ 0 ∷ 0 ∷ 7 ∷ [])
    × ((read_open 0 (front 2 ++ two_open 5) (replicate 3 7) (replicate 3 8)).ratios ≡ 0 ∷ 1 ∷ 8 ∷ [])
unfolding member first_index begins same digits_of number_of bits eights pack rates is_rate is_side first_of rows wide_rows in_table code steps_from steps step_bits position_bits coded_positions valid_positions step_at decoded_steps decoded_bits decoded read_positions open_one open_from tag_at length_at body_at next_at count_at side_in read_with
open_points = (refl, refl)

-- ---- writing

-- a step that only the wide form takes; the first of two such steps, and of two positions that neither takes; 3,501 points; the room; fewer ratios than
-- positions, a side above 26, and no points
pub writes : List WriteExample
writes =
    wrote (run 96000 0 Old (0 ∷ 0 ∷ (2 ^ 31 + 1) ∷ []) (0 ∷ 0 ∷ 0 ∷ [])) 60 5 2 0
    ∷ wrote (run 96000 0 Old (0 ∷ 0 ∷ (2 ^ 31 + 1) ∷ 0 ∷ []) (0 ∷ 0 ∷ 0 ∷ 0 ∷ [])) 60 5 2 0
    ∷ wrote (run 96000 0 Wide (0 ∷ 0 ∷ (2 ^ 31 + 1) ∷ []) (0 ∷ 0 ∷ 0 ∷ [])) 54 0 0 54
    ∷ wrote (run 96000 4 Wide (0 ∷ (2 ^ 62 - 1) ∷ 0 ∷ []) (0 ∷ 0 ∷ 0 ∷ [])) 58 0 0 58
    ∷ wrote (run 96000 0 Wide (0 ∷ (2 ^ 62) ∷ (2 ^ 62) ∷ []) (0 ∷ 0 ∷ 0 ∷ [])) 60 4 1 0
    ∷ wrote (run 96000 0 Wide (replicate 3501 0) (replicate 3501 0)) 60 3 0 0
    ∷ wrote (run 96000 0 Wide (0 ∷ 0 ∷ (2 ^ 31 + 1) ∷ []) (0 ∷ 0 ∷ 0 ∷ [])) 53 6 0 0
    ∷ wrote (run 96000 0 Wide (0 ∷ []) []) 60 2 0 0
    ∷ wrote (run 96000 27 Wide [] []) 60 21 0 0
    ∷ wrote (run 96000 0 Wide [] []) 18 0 0 18
    ∷ []

-- each answer, computed from the definitions, is the one that is given
pub writes_hold : WritesSo writes
unfolding writes member first_index digits_of eights pack rates is_rate first_of rows wide_rows in_table code steps_from steps step_bits position_bits coded_positions find best ratio_form written coded coded_from field_bytes laid record_of write_refusal write_answer
writes_hold = refl
