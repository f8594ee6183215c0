-- Document 02, No. 2: answers of reading and of writing with a side, as one table each, computed from the definitions by one statement.
--   no_points                       the positions' and the ratios' field of no points
--   expecting e s a                 check, fetch and open reading of s with room for two points, where the rate e is expected, give a
--   reads, reads_hold               the rows, and that each is as it is given
--   writes, writes_hold             likewise of writing
use Rattle.std.specs.Prelude.{refl, List, [], ◌∷◌, ◌++◌, ℕ}
use Rattle.lists.specs.Lists.{member, first_index}
use Rattle.lists.specs.Compare.{same}
use Rattle.bits.specs.Digits.{digits_of, number_of}
use Rattle.bits.specs.Packing.{bits, eights, pack}
use Rattle.limits.specs.Rates.{rates, is_rate}
use Rattle.limits.specs.Sides.{is_side}
use Rattle.refusals.specs.Tests.{first_of}
use Rattle.position_format.specs.declared.Form.TheVariants.{Old}
use Rattle.position_format.specs.Steps.{steps_from, steps}
use Rattle.position_format.specs.Positions.{step_bits, position_bits, coded_positions, valid_positions, decoded_steps, decoded_bits, decoded, read_positions}
use Rattle.ratio_format.specs.Zeros.{zeros_at, lead_zeros, trail_zeros, sum_of}
use Rattle.ratio_format.specs.Choice.{find, best, ratio_form}
use Rattle.ratio_format.specs.RatioForms.{written, coded}
use Rattle.ratio_format.specs.Open.{open_one}
use Rattle.ratio_format.specs.Bodies.{coded_from, open_from, strict_ratios}
use Rattle.record_format.specs.declared.CheckAnswer.{CheckAnswer}
use Rattle.record_format.specs.Fields.{field_bytes, laid, tag_at, length_at, body_at, next_at}
use Rattle.record_format.specs.Runs.{run, record_of}
use Rattle.record_format.specs.Writing.{write_refusal, write_answer}
use Rattle.record_format.specs.CheckClaims.{refused_found}
use Rattle.record_format.specs.AnswerExamples.{given_rate, given_side, given_count, two_open, sound, ReadExample, alike, open_only, no_room, ReadsSo, WriteExample, wrote, WritesSo}
use Rattle.record_format.specs.Reading.{count_at, side_in}
use Rattle.record_format.specs.Checking.{found}
use Rattle.record_format.specs.Fetching.{read_with}

-- ---- reading

-- the positions' and the ratios' of no points
abbrev no_points : List ℕ
no_points = 0x03 ∷ 0x00 ∷ 0x00 ∷ 0x04 ∷ 0x00 ∷ 0x00 ∷ []

-- with room for two points, all answer alike
abbrev expecting : ℕ → List ℕ → CheckAnswer → ReadExample
expecting e s a = alike e 2 s a

-- the field past the rate and what follows it: cut, with another tag, of another length, with each kind of number, twice, out of its place
pub reads : List ReadExample
reads =
    expecting 0 given_rate (refused_found 10 7)
    ∷ expecting 0 (given_rate ++ (0x06 ∷ [])) (refused_found 10 7)
    ∷ expecting 0 (given_rate ++ (0x09 ∷ [])) (refused_found 10 7)
    ∷ expecting 0 (given_rate ++ (0x09 ∷ 0x00 ∷ 0x01 ∷ 0x04 ∷ [])) (refused_found 11 7)
    ∷ expecting 0 (given_rate ++ (0x06 ∷ 0x00 ∷ 0x02 ∷ [])) (refused_found 12 7)
    ∷ expecting 0 (given_rate ++ (0x06 ∷ 0x00 ∷ 0x00 ∷ [])) (refused_found 12 7)
    ∷ expecting 0 (given_rate ++ (0x06 ∷ 0x00 ∷ 0x01 ∷ [])) (refused_found 10 7)
    ∷ expecting 0 (given_rate ++ given_side 0) (refused_found 20 7)
    ∷ expecting 0 (given_rate ++ given_side 27) (refused_found 20 7)
    ∷ expecting 0 (given_rate ++ given_side 255) (refused_found 20 7)
    ∷ expecting 0 (given_rate ++ given_side 26) (refused_found 10 11)
    ∷ expecting 0 (given_rate ++ (given_side 4 ++ (0x06 ∷ []))) (refused_found 10 11)
    ∷ expecting 0 (given_rate ++ (given_side 4 ++ given_side 4)) (refused_found 11 11)
    ∷ expecting 0 (given_rate ++ (given_count 0 ++ given_side 4)) (refused_found 11 12)
    ∷ expecting 0 (given_side 4 ++ given_rate) (refused_found 11 0)
    ∷ expecting 0 (0x01 ∷ 0x00 ∷ 0x04 ∷ 0x00 ∷ 0x00 ∷ 0x00 ∷ 0x01 ∷ given_side 0) (refused_found 13 0)
    ∷ expecting 48000 (given_rate ++ given_side 0) (refused_found 14 0)
    ∷ expecting 0 (given_rate ++ (given_side 4 ++ (0x02 ∷ 0x00 ∷ 0x02 ∷ 0x10 ∷ 0x01 ∷ []))) (refused_found 15 11)
    ∷ no_room 2 (given_rate ++ (given_side 4 ++ given_count 3)) 11 (refused_found 10 16)
    ∷ no_room 2 (given_rate ++ given_count 3) 7 (refused_found 10 12)
    ∷ expecting 0 (given_rate ++ (given_side 4 ++ (given_count 0 ++ (0x03 ∷ 0x00 ∷ 0x01 ∷ 0x00 ∷ [])))) (refused_found 17 16)
    ∷ expecting 0 (given_rate ++ (given_count 0 ++ no_points)) (sound 0 0 3 18)
    ∷ expecting 0 (given_rate ++ (given_side 1 ++ (given_count 0 ++ no_points))) (sound 1 0 3 22)
    ∷ expecting 96000 (given_rate ++ (given_side 26 ++ (given_count 0 ++ no_points))) (sound 26 0 3 22)
    ∷ open_only 2 (given_rate ++ (given_count 2 ++ two_open 3)) (refused_found 18 31) (sound 0 2 3 52)
    ∷ open_only 2 (given_rate ++ (given_side 4 ++ (given_count 2 ++ two_open 3))) (refused_found 18 35) (sound 4 2 3 56)
    ∷ []

-- each answer, computed from the definitions, is the one that is given
pub reads_hold : ReadsSo reads
unfolding reads member first_index same digits_of number_of bits eights pack rates is_rate is_side first_of steps_from steps step_bits position_bits coded_positions valid_positions decoded_steps decoded_bits decoded read_positions zeros_at lead_zeros trail_zeros sum_of find best ratio_form written coded coded_from open_one open_from strict_ratios tag_at length_at body_at next_at count_at side_in read_with found
reads_hold = (refl, refl, refl)

-- ---- writing

-- 1 before 21, 21 before 2, 26 and 27, and the room that a side takes
pub writes : List WriteExample
writes =
    wrote (run 1 27 Old [] []) 22 1 0 0
    ∷ wrote (run 96000 27 Old (0 ∷ []) []) 22 21 0 0
    ∷ wrote (run 96000 4294967295 Old [] []) 22 21 0 0
    ∷ wrote (run 96000 26 Old (0 ∷ []) []) 22 2 0 0
    ∷ wrote (run 96000 26 Old [] []) 21 6 0 0
    ∷ wrote (run 96000 26 Old [] []) 22 0 0 22
    ∷ wrote (run 96000 0 Old [] []) 18 0 0 18
    ∷ []

-- each answer, computed from the definitions, is the one that is given
pub writes_hold : WritesSo writes
unfolding writes member first_index digits_of eights pack rates is_rate first_of steps position_bits coded_positions coded_from field_bytes laid record_of write_refusal write_answer
writes_hold = refl
