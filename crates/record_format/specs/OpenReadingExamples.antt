-- Open reading of records, as one table, computed from the definitions by one statement.
--   two_with body          the record at 96,000 of two points at 0 whose ratios' field has this body, in the old form
--   openly, neither        such a record: check and fetch give 18, and open reading accepts; or all give 18
--   open_reads             the rows; open_reads_hold: each is as it is given
--   open_ratios_lem        what open reading leaves in the ratios' output
use Rattle.std.specs.Prelude.{List, [], ◌∷◌, ◌++◌, map, ◌≡◌, refl, ℕ, ◌+◌, length, replicate}
use Rattle.lists.specs.Lists.{member, first_index}
use Rattle.lists.specs.Compare.{begins, same}
use Rattle.bits.specs.Digits.{digits_of, bytes_of, number_of}
use Rattle.bits.specs.Packing.{bits, eights, pack}
use Rattle.limits.specs.Rates.{rates, is_rate}
use Rattle.limits.specs.Sides.{is_side}
use Rattle.refusals.specs.Tests.{first_of}
use Rattle.position_format.specs.Rows.{rows, wide_rows, in_table, code}
use Rattle.position_format.specs.Steps.{steps_from, steps}
use Rattle.position_format.specs.Positions.{step_bits, position_bits, coded_positions, valid_positions, step_at, decoded_steps, decoded_bits, decoded, read_positions}
use Rattle.ratio_format.specs.Zeros.{zeros_at, lead_zeros, trail_zeros, sum_of}
use Rattle.ratio_format.specs.Choice.{find, best, ratio_form}
use Rattle.ratio_format.specs.RatioForms.{written, coded}
use Rattle.ratio_format.specs.Open.{open_xor, open_one}
use Rattle.ratio_format.specs.Bodies.{coded_from, open_from, strict_ratios}
use Rattle.ratio_format.specs.OpenExamples.{one}
use Rattle.record_format.specs.Fields.{tag_at, length_at, body_at, next_at}
use Rattle.record_format.specs.CheckClaims.{refused_found}
use Rattle.record_format.specs.AnswerExamples.{given_rate, given_count, sound, ReadExample, alike, open_only, ReadsSo}
use Rattle.record_format.specs.Reading.{count_at, side_in}
use Rattle.record_format.specs.Checking.{found}
use Rattle.record_format.specs.Fetching.{read_with, read_open}

-- its ratios' field stands at the offset 31
abbrev two_with : List ℕ → List ℕ
two_with body = given_rate ++ (given_count 2 ++ (0x03 ∷ 0x00 ∷ 0x10 ∷ (replicate 16 0 ++ (0x04 ∷ (bytes_of 2 (length body) ++ body)))))

-- only open reading accepts
abbrev openly : List ℕ → ReadExample
openly body = open_only 2 (two_with body) (refused_found 18 31) (sound 0 2 3 (34 + length body))

-- neither does
abbrev neither : List ℕ → ReadExample
neither body = alike 0 2 (two_with body) (refused_found 18 31)

-- lengths 0, 7 and 8; an exception for a repeat; a sum of 9; a place that holds no ratio; a middle that is cut; a byte left over; a ratio too few; and our own form
pub open_reads : List ReadExample
open_reads =
    openly (one ++ (0x80 ∷ 0x00 ∷ []))
    ∷ openly (one ++ (0x80 ∷ 0x17 ∷ 0x01 ∷ 0x02 ∷ 0x03 ∷ 0x04 ∷ 0x05 ∷ 0x06 ∷ 0x07 ∷ []))
    ∷ openly (one ++ (0x80 ∷ 0x08 ∷ replicate 8 0x80))
    ∷ openly (one ++ one)
    ∷ neither (one ++ (0x80 ∷ 0x18 ∷ replicate 8 0))
    ∷ neither (one ++ (0x81 ∷ 0x00 ∷ []))
    ∷ neither (one ++ (0x80 ∷ 0x02 ∷ 0x01 ∷ []))
    ∷ neither (one ++ (0x80 ∷ 0x00 ∷ 0x00 ∷ []))
    ∷ neither one
    ∷ alike 0 2 (two_with (one ++ (0x00 ∷ []))) (sound 0 2 3 44)
    ∷ []

-- each answer, computed from the definitions, is the one that is given
pub open_reads_hold : ReadsSo open_reads
unfolding open_reads member first_index begins same digits_of number_of bits eights pack rates is_rate is_side first_of rows wide_rows in_table code steps_from steps step_bits position_bits coded_positions valid_positions step_at decoded_steps decoded_bits decoded read_positions zeros_at lead_zeros trail_zeros sum_of find best ratio_form written coded coded_from open_xor open_one open_from strict_ratios tag_at length_at body_at next_at count_at side_in read_with found
open_reads_hold = (refl, refl, refl)

-- of the first two rows, the ratios at the front, and the rest as it was
pub open_ratios_lem :
    map (λ body. (read_open 0 (two_with body) (replicate 3 7) (replicate 3 8)).ratios)
    ((one ++ (0x80 ∷ 0x00 ∷ [])) ∷ (one ++ (0x80 ∷ 0x17 ∷ 0x01 ∷ 0x02 ∷ 0x03 ∷ 0x04 ∷ 0x05 ∷ 0x06 ∷ 0x07 ∷ [])) ∷ [])
    ≡ (1 ∷ 1 ∷ 8 ∷ []) ∷ (1 ∷ 0x0102030405060701 ∷ 8 ∷ []) ∷ []
unfolding member first_index begins same digits_of number_of bits eights pack rates is_rate is_side first_of rows wide_rows in_table code steps_from steps step_bits position_bits coded_positions valid_positions step_at decoded_steps decoded_bits decoded read_positions open_xor open_one open_from tag_at length_at body_at next_at count_at side_in read_with
open_ratios_lem = refl
