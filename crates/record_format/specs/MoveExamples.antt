-- Document 02, No. 5: answers of moves, as one table, computed from the definitions by one statement. Of 3 there is no row: a record of 3,501 points takes the
-- checker long, and ToWide has it.
--   MoveExample   the form moved to, what is read, the room for bytes, which are 7 before, and the answer with the output
--   refuses, moves   such an example of a refusal n at p, and of a success that uses u bytes and writes ws
--   stepped t ps  the record of four points with the steps 2,049 and 5,000, with the tag t and the positions' body ps
--   stepped_old, stepped_wide  that record in each form
--   no_points t   the last two fields of a record without points, the positions' with the tag t
--   wide ts       the record of a run in the wide form with the positions ts and ratios that are all 0; old ts: in the old form
--   odd_run f     a run in the form f on side 26 at 44,100, with ratios whose bits a coding through doubles could change: 0, -0 and two not-a-numbers
--   move_rows     the rows; moves_hold: each is as it is given
use Rattle.std.specs.Prelude.{◌≡◌, refl, List, [], ◌∷◌, ◌++◌, map, ℕ, ◌+◌, ◌-◌, ◌^◌, length, take, drop, replicate}
use Rattle.lists.specs.Lists.{member, first_index}
use Rattle.lists.specs.Compare.{begins, same}
use Rattle.bits.specs.Digits.{digits_of, number_of}
use Rattle.bits.specs.Packing.{bits, eights, pack}
use Rattle.limits.specs.Rates.{rates, is_rate}
use Rattle.limits.specs.Sides.{is_side}
use Rattle.refusals.specs.Tests.{first_of}
use Rattle.position_format.specs.declared.Form.{Form}
use Rattle.position_format.specs.declared.Form.TheVariants.{Old, Wide}
use Rattle.position_format.specs.Rows.{rows, wide_rows, in_table, code}
use Rattle.position_format.specs.Steps.{steps_from, steps}
use Rattle.position_format.specs.Positions.{step_bits, position_bits, coded_positions, valid_positions, step_at, decoded_steps, decoded_bits, decoded, read_positions}
use Rattle.ratio_format.specs.Zeros.{zeros_at, lead_zeros, trail_zeros, sum_of}
use Rattle.ratio_format.specs.Choice.{find, best, ratio_form}
use Rattle.ratio_format.specs.RatioForms.{written, coded}
use Rattle.ratio_format.specs.Open.{open_xor, open_one}
use Rattle.ratio_format.specs.Bodies.{coded_from, open_from, strict_ratios}
use Rattle.record_format.specs.Fields.{field_bytes, laid, tag_at, length_at, body_at, next_at}
use Rattle.record_format.specs.Examples.{listed_bytes, sided_bytes, paused_bytes}
use Rattle.record_format.specs.Runs.{Run, run, record_of}
use Rattle.record_format.specs.Reading.{count_at, side_in}
use Rattle.record_format.specs.Moves.{Move, move_of}
use Rattle.record_format.specs.AnswerExamples.{given_rate, given_side, given_count, two_open}

-- what is moved, and what comes of it
pub record MoveExample : Type 0 where
  pub to : Form
  pub input : List ℕ
  pub room : ℕ
  pub result : Move

-- zeros beside the number and the place, and from end to end
abbrev refuses : Form → List ℕ → ℕ → ℕ → ℕ → MoveExample
refuses f s m n p = record {
  to = f;
  input = s;
  room = m;
  result = record { answer = record { number = n; place = p; length = 0; used = 0 }; output = replicate m 0 };
}

-- what is written, and then the output as it was
abbrev moves : Form → List ℕ → ℕ → ℕ → List ℕ → MoveExample
moves f s m u ws = record {
  to = f;
  input = s;
  room = m;
  result = record { answer = record { number = 0; place = 0; length = length ws; used = u }; output = ws ++ replicate (m - length ws) 7 };
}

-- positions 0, 0, 2049 and 9098, whose steps take 36 bits each in the old form and 37 in the wide one
abbrev stepped : ℕ → List ℕ → List ℕ
stepped t ps =
    given_rate ++ (given_count 4 ++ (t ∷ 0x00 ∷ length ps ∷ (ps ++ (0x04 ∷ 0x00 ∷ 0x0C ∷ 0xFF ∷ (replicate 8 0 ++ replicate 3 0)))))

-- in the old form
abbrev stepped_old : List ℕ
stepped_old = stepped 0x03 (replicate 16 0 ++ (0xF0 ∷ 0x00 ∷ 0x00 ∷ 0x80 ∷ 0x1F ∷ 0x00 ∷ 0x00 ∷ 0x13 ∷ 0x88 ∷ []))

-- and in the wide one, a byte longer
abbrev stepped_wide : List ℕ
stepped_wide = stepped 0x05 (replicate 16 0 ++ (0xF0 ∷ 0x00 ∷ 0x00 ∷ 0x40 ∷ 0x0F ∷ 0x80 ∷ 0x00 ∷ 0x04 ∷ 0xE2 ∷ 0x00 ∷ []))

-- the fields of no points, with the tag t
abbrev no_points : ℕ → List ℕ
no_points t = t ∷ 0x00 ∷ 0x00 ∷ 0x04 ∷ 0x00 ∷ 0x00 ∷ []

-- positions in the wide form
abbrev wide : List ℕ → List ℕ
wide ts = record_of (run 96000 0 Wide ts (map (λ _. 0) ts))

-- in the old one
abbrev old : List ℕ → List ℕ
old ts = record_of (run 96000 0 Old ts (map (λ _. 0) ts))

-- an exception, an xor form, an exception and an xor form
abbrev odd_run : Form → Run
odd_run f = run 44100 26 f (0 ∷ 3 ∷ 9 ∷ 5 ∷ []) (0 ∷ 0x8000000000000000 ∷ 0x7FF0000000000001 ∷ 0x7FF0000000000301 ∷ [])

-- moves: the listing's run, on a side too and followed by bytes; steps that the wide form makes longer, with just enough room, and back; no points; ratios that
-- are not-a-numbers; the last steps that the old table holds. Refusals: 6, with a room that is one short; 11 for the form moved to, before a cut body, ratios that are
-- no coding and too many points, but not for a cut head; 10, 11, 12, 13, 15, 17, 18 and 20 as in a check; 5 at the first such step
pub move_rows : List MoveExample
move_rows =
    moves Wide listed_bytes 48 46 (take 12 listed_bytes ++ (0x05 ∷ drop 13 listed_bytes))
    ∷ moves Old (take 12 listed_bytes ++ (0x05 ∷ drop 13 listed_bytes)) 46 46 listed_bytes
    ∷ moves Wide (sided_bytes ++ (0x03 ∷ 0xFF ∷ [])) 60 50 (take 16 sided_bytes ++ (0x05 ∷ drop 17 sided_bytes))
    ∷ moves Wide stepped_old 56 55 stepped_wide
    ∷ moves Old stepped_wide 55 56 stepped_old
    ∷ moves Old (given_rate ++ (given_count 0 ++ no_points 5)) 18 18 (given_rate ++ (given_count 0 ++ no_points 3))
    ∷ moves Wide (given_rate ++ (given_side 4 ++ (given_count 0 ++ no_points 3))) 22 22 (given_rate ++ (given_side 4 ++ (given_count 0 ++ no_points 5)))
    ∷ moves Wide (record_of (odd_run Old)) 80 65 (record_of (odd_run Wide))
    ∷ moves Old (record_of (odd_run Wide)) 80 65 (record_of (odd_run Old))
    ∷ moves Old (wide (0 ∷ 0 ∷ (2 ^ 31) ∷ [])) 60 50 (old (0 ∷ 0 ∷ (2 ^ 31) ∷ []))
    ∷ moves Old (wide ((2 ^ 31 - 1) ∷ (2 ^ 31 - 1) ∷ 0 ∷ [])) 60 50 (old ((2 ^ 31 - 1) ∷ (2 ^ 31 - 1) ∷ 0 ∷ []))
    ∷ refuses Wide stepped_old 55 6 0
    ∷ refuses Old stepped_wide 54 6 0
    ∷ refuses Wide (given_rate ++ (given_count 0 ++ no_points 3)) 17 6 0
    ∷ refuses Wide (given_rate ++ (given_count 0 ++ no_points 3)) 0 6 0
    ∷ refuses Wide (given_rate ++ (given_count 0 ++ no_points 5)) 20 11 12
    ∷ refuses Old (given_rate ++ (given_side 4 ++ (given_count 0 ++ no_points 3))) 22 11 16
    ∷ refuses Wide paused_bytes 60 11 12
    ∷ refuses Wide (given_rate ++ (given_count 3 ++ (0x05 ∷ 0xFF ∷ 0xFF ∷ []))) 60 11 12
    ∷ refuses Wide (given_rate ++ (given_count 2 ++ two_open 5)) 60 11 12
    ∷ refuses Old (given_rate ++ (given_count 2 ++ two_open 3)) 60 11 12
    ∷ refuses Wide (given_rate ++ (given_count 3501 ++ (0x05 ∷ 0xFF ∷ 0xFF ∷ []))) 60 11 12
    ∷ refuses Wide (given_rate ++ (given_count 3 ++ (0x05 ∷ 0x00 ∷ []))) 60 10 12
    ∷ refuses Wide [] 60 10 0
    ∷ refuses Wide (given_rate ++ (given_count 3501 ++ (0x03 ∷ 0xFF ∷ 0xFF ∷ []))) 60 10 12
    ∷ refuses Wide (given_rate ++ (given_count 0 ++ (0x03 ∷ 0x00 ∷ 0x00 ∷ []))) 60 10 15
    ∷ refuses Old (given_rate ++ (given_count 0 ++ no_points 9)) 60 11 12
    ∷ refuses Wide (given_rate ++ (given_count 0 ++ (0x03 ∷ 0x00 ∷ 0x00 ∷ 0x07 ∷ 0x00 ∷ 0x00 ∷ []))) 60 11 15
    ∷ refuses Wide (given_rate ++ (0x02 ∷ 0x00 ∷ 0x03 ∷ 0x00 ∷ 0x00 ∷ 0x00 ∷ no_points 3)) 60 12 7
    ∷ refuses Wide (0x01 ∷ 0x00 ∷ 0x04 ∷ 0x00 ∷ 0x00 ∷ 0x00 ∷ 0x01 ∷ (given_count 0 ++ no_points 5)) 60 13 0
    ∷ refuses Old (given_rate ++ (given_count 3501 ++ (0x05 ∷ 0xFF ∷ 0xFF ∷ []))) 60 15 7
    ∷ refuses Old (given_rate ++ (given_side 4 ++ (given_count 3501 ++ (0x05 ∷ 0xFF ∷ 0xFF ∷ [])))) 60 15 11
    ∷ refuses Wide (given_rate ++ (given_count 4097 ++ (0x05 ∷ 0x00 ∷ 0x00 ∷ []))) 60 15 7
    ∷ refuses Old (take 12 stepped_old ++ (0x05 ∷ drop 13 stepped_old)) 60 17 12
    ∷ refuses Wide (take 12 stepped_wide ++ (0x03 ∷ drop 13 stepped_wide)) 60 17 12
    ∷ refuses Old (given_rate ++ (given_count 2 ++ two_open 5)) 60 18 31
    ∷ refuses Wide (given_rate ++ (given_count 2 ++ two_open 3)) 60 18 31
    ∷ refuses Old (take 53 paused_bytes ++ (0x01 ∷ [])) 60 18 40
    ∷ refuses Wide (given_rate ++ (given_side 27 ++ (given_count 0 ++ no_points 5))) 60 20 7
    ∷ refuses Old paused_bytes 60 5 2
    ∷ refuses Old paused_bytes 0 5 2
    ∷ refuses Old (wide (0 ∷ 0 ∷ (2 ^ 31 + 1) ∷ [])) 60 5 2
    ∷ refuses Old (wide ((2 ^ 31) ∷ (2 ^ 31) ∷ 0 ∷ [])) 60 5 2
    ∷ refuses Old (wide (0 ∷ 0 ∷ 5 ∷ (2 ^ 40) ∷ 3 ∷ [])) 80 5 3
    ∷ []

-- each, computed from the definitions, is the one that is given
pub moves_hold : map (λ x. move_of x.to x.input (replicate x.room 7)) move_rows ≡ map (λ x. x.result) move_rows
unfolding move_rows member first_index begins same digits_of number_of bits eights pack rates is_rate is_side first_of rows wide_rows in_table code steps_from steps step_bits position_bits coded_positions valid_positions step_at decoded_steps decoded_bits decoded read_positions zeros_at lead_zeros trail_zeros sum_of find best ratio_form written coded coded_from open_xor open_one open_from strict_ratios field_bytes laid record_of tag_at length_at body_at next_at count_at side_in move_of
moves_hold = refl
