-- Document 01, "Bytes to compare": the rows marked P, and beside them the listing's run on a side, steps at other ends of rows in each form and a run
-- in the wide form, as one table, proved from the definitions by one statement.
--   Subject, code_of         what is shown, and its code
--   Example, example         such a subject, and its code as it should be: what document 01 gives for it, but for the run on a side, other ends of rows, and what is wide
--   listed_run, listed_bytes the run of the listing, and its 46 bytes; sided_run, sided_bytes: the same run on side 4, and its 50 bytes
--   paused_run, paused_bytes a run in the wide form that the old one does not take: the tape is rewound at the third point
--   examples                 the rows; examples_hold: each is as it is given
use Rattle.std.specs.Prelude.{◌≡◌, refl, List, [], ◌∷◌, ◌++◌, map, ℕ, ◌+◌, ◌-◌, ◌^◌, ℤ, pos, replicate, drop}
use Rattle.bits.specs.Digits.{digits_of, bits_of, bytes_of, number_of}
use Rattle.bits.specs.Packing.{eights, pack}
use Rattle.position_format.specs.declared.Form.{Form}
use Rattle.position_format.specs.declared.Form.TheVariants.{Old, Wide}
use Rattle.position_format.specs.Rows.{rows, wide_rows, neg, code}
use Rattle.position_format.specs.Steps.{steps_from}
use Rattle.position_format.specs.Positions.{step_bits, position_bits, coded_positions}
use Rattle.position_format.specs.Tables.{table_of}
use Rattle.ratio_format.specs.Zeros.{zeros_at, lead_zeros, trail_zeros, sum_of}
use Rattle.ratio_format.specs.Choice.{find, best, ratio_form}
use Rattle.ratio_format.specs.RatioForms.{written, coded}
use Rattle.ratio_format.specs.Bodies.{coded_from, coded_ratios}
use Rattle.record_format.specs.Fields.{field_bytes, laid}
use Rattle.record_format.specs.Runs.{Run, run, record_of}

-- what is shown: a step in a form, the sum of two ratios, the ratios of a run, or a run
pub data Subject : Type 0 where
  step : Form → ℤ → Subject
  sum : ℕ → ℕ → Subject
  ratios : List ℕ → Subject
  whole : Run → Subject

-- its code: the bits of a step, the sum as one number, the body of the ratios' field, the record
pub code_of : Subject → List ℕ
code_of (step f z) = code (table_of f) z
code_of (sum v u) = sum_of v u ∷ []
code_of (ratios vs) = coded_ratios vs
code_of (whole r) = record_of r

-- an example: what is shown, and its code
pub record Example : Type 0 where
  pub subject : Subject
  pub expected : List ℕ

-- such an example
abbrev example : Subject → List ℕ → Example
example s l = record { subject = s; expected = l }

-- the run of the listing
abbrev pub listed_run : Run
listed_run = run 96000 0 Old (0 ∷ 960 ∷ 1920 ∷ []) (replicate 3 0x3FE0000000000000)

-- and its 46 bytes
abbrev pub listed_bytes : List ℕ
listed_bytes =
    0x01 ∷ 0x00 ∷ 0x04 ∷ 0x00 ∷ 0x01 ∷ 0x77 ∷ 0x00
    ∷ 0x02 ∷ 0x00 ∷ 0x02 ∷ 0x00 ∷ 0x03
    ∷ 0x03 ∷ 0x00 ∷ 0x11 ∷ (replicate 14 0 ++ (0x03 ∷ 0xC0 ∷ 0x00
    ∷ 0x04 ∷ 0x00 ∷ 0x0B ∷ 0xFF ∷ 0x3F ∷ 0xE0 ∷ (replicate 6 0 ++ (0x00 ∷ 0x00 ∷ []))))

-- the run on side 4
abbrev pub sided_run : Run
sided_run = run 96000 4 Old (0 ∷ 960 ∷ 1920 ∷ []) (replicate 3 0x3FE0000000000000)

-- and its 50 bytes: a field between rate and count, and all else as it was
abbrev pub sided_bytes : List ℕ
sided_bytes =
    0x01 ∷ 0x00 ∷ 0x04 ∷ 0x00 ∷ 0x01 ∷ 0x77 ∷ 0x00
    ∷ 0x06 ∷ 0x00 ∷ 0x01 ∷ 0x04
    ∷ drop 7 listed_bytes

-- the tape runs, and is rewound by 2^33 samples at the third point
abbrev pub paused_run : Run
paused_run = run 96000 0 Wide ((2 ^ 33 + 960) ∷ (2 ^ 33 + 1920) ∷ 1920 ∷ []) (replicate 3 0x3FE0000000000000)

-- tag 5, and in 197 bits and three of fill the two positions, 11111 and the 64 bits of the step, -2^33 - 960
abbrev pub paused_bytes : List ℕ
paused_bytes =
    0x01 ∷ 0x00 ∷ 0x04 ∷ 0x00 ∷ 0x01 ∷ 0x77 ∷ 0x00
    ∷ 0x02 ∷ 0x00 ∷ 0x02 ∷ 0x00 ∷ 0x03
    ∷ 0x05 ∷ 0x00 ∷ 0x19
    ∷ 0x00 ∷ 0x00 ∷ 0x00 ∷ 0x02 ∷ 0x00 ∷ 0x00 ∷ 0x03 ∷ 0xC0
    ∷ 0x00 ∷ 0x00 ∷ 0x00 ∷ 0x02 ∷ 0x00 ∷ 0x00 ∷ 0x07 ∷ 0x80
    ∷ 0xFF ∷ 0xFF ∷ 0xFF ∷ 0xFF ∷ 0xEF ∷ 0xFF ∷ 0xFF ∷ 0xE2 ∷ 0x00
    ∷ drop 32 listed_bytes

-- the rows marked P, the run on side 4, steps at the ends of the other rows in each form, and the run in the wide form
pub examples : List Example
examples =
    example (step Old (pos 0)) (0 ∷ [])
    ∷ example (step Old (pos 64)) (1 ∷ 0 ∷ 1 ∷ 0 ∷ 0 ∷ 0 ∷ 0 ∷ 0 ∷ 0 ∷ [])
    ∷ example (step Old (neg 63)) (1 ∷ 0 ∷ 1 ∷ 0 ∷ 0 ∷ 0 ∷ 0 ∷ 0 ∷ 1 ∷ [])
    ∷ example (step Old (pos 65)) (1 ∷ 1 ∷ 0 ∷ 0 ∷ 0 ∷ 1 ∷ 0 ∷ 0 ∷ 0 ∷ 0 ∷ 0 ∷ 1 ∷ [])
    ∷ example (step Old (neg 64)) (1 ∷ 1 ∷ 0 ∷ 1 ∷ 1 ∷ 1 ∷ 0 ∷ 0 ∷ 0 ∷ 0 ∷ 0 ∷ 0 ∷ [])
    ∷ example (ratios (0xC01A666666666666 ∷ 0xC00E666666666666 ∷ []))
    (0xFF ∷ (bytes_of 8 0xC01A666666666666 ++ (0x80 ∷ 0x61 ∷ 0x14 ∷ [])))
    ∷ example (ratios (0x402699999999999A ∷ 0x4027000000000000 ∷ []))
    (0xFF ∷ (bytes_of 8 0x402699999999999A ++ (0xFF ∷ bytes_of 8 0x4027000000000000)))
    ∷ example (sum 0x4027000000000000 0x402699999999999A) (1 ∷ [])
    ∷ example (ratios (0 ∷ 0x0001020304050600 ∷ []))
    (0xFF ∷ (replicate 8 0 ++ (0x80 ∷ 0x16 ∷ 0x01 ∷ 0x02 ∷ 0x03 ∷ 0x04 ∷ 0x05 ∷ 0x06 ∷ [])))
    ∷ example (ratios (0 ∷ 0x0001020304050607 ∷ []))
    (0xFF ∷ (replicate 8 0 ++ (0xFF ∷ 0x00 ∷ 0x01 ∷ 0x02 ∷ 0x03 ∷ 0x04 ∷ 0x05 ∷ 0x06 ∷ 0x07 ∷ [])))
    ∷ example (ratios (1 ∷ 2 ∷ 3 ∷ []))
    (0xFF ∷ (replicate 7 0 ++ (0x01 ∷ 0x80 ∷ 0x01 ∷ 0x03 ∷ 0x80 ∷ 0x01 ∷ 0x01 ∷ [])))
    ∷ example (whole listed_run) listed_bytes
    ∷ example (whole sided_run) sided_bytes
    ∷ example (step Wide (pos 0)) (0 ∷ [])
    ∷ example (step Old (pos 256)) (1 ∷ 1 ∷ 0 ∷ 1 ∷ 0 ∷ 0 ∷ 0 ∷ 0 ∷ 0 ∷ 0 ∷ 0 ∷ 0 ∷ [])
    ∷ example (step Old (neg 255)) (1 ∷ 1 ∷ 0 ∷ 1 ∷ 0 ∷ 0 ∷ 0 ∷ 0 ∷ 0 ∷ 0 ∷ 0 ∷ 1 ∷ [])
    ∷ example (step Old (pos 257)) ((1 ∷ 1 ∷ 1 ∷ 0 ∷ []) ++ bits_of 12 257)
    ∷ example (step Old (neg 256)) ((1 ∷ 1 ∷ 1 ∷ 0 ∷ []) ++ bits_of 12 3840)
    ∷ example (step Old (pos 2048)) ((1 ∷ 1 ∷ 1 ∷ 0 ∷ []) ++ bits_of 12 2048)
    ∷ example (step Old (neg 2047)) ((1 ∷ 1 ∷ 1 ∷ 0 ∷ []) ++ bits_of 12 2049)
    ∷ example (step Old (pos 2049)) ((1 ∷ 1 ∷ 1 ∷ 1 ∷ []) ++ bits_of 32 2049)
    ∷ example (step Old (neg 2048)) ((1 ∷ 1 ∷ 1 ∷ 1 ∷ []) ++ bits_of 32 (2 ^ 32 - 2048))
    ∷ example (step Wide (pos 64)) (1 ∷ 0 ∷ 1 ∷ 0 ∷ 0 ∷ 0 ∷ 0 ∷ 0 ∷ 0 ∷ [])
    ∷ example (step Wide (neg 64)) (1 ∷ 1 ∷ 0 ∷ 1 ∷ 1 ∷ 1 ∷ 0 ∷ 0 ∷ 0 ∷ 0 ∷ 0 ∷ 0 ∷ [])
    ∷ example (step Wide (neg 2047)) ((1 ∷ 1 ∷ 1 ∷ 0 ∷ []) ++ bits_of 12 2049)
    ∷ example (step Wide (pos 256)) (1 ∷ 1 ∷ 0 ∷ 1 ∷ 0 ∷ 0 ∷ 0 ∷ 0 ∷ 0 ∷ 0 ∷ 0 ∷ 0 ∷ [])
    ∷ example (step Wide (neg 256)) ((1 ∷ 1 ∷ 1 ∷ 0 ∷ []) ++ bits_of 12 3840)
    ∷ example (step Wide (pos 2048)) ((1 ∷ 1 ∷ 1 ∷ 0 ∷ []) ++ bits_of 12 2048)
    ∷ example (step Wide (neg 2048)) ((1 ∷ 1 ∷ 1 ∷ 1 ∷ 0 ∷ []) ++ bits_of 32 (2 ^ 32 - 2048))
    ∷ example (step Wide (pos 2049)) ((1 ∷ 1 ∷ 1 ∷ 1 ∷ 0 ∷ []) ++ bits_of 32 2049)
    ∷ example (step Wide (pos (2 ^ 31))) ((1 ∷ 1 ∷ 1 ∷ 1 ∷ 0 ∷ 1 ∷ []) ++ replicate 31 0)
    ∷ example (step Wide (neg (2 ^ 31 - 1))) ((1 ∷ 1 ∷ 1 ∷ 1 ∷ 0 ∷ 1 ∷ []) ++ (replicate 30 0 ++ (1 ∷ [])))
    ∷ example (step Wide (pos (2 ^ 31 + 1))) ((1 ∷ 1 ∷ 1 ∷ 1 ∷ 1 ∷ []) ++ (replicate 32 0 ++ (1 ∷ (replicate 30 0 ++ (1 ∷ [])))))
    ∷ example (step Wide (neg (2 ^ 31))) ((1 ∷ 1 ∷ 1 ∷ 1 ∷ 1 ∷ []) ++ (replicate 33 1 ++ replicate 31 0))
    ∷ example (step Wide (pos (2 ^ 63 - 2))) ((1 ∷ 1 ∷ 1 ∷ 1 ∷ 1 ∷ 0 ∷ []) ++ (replicate 62 1 ++ (0 ∷ [])))
    ∷ example (step Wide (neg (2 ^ 63 - 2))) ((1 ∷ 1 ∷ 1 ∷ 1 ∷ 1 ∷ 1 ∷ []) ++ (replicate 61 0 ++ (1 ∷ 0 ∷ [])))
    ∷ example (whole paused_run) paused_bytes
    ∷ []

-- each row's code, computed from the definitions, is the one that is given
pub examples_hold : map (λ e. code_of e.subject) examples ≡ map (λ e. e.expected) examples
unfolding examples code_of digits_of number_of eights pack rows wide_rows code steps_from step_bits position_bits coded_positions zeros_at lead_zeros trail_zeros sum_of find best ratio_form written coded coded_from field_bytes laid record_of
examples_hold = refl
