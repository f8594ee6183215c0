-- The example of document 02, No. 1, that the program's page shows: index 1 of the points 0 and 960 with two ratios.
--   explained_run d  the run, on the side d
--   explained_text o the two lines, as ASCII codes, where the offset's digits are o
--   PrintsExample    of the run's record and the text "1" the program prints them, without a side and, four bytes further on, with one
--   Example, example, examples   lines, each with its bytes; examples_hold: each is as it is given
--   index_examples   what texts of an index are
use Rattle.std.specs.Prelude.{Ok, Err, List, [], ◌∷◌, ◌++◌, map, ◌≡◌, refl, ℕ, ◌+◌, ◌^◌}
use Rattle.std.proofs.Math.Option.{none, some}
use Rattle.lists.specs.Lists.{first_index}
use Rattle.bits.specs.Digits.{digits_of, number_of}
use Rattle.position_format.specs.declared.Form.TheVariants.{Old}
use Rattle.record_format.specs.Runs.{Run, run, record_of}
use Rattle.refusals.specs.Tests.{refusal}
use Rattle.text.specs.Lines.{refused_line}
use Rattle.text.specs.Numbers.{trimmed, decimal, hex16}
use Rattle.reasons.specs.declared.Reason.TheVariants.{Reference, Exception, Empty}
use Rattle.explain.specs.Indexes.{given_index}
use Rattle.explain.specs.Lines.{cost_line, reason_line}
use Rattle.explain.specs.Printed.{printed}

-- the rate has no part in the text
abbrev pub explained_run : ℕ → Run
explained_run d = run 48000 d Old (0 ∷ 960 ∷ []) (0xc01a666666666666 ∷ 0xc00e666666666666 ∷ [])

-- `ratio 1 c00e666666666666 3 bytes at 43`, or another offset, and `xor with place 0, 1 leading and 6 trailing zero bytes`
abbrev pub explained_text : List ℕ → List ℕ
explained_text o =
    114 ∷ 97 ∷ 116 ∷ 105 ∷ 111 ∷ 32 ∷ 49 ∷ 32
    ∷ 99 ∷ 48 ∷ 48 ∷ 101 ∷ 54 ∷ 54 ∷ 54 ∷ 54 ∷ 54 ∷ 54 ∷ 54 ∷ 54 ∷ 54 ∷ 54 ∷ 54 ∷ 54
    ∷ 32 ∷ 51 ∷ 32 ∷ 98 ∷ 121 ∷ 116 ∷ 101 ∷ 115 ∷ 32 ∷ 97 ∷ 116 ∷ 32 ∷ (o ++ (10
    ∷ 120 ∷ 111 ∷ 114 ∷ 32 ∷ 119 ∷ 105 ∷ 116 ∷ 104 ∷ 32 ∷ 112 ∷ 108 ∷ 97 ∷ 99 ∷ 101 ∷ 32 ∷ 48 ∷ 44 ∷ 32 ∷ 49
    ∷ 32 ∷ 108 ∷ 101 ∷ 97 ∷ 100 ∷ 105 ∷ 110 ∷ 103 ∷ 32 ∷ 97 ∷ 110 ∷ 100 ∷ 32 ∷ 54
    ∷ 32 ∷ 116 ∷ 114 ∷ 97 ∷ 105 ∷ 108 ∷ 105 ∷ 110 ∷ 103 ∷ 32 ∷ 122 ∷ 101 ∷ 114 ∷ 111 ∷ 32 ∷ 98 ∷ 121 ∷ 116 ∷ 101 ∷ 115 ∷ 10 ∷ []))

-- the whole output
abbrev pub PrintsExample : Type 0
PrintsExample =
    (printed (record_of (explained_run 0)) (49 ∷ []) ≡ explained_text (52 ∷ 51 ∷ []))
    × (printed (record_of (explained_run 4)) (49 ∷ []) ≡ explained_text (52 ∷ 55 ∷ []))

-- ---- lines by themselves

-- a text, and its bytes
pub record Example : Type 0 where
  pub text : List ℕ
  pub expected : List ℕ

-- the text l is to be the bytes p
abbrev example : List ℕ → List ℕ → Example
example l p = record { text = l; expected = p }

-- `equal to place 3`; `exception, best sum 1`; `exception, window empty`; `refused 22 at 0`; and a cost of one byte, `1 bytes`
pub examples : List Example
examples =
    example (reason_line (Ok (Reference 3))) (101 ∷ 113 ∷ 117 ∷ 97 ∷ 108 ∷ 32 ∷ 116 ∷ 111 ∷ 32 ∷ 112 ∷ 108 ∷ 97 ∷ 99 ∷ 101 ∷ 32 ∷ 51 ∷ 10 ∷ [])
    ∷ example
    (reason_line (Ok (Exception 1)))
    (101 ∷ 120 ∷ 99 ∷ 101 ∷ 112 ∷ 116 ∷ 105 ∷ 111 ∷ 110 ∷ 44 ∷ 32 ∷ 98 ∷ 101 ∷ 115 ∷ 116 ∷ 32 ∷ 115 ∷ 117 ∷ 109 ∷ 32 ∷ 49 ∷ 10 ∷ [])
    ∷ example
    (reason_line (Ok Empty))
    (101 ∷ 120 ∷ 99 ∷ 101 ∷ 112 ∷ 116 ∷ 105 ∷ 111 ∷ 110 ∷ 44 ∷ 32 ∷ 119 ∷ 105 ∷ 110 ∷ 100 ∷ 111 ∷ 119 ∷ 32 ∷ 101 ∷ 109 ∷ 112 ∷ 116 ∷ 121 ∷ 10 ∷ [])
    ∷ example (reason_line (Err (refusal 22 0))) (114 ∷ 101 ∷ 102 ∷ 117 ∷ 115 ∷ 101 ∷ 100 ∷ 32 ∷ 50 ∷ 50 ∷ 32 ∷ 97 ∷ 116 ∷ 32 ∷ 48 ∷ 10 ∷ [])
    ∷ example
    (cost_line 2 0x3FE0000000000000 1 45)
    (114 ∷ 97 ∷ 116 ∷ 105 ∷ 111 ∷ 32 ∷ 50 ∷ 32 ∷ 51 ∷ 102 ∷ 101 ∷ 48 ∷ 48 ∷ 48 ∷ 48 ∷ 48 ∷ 48 ∷ 48 ∷ 48 ∷ 48 ∷ 48 ∷ 48 ∷ 48 ∷ 48 ∷ 32 ∷ 49
    ∷ 32 ∷ 98 ∷ 121 ∷ 116 ∷ 101 ∷ 115 ∷ 32 ∷ 97 ∷ 116 ∷ 32 ∷ 52 ∷ 53 ∷ 10 ∷ [])
    ∷ []

-- each text, computed from the definitions, is the one that is given
pub examples_hold : map (λ e. e.text) examples ≡ map (λ e. e.expected) examples
unfolding examples digits_of trimmed decimal hex16 refused_line cost_line reason_line
examples_hold = refl

-- texts of an index: no text, `0`, `007`, `1x`, ` 1`, and 2 ^ 64 + 1
pub index_examples :
    map given_index ([] ∷ (48 ∷ []) ∷ (48 ∷ 48 ∷ 55 ∷ []) ∷ (49 ∷ 120 ∷ []) ∷ (32 ∷ 49 ∷ [])
    ∷ (49 ∷ 56 ∷ 52 ∷ 52 ∷ 54 ∷ 55 ∷ 52 ∷ 52 ∷ 48 ∷ 55 ∷ 51 ∷ 55 ∷ 48 ∷ 57 ∷ 53 ∷ 53 ∷ 49 ∷ 54 ∷ 49 ∷ 55 ∷ []) ∷ [])
    ≡ none ∷ some 0 ∷ some 7 ∷ none ∷ none ∷ some (2 ^ 64 + 1) ∷ []
unfolding number_of first_index
index_examples = refl
