-- Document 01, "Bytes to compare", and document 02, No. 2 and No. 3: lines of the listing and its whole output, as one table, proved from the
-- definitions by one statement.
--   Example, example           a text, and its bytes as they should be
--   listed_text, refused_text  the output in full, and the line of a refusal; sided_text: the output of the same run on side 4; paused_text: that of a
--                              run in the wide form
--   examples                   the rows; examples_hold: each is as it is given
use Rattle.std.specs.Prelude.{◌≡◌, refl, List, [], ◌∷◌, ◌++◌, map, ℕ, pos, negsuc, replicate, take, drop}
use Rattle.bits.specs.Digits.{digits_of}
use Rattle.text.specs.Lines.{refused_line}
use Rattle.text.specs.Numbers.{trimmed, decimal, hex16, signed}
use Rattle.listing.specs.Lines.{rate_line, side_line, count_line, span_line, point_line, point_lines, listing}

-- an example: a text, and its bytes
pub record Example : Type 0 where
  pub text : List ℕ
  pub expected : List ℕ

-- such an example
abbrev example : List ℕ → List ℕ → Example
example l p = record { text = l; expected = p }

-- the output in full, of the run that document 01 lists
abbrev pub listed_text : List ℕ
listed_text =
    114 ∷ 97 ∷ 116 ∷ 101 ∷ 32 ∷ 57 ∷ 54 ∷ 48 ∷ 48 ∷ 48 ∷ 10
    ∷ 99 ∷ 111 ∷ 117 ∷ 110 ∷ 116 ∷ 32 ∷ 51 ∷ 10
    ∷ 115 ∷ 112 ∷ 97 ∷ 110 ∷ 32 ∷ 50 ∷ 48 ∷ 10
    ∷ 48 ∷ 32 ∷ 51 ∷ 102 ∷ 101 ∷ 48 ∷ 48 ∷ 48 ∷ 48 ∷ 48 ∷ 48 ∷ 48 ∷ 48 ∷ 48 ∷ 48 ∷ 48 ∷ 48 ∷ 48 ∷ 10
    ∷ 57 ∷ 54 ∷ 48 ∷ 32 ∷ 51 ∷ 102 ∷ 101 ∷ 48 ∷ 48 ∷ 48 ∷ 48 ∷ 48 ∷ 48 ∷ 48 ∷ 48 ∷ 48 ∷ 48 ∷ 48 ∷ 48 ∷ 48 ∷ 10
    ∷ 49 ∷ 57 ∷ 50 ∷ 48 ∷ 32 ∷ 51 ∷ 102 ∷ 101 ∷ 48 ∷ 48 ∷ 48 ∷ 48 ∷ 48 ∷ 48 ∷ 48 ∷ 48 ∷ 48 ∷ 48 ∷ 48 ∷ 48 ∷ 48 ∷ 10 ∷ []

-- the output with `side 4` after the first line
abbrev pub sided_text : List ℕ
sided_text = take 11 listed_text ++ (115 ∷ 105 ∷ 100 ∷ 101 ∷ 32 ∷ 52 ∷ 10 ∷ drop 11 listed_text)

-- the output of a run in the wide form, whose tape is rewound at the third point: `span -89478476`
abbrev pub paused_text : List ℕ
paused_text =
    take 19 listed_text
    ++ (115 ∷ 112 ∷ 97 ∷ 110 ∷ 32 ∷ 45 ∷ 56 ∷ 57 ∷ 52 ∷ 55 ∷ 56 ∷ 52 ∷ 55 ∷ 54 ∷ 10
    ∷ 56 ∷ 53 ∷ 56 ∷ 57 ∷ 57 ∷ 51 ∷ 53 ∷ 53 ∷ 53 ∷ 50 ∷ (take 18 (drop 28 listed_text)
    ++ (56 ∷ 53 ∷ 56 ∷ 57 ∷ 57 ∷ 51 ∷ 54 ∷ 53 ∷ 49 ∷ 50 ∷ (take 18 (drop 28 listed_text)
    ++ (49 ∷ 57 ∷ 50 ∷ 48 ∷ take 18 (drop 28 listed_text))))))

-- `refused 10 at 0`
abbrev pub refused_text : List ℕ
refused_text = 114 ∷ 101 ∷ 102 ∷ 117 ∷ 115 ∷ 101 ∷ 100 ∷ 32 ∷ 49 ∷ 48 ∷ 32 ∷ 97 ∷ 116 ∷ 32 ∷ 48 ∷ 10 ∷ []

-- `rate 96000`, `side 4`, `side 26`, no line for side 0, `count 3`, `span 20`, `960 3fe0000000000000`, `refused 10 at 0`; a negative span, `span -43`; and
-- the outputs in full
pub examples : List Example
examples =
    example (rate_line 96000) (114 ∷ 97 ∷ 116 ∷ 101 ∷ 32 ∷ 57 ∷ 54 ∷ 48 ∷ 48 ∷ 48 ∷ 10 ∷ [])
    ∷ example (side_line 4) (115 ∷ 105 ∷ 100 ∷ 101 ∷ 32 ∷ 52 ∷ 10 ∷ [])
    ∷ example (side_line 26) (115 ∷ 105 ∷ 100 ∷ 101 ∷ 32 ∷ 50 ∷ 54 ∷ 10 ∷ [])
    ∷ example (side_line 0) []
    ∷ example (count_line 3) (99 ∷ 111 ∷ 117 ∷ 110 ∷ 116 ∷ 32 ∷ 51 ∷ 10 ∷ [])
    ∷ example (span_line (pos 20)) (115 ∷ 112 ∷ 97 ∷ 110 ∷ 32 ∷ 50 ∷ 48 ∷ 10 ∷ [])
    ∷ example
    (point_line 960 0x3FE0000000000000)
    (57 ∷ 54 ∷ 48 ∷ 32 ∷ 51 ∷ 102 ∷ 101 ∷ 48 ∷ 48 ∷ 48 ∷ 48 ∷ 48 ∷ 48 ∷ 48 ∷ 48 ∷ 48 ∷ 48 ∷ 48 ∷ 48 ∷ 48 ∷ 10 ∷ [])
    ∷ example (refused_line 10 0) refused_text
    ∷ example (span_line (negsuc 42)) (115 ∷ 112 ∷ 97 ∷ 110 ∷ 32 ∷ 45 ∷ 52 ∷ 51 ∷ 10 ∷ [])
    ∷ example (listing 96000 0 (pos 20) (0 ∷ 960 ∷ 1920 ∷ []) (replicate 3 0x3FE0000000000000)) listed_text
    ∷ example (listing 96000 4 (pos 20) (0 ∷ 960 ∷ 1920 ∷ []) (replicate 3 0x3FE0000000000000)) sided_text
    ∷ example (listing 96000 0 (negsuc 89478475) (8589935552 ∷ 8589936512 ∷ 1920 ∷ []) (replicate 3 0x3FE0000000000000)) paused_text
    ∷ []

-- each text, computed from the definitions, is the one that is given
pub examples_hold : map (λ e. e.text) examples ≡ map (λ e. e.expected) examples
unfolding examples digits_of trimmed decimal hex16 signed rate_line side_line count_line span_line point_line refused_line point_lines listing
examples_hold = refl
