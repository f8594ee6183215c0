-- Document 01, "Bytes to compare", the listing, with the side of document 02, No. 2: its lines and its whole text. Single spaces; each line
-- ends in one newline.
--   span_word                               the fixed part of a line that no other program has
--   rate_line r, count_line n, span_line z  `rate 96000`, `count 3`, `span 20`
--   side_line d                             `side 4`, and nothing for side 0
--   point_line t v                          `960 3fe0000000000000`: a position and the bits of its ratio
--   point_lines ts vs                       the lines of the points
--   listing r d z ts vs                     the text of a run of rate r, side d and span z, with positions ts and ratios vs
use Rattle.std.specs.Prelude.{List, [], ◌∷◌, ◌++◌, ℕ, zero, suc, ℤ, length}
use Rattle.text.specs.Lines.{newline, space, rate_word, side_word, count_word}
use Rattle.text.specs.Numbers.{decimal, hex16, signed}

-- "span "
abbrev pub span_word : List ℕ
span_word = 115 ∷ 112 ∷ 97 ∷ 110 ∷ 32 ∷ []

-- the line of the rate
unfoldable pub rate_line : ℕ → List ℕ
rate_line r = rate_word ++ (decimal r ++ newline)

-- the line of the side, if there is one
unfoldable pub side_line : ℕ → List ℕ
side_line zero = []
side_line (suc n) = side_word ++ (decimal (suc n) ++ newline)

-- the line of the number of points
unfoldable pub count_line : ℕ → List ℕ
count_line n = count_word ++ (decimal n ++ newline)

-- the line of the span in milliseconds
unfoldable pub span_line : ℤ → List ℕ
span_line z = span_word ++ (signed z ++ newline)

-- the line of a point
unfoldable pub point_line : ℕ → ℕ → List ℕ
point_line t v = decimal t ++ (space ++ (hex16 v ++ newline))

-- one line for each point, as long as both lists last
unfoldable pub point_lines : List ℕ → List ℕ → List ℕ
point_lines [] vs = []
point_lines (t ∷ ts) [] = []
point_lines (t ∷ ts) (v ∷ vs) = point_line t v ++ point_lines ts vs

-- rate, side, count, span, and the points
unfoldable pub listing : ℕ → ℕ → ℤ → List ℕ → List ℕ → List ℕ
listing r d z ts vs = rate_line r ++ (side_line d ++ (count_line (length ts) ++ (span_line z ++ point_lines ts vs)))
