-- Document 02, No. 7: what the program prints.
--   line_limit         room for every line: 79 bytes
--   text_limit         room for every text: a line for each of four properties, two for each of 4,096 points, and one more
--   comparison_text c  the text of the comparison c: that of its list, or the line of the refusal
--   printed s t        the text for two files that hold the bytes s and t: each is read as far as every program reads
use Rattle.std.specs.Prelude.{cond, List, ℕ, ◌+◌, ◌*◌, eqb, take}
use Rattle.limits.specs.Points.{max_points}
use Rattle.inputs.specs.Inputs.{input_limit}
use Rattle.differences.specs.Comparisons.{Comparison, comparison}
use Rattle.compare.specs.Lines.{differences_text, refused_in_line}

-- the longest is that of a ratio: a word of 6, an index of up to 20 digits, two words of up to 10, twice 16 digits, and the line's end
abbrev pub line_limit : ℕ
line_limit = 79

-- 647,563 bytes
abbrev pub text_limit : ℕ
text_limit = line_limit * (5 + 2 * max_points)

-- a refusal is the only line
unfoldable pub comparison_text : Comparison → List ℕ
comparison_text c = cond (eqb c.number 0) (differences_text c.list) (refused_in_line c.number c.place c.which)

-- the program's whole output
abbrev pub printed : List ℕ → List ℕ → List ℕ
printed s t = comparison_text (comparison (take input_limit s) (take input_limit t))
