-- Document 01, "Bytes to compare", the listing, with the side of document 02, No. 2: what the lines of several programs share. Single spaces; each
-- line ends in one newline.
--   newline, space, ratio_word .. at_word  fixed parts of a line
--   refused_line n p                       `refused 10 at 0`: a refusal's number and place
use Rattle.std.specs.Prelude.{List, [], ◌∷◌, ◌++◌, ℕ}
use Rattle.text.specs.Numbers.{decimal}

-- a line's end
abbrev pub newline : List ℕ
newline = 10 ∷ []

-- what stands between two parts of a line
abbrev pub space : List ℕ
space = 32 ∷ []

-- "ratio "
abbrev pub ratio_word : List ℕ
ratio_word = 114 ∷ 97 ∷ 116 ∷ 105 ∷ 111 ∷ 32 ∷ []

-- "rate "
abbrev pub rate_word : List ℕ
rate_word = 114 ∷ 97 ∷ 116 ∷ 101 ∷ 32 ∷ []

-- "side "
abbrev pub side_word : List ℕ
side_word = 115 ∷ 105 ∷ 100 ∷ 101 ∷ 32 ∷ []

-- "count "
abbrev pub count_word : List ℕ
count_word = 99 ∷ 111 ∷ 117 ∷ 110 ∷ 116 ∷ 32 ∷ []

-- "refused "
abbrev pub refused_word : List ℕ
refused_word = 114 ∷ 101 ∷ 102 ∷ 117 ∷ 115 ∷ 101 ∷ 100 ∷ 32 ∷ []

-- " at "
abbrev pub at_word : List ℕ
at_word = 32 ∷ 97 ∷ 116 ∷ 32 ∷ []

-- the only line of a refusal
unfoldable pub refused_line : ℕ → ℕ → List ℕ
refused_line n p = refused_word ++ (decimal n ++ (at_word ++ (decimal p ++ newline)))
