-- Document 02, No. 7: the lines that the program prints, as ASCII codes, and the text of a list of differences. Single spaces; each line ends in one newline.
--   form_word .. in_word   the fixed parts of a line that no other program has
--   property_word p        the word of the property p, and a space
--   kind_word k            the word of the kind k, `number`, `infinity` or `nan`, between two spaces
--   property_line p a b    `rate 96000 88200`
--   position_line i t u    `position 7 960 961`
--   ratio_line i v k w l   `ratio 7 number 3fe0000000000000 nan 7ff8000000000000`
--   more_line n            `more 2`
--   line_of d              the line of the difference d
--   line_if d              that line where there is a difference; else nothing
--   differences_text l     the text of the list l: its lines, in its order
--   refused_in_line n p w  `refused 10 at 0 in 2`: a refusal's number and place, and which record it was
use Rattle.std.specs.Prelude.{Option, Some, None, List, [], ◌∷◌, ◌++◌, ℕ}
use Rattle.kind.specs.declared.Kind.{Kind}
use Rattle.kind.specs.declared.Kind.TheVariants.{Number, Infinity, Nan}
use Rattle.differences.specs.declared.Property.{Property}
use Rattle.differences.specs.declared.Property.TheVariants.{Rate, Side, Count, Form}
use Rattle.differences.specs.declared.Difference.{Difference}
use Rattle.differences.specs.declared.Difference.TheVariants.{InProperty, Position, Ratio, More}
use Rattle.text.specs.Lines.{newline, space, ratio_word, rate_word, side_word, count_word, refused_word, at_word}
use Rattle.text.specs.Numbers.{decimal, hex16}

-- "form "
abbrev pub form_word : List ℕ
form_word = 102 ∷ 111 ∷ 114 ∷ 109 ∷ 32 ∷ []

-- "position "
abbrev pub position_word : List ℕ
position_word = 112 ∷ 111 ∷ 115 ∷ 105 ∷ 116 ∷ 105 ∷ 111 ∷ 110 ∷ 32 ∷ []

-- "more "
abbrev pub more_word : List ℕ
more_word = 109 ∷ 111 ∷ 114 ∷ 101 ∷ 32 ∷ []

-- " in "
abbrev pub in_word : List ℕ
in_word = 32 ∷ 105 ∷ 110 ∷ 32 ∷ []

-- as in the listing, but for the form's
abbrev pub property_word : Property → List ℕ
property_word Rate = rate_word
property_word Side = side_word
property_word Count = count_word
property_word Form = form_word

-- " number ", " infinity ", " nan "
abbrev pub kind_word : Kind → List ℕ
kind_word (Number v) = 32 ∷ 110 ∷ 117 ∷ 109 ∷ 98 ∷ 101 ∷ 114 ∷ 32 ∷ []
kind_word (Infinity s) = 32 ∷ 105 ∷ 110 ∷ 102 ∷ 105 ∷ 110 ∷ 105 ∷ 116 ∷ 121 ∷ 32 ∷ []
kind_word (Nan n) = 32 ∷ 110 ∷ 97 ∷ 110 ∷ 32 ∷ []

-- two numbers after a word
unfoldable pub property_line : Property → ℕ → ℕ → List ℕ
property_line p a b = property_word p ++ (decimal a ++ (space ++ (decimal b ++ newline)))

-- the index, and both positions
unfoldable pub position_line : ℕ → ℕ → ℕ → List ℕ
position_line i t u = position_word ++ (decimal i ++ (space ++ (decimal t ++ (space ++ (decimal u ++ newline)))))

-- the index, and of each ratio its kind and its bits
unfoldable pub ratio_line : ℕ → ℕ → Kind → ℕ → Kind → List ℕ
ratio_line i v k w l = ratio_word ++ (decimal i ++ (kind_word k ++ (hex16 v ++ (kind_word l ++ (hex16 w ++ newline)))))

-- the points that only the longer run has
unfoldable pub more_line : ℕ → List ℕ
more_line n = more_word ++ (decimal n ++ newline)

-- the line of a difference
abbrev pub line_of : Difference → List ℕ
line_of (InProperty p a b) = property_line p a b
line_of (Position i t u) = position_line i t u
line_of (Ratio i v k w l) = ratio_line i v k w l
line_of (More n) = more_line n

-- the line of a difference, if there is one
abbrev pub line_if : Option Difference → List ℕ
line_if None = []
line_if (Some d) = line_of d

-- one line after the other
unfoldable pub differences_text : List Difference → List ℕ
differences_text [] = []
differences_text (d ∷ l) = line_of d ++ differences_text l

-- the only line of a refusal
unfoldable pub refused_in_line : ℕ → ℕ → ℕ → List ℕ
refused_in_line n p w = refused_word ++ (decimal n ++ (at_word ++ (decimal p ++ (in_word ++ (decimal w ++ newline)))))
