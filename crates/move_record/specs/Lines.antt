-- Document 02, No. 5: the lines of the program, as ASCII codes. Single spaces; each ends in one newline.
--   line_limit           room for every line: 53 bytes
--   moved_word, to_word  the fixed parts of that of a move
--   moved_line u n       `moved 1234 to 1240`: the bytes used of the record read, and the length of the one written
--   answer_line a        the line for the answer a of a move; that of a refusal is the listing's
--   usage_line           `usage: move_record wide|old RECORD NEW`, for a call that asks for no form
use Rattle.std.specs.Prelude.{cond, List, [], ◌∷◌, ◌++◌, ℕ, eqb}
use Rattle.record_format.specs.declared.MoveAnswer.{MoveAnswer}
use Rattle.text.specs.Lines.{newline, refused_line}
use Rattle.text.specs.Numbers.{decimal}

-- the longest is that of a refusal: its words, 8 and 4, two numbers of up to 20 digits, and the line's end
abbrev pub line_limit : ℕ
line_limit = 53

-- "moved "
abbrev pub moved_word : List ℕ
moved_word = 109 ∷ 111 ∷ 118 ∷ 101 ∷ 100 ∷ 32 ∷ []

-- " to "
abbrev pub to_word : List ℕ
to_word = 32 ∷ 116 ∷ 111 ∷ 32 ∷ []

-- the line of a move
unfoldable pub moved_line : ℕ → ℕ → List ℕ
moved_line u n = moved_word ++ (decimal u ++ (to_word ++ (decimal n ++ newline)))

-- by the number
unfoldable pub answer_line : MoveAnswer → List ℕ
answer_line a = cond (eqb a.number 0) (moved_line a.used a.length) (refused_line a.number a.place)

-- "usage: ", "move_record ", "wide|old ", "RECORD NEW" and the line's end: 39 bytes
abbrev pub usage_line : List ℕ
usage_line =
    (117 ∷ 115 ∷ 97 ∷ 103 ∷ 101 ∷ 58 ∷ 32 ∷ [])
    ++ ((109 ∷ 111 ∷ 118 ∷ 101 ∷ 95 ∷ 114 ∷ 101 ∷ 99 ∷ 111 ∷ 114 ∷ 100 ∷ 32 ∷ [])
    ++ ((119 ∷ 105 ∷ 100 ∷ 101 ∷ 124 ∷ 111 ∷ 108 ∷ 100 ∷ 32 ∷ [])
    ++ ((82 ∷ 69 ∷ 67 ∷ 79 ∷ 82 ∷ 68 ∷ 32 ∷ 78 ∷ 69 ∷ 87 ∷ [])
    ++ newline)))
