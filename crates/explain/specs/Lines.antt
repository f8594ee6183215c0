-- Document 02, No. 1: the lines that the program prints, as ASCII codes. Single spaces; each line ends in one newline.
--   bytes_word .. empty_line    the fixed parts of a line that no other program has
--   cost_line i v n o           `ratio 1 c00e666666666666 3 bytes at 43`: index, the ratio's bits, how many bytes it took, the first one's offset
--   xor_line p l t              the reason of an xor form
--   reason_line r               the reason: `equal to place 3`, `xor with place 0, 1 leading and 6 trailing zero bytes`, `exception, best sum 1`,
--                               `exception, window empty`; or the line of a refusal, as the listing has it
use Rattle.std.specs.Prelude.{Result, Ok, Err, List, [], ◌∷◌, ◌++◌, ℕ}
use Rattle.text.specs.Lines.{newline, space, ratio_word, refused_line}
use Rattle.text.specs.Numbers.{decimal, hex16}
use Rattle.refusals.specs.declared.Refusal.{Refusal}
use Rattle.reasons.specs.declared.Reason.{Reason}
use Rattle.reasons.specs.declared.Reason.TheVariants.{Reference, Xor, Exception, Empty}

-- " bytes at "
abbrev pub bytes_word : List ℕ
bytes_word = 32 ∷ 98 ∷ 121 ∷ 116 ∷ 101 ∷ 115 ∷ 32 ∷ 97 ∷ 116 ∷ 32 ∷ []

-- "equal to place "
abbrev pub equal_word : List ℕ
equal_word = 101 ∷ 113 ∷ 117 ∷ 97 ∷ 108 ∷ 32 ∷ 116 ∷ 111 ∷ 32 ∷ 112 ∷ 108 ∷ 97 ∷ 99 ∷ 101 ∷ 32 ∷ []

-- "xor with place "
abbrev pub xor_word : List ℕ
xor_word = 120 ∷ 111 ∷ 114 ∷ 32 ∷ 119 ∷ 105 ∷ 116 ∷ 104 ∷ 32 ∷ 112 ∷ 108 ∷ 97 ∷ 99 ∷ 101 ∷ 32 ∷ []

-- ", "
abbrev pub comma : List ℕ
comma = 44 ∷ 32 ∷ []

-- " leading and "
abbrev pub leading_word : List ℕ
leading_word = 32 ∷ 108 ∷ 101 ∷ 97 ∷ 100 ∷ 105 ∷ 110 ∷ 103 ∷ 32 ∷ 97 ∷ 110 ∷ 100 ∷ 32 ∷ []

-- " trailing zero bytes", and the line's end
abbrev pub trailing_word : List ℕ
trailing_word =
    32 ∷ 116 ∷ 114 ∷ 97 ∷ 105 ∷ 108 ∷ 105 ∷ 110 ∷ 103 ∷ 32 ∷ 122 ∷ 101 ∷ 114 ∷ 111 ∷ 32 ∷ 98 ∷ 121 ∷ 116 ∷ 101 ∷ 115 ∷ 10 ∷ []

-- "exception, best sum "
abbrev pub best_word : List ℕ
best_word =
    101 ∷ 120 ∷ 99 ∷ 101 ∷ 112 ∷ 116 ∷ 105 ∷ 111 ∷ 110 ∷ 44 ∷ 32 ∷ 98 ∷ 101 ∷ 115 ∷ 116 ∷ 32 ∷ 115 ∷ 117 ∷ 109 ∷ 32 ∷ []

-- "exception, window empty", and the line's end
abbrev pub empty_line : List ℕ
empty_line =
    101 ∷ 120 ∷ 99 ∷ 101 ∷ 112 ∷ 116 ∷ 105 ∷ 111 ∷ 110 ∷ 44 ∷ 32 ∷ 119 ∷ 105 ∷ 110 ∷ 100 ∷ 111 ∷ 119 ∷ 32 ∷ 101 ∷ 109 ∷ 112 ∷ 116 ∷ 121
    ∷ 10 ∷ []

-- the line of the cost
unfoldable pub cost_line : ℕ → ℕ → ℕ → ℕ → List ℕ
cost_line i v n o = ratio_word ++ (decimal i ++ (space ++ (hex16 v ++ (space ++ (decimal n ++ (bytes_word ++ (decimal o ++ newline)))))))

-- the line of an xor form
unfoldable pub xor_line : ℕ → ℕ → ℕ → List ℕ
xor_line p l t = xor_word ++ (decimal p ++ (comma ++ (decimal l ++ (leading_word ++ (decimal t ++ trailing_word)))))

-- the line of the reason
unfoldable pub reason_line : Result Reason Refusal → List ℕ
reason_line (Ok (Reference p)) = equal_word ++ (decimal p ++ newline)
reason_line (Ok (Xor p l t)) = xor_line p l t
reason_line (Ok (Exception s)) = best_word ++ (decimal s ++ newline)
reason_line (Ok Empty) = empty_line
reason_line (Err f) = refused_line f.number f.place
