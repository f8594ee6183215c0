-- Document 01, "Bytes to compare", the listing: numbers as text, a list of ASCII codes.
--   glyph d      the digit d below 16, in lower case: 0 to 9, then a to f
--   trimmed ds   the digits ds without the leading zeros; the last digit always stays
--   decimal n    n in base 10; 20 digits hold every number of 64 bits
--   hex16 v      v as 16 hex digits
--   signed z     z in base 10, with a minus sign in front where it is negative
use Rattle.std.specs.Prelude.{cond, List, [], ◌∷◌, map, ℕ, suc, ◌+◌, ltb, eqb, ℤ, pos, negsuc}
use Rattle.bits.specs.Digits.{digits_of}

-- the ASCII code of a digit
abbrev pub glyph : ℕ → ℕ
glyph d = cond (ltb d 10) (48 + d) (87 + d)

-- no leading zeros, and at least one digit
unfoldable pub trimmed : List ℕ → List ℕ
trimmed [] = []
trimmed (d ∷ []) = d ∷ []
trimmed (d ∷ (e ∷ ds)) = cond (eqb d 0) (trimmed (e ∷ ds)) (d ∷ (e ∷ ds))

-- a number in base 10
unfoldable pub decimal : ℕ → List ℕ
decimal n = map glyph (trimmed (digits_of 10 20 n))

-- a ratio's bits
unfoldable pub hex16 : ℕ → List ℕ
hex16 v = map glyph (digits_of 16 16 v)

-- a span
unfoldable pub signed : ℤ → List ℕ
signed (pos n) = decimal n
signed (negsuc n) = 45 ∷ decimal (suc n)
