-- Document 01, "The record" and "Positions": all numbers are written most significant digit first.
--   digits_of b k n  the lowest k digits of n in base b, most significant first
--   bytes_of k n     the lowest k bytes of n
--   bits_of k n      the lowest k bits of n
--   byte_of x j      byte j of x, byte 0 the lowest
--   number_of b ds   the number whose digits in base b are ds
use Rattle.std.specs.Prelude.{List, [], ◌∷◌, ℕ, zero, suc, ◌+◌, ◌*◌, ◌/◌, ◌%◌, ◌^◌, length}

-- the lowest k digits of n in base b
unfoldable pub digits_of : ℕ → ℕ → ℕ → List ℕ
digits_of b zero n = []
digits_of b (suc k) n = (n / b ^ k % b) ∷ digits_of b k n

-- a number in k bytes
abbrev pub bytes_of : ℕ → ℕ → List ℕ
bytes_of k n = digits_of 256 k n

-- a number in k bits
abbrev pub bits_of : ℕ → ℕ → List ℕ
bits_of k n = digits_of 2 k n

-- byte j, from the lowest
abbrev pub byte_of : ℕ → ℕ → ℕ
byte_of x j = x / 2 ^ (8 * j) % 256

-- the number of the digits ds
unfoldable pub number_of : ℕ → List ℕ → ℕ
number_of b [] = 0
number_of b (d ∷ ds) = d * b ^ length ds + number_of b ds
