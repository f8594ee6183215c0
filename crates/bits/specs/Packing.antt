-- Document 01, "Positions": bits are laid from the top bit of each byte down, and the last byte is filled with 0 bits.
--   bits xs      the bits of the bytes xs, one byte after the other
--   eights n ds  n bytes of eight bits each, taken from ds
--   fill_of n    how many 0 bits fill the last byte after n bits
--   pack ds      the bytes that the bits ds are laid in
--   ahead n ds   the first n of the bits ds, with 0 bits past their end
use Rattle.std.specs.Prelude.{List, [], ◌∷◌, ◌++◌, ℕ, zero, suc, ◌+◌, ◌-◌, ◌/◌, ◌%◌, length, take, drop, replicate}
use Rattle.bits.specs.Digits.{bits_of, number_of}

-- the bits of bytes
unfoldable pub bits : List ℕ → List ℕ
bits [] = []
bits (x ∷ xs) = bits_of 8 x ++ bits xs

-- n bytes, of eight bits each
unfoldable pub eights : ℕ → List ℕ → List ℕ
eights zero ds = []
eights (suc n) ds = number_of 2 (take 8 ds) ∷ eights n (drop 8 ds)

-- the fill bits after n bits
abbrev pub fill_of : ℕ → ℕ
fill_of n = (8 - n % 8) % 8

-- bits to bytes, the last byte filled
unfoldable pub pack : List ℕ → List ℕ
pack ds = eights ((length ds + 7) / 8) (ds ++ replicate (fill_of (length ds)) 0)

-- bits to look at, however few there are
abbrev pub ahead : ℕ → List ℕ → List ℕ
ahead n ds = take n ds ++ replicate (n - length ds) 0
