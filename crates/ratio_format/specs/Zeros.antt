-- Document 01, "Ratios": leading and trailing zero bytes.
--   zeros_at bs      how many zeros the list bs begins with
--   lead_zeros x     the leading zero bytes of a number of 64 bits
--   trail_zeros x    its trailing zero bytes
--   equal_sum        the sum of a ratio and itself: eight zero bytes, from either end
--   sum_of v u       both counts of v xor u together: document 01's sum
use Rattle.std.specs.Prelude.{List, [], ◌∷◌, reverse, ℕ, ◌+◌}
use Rattle.std.specs.Int.Bits.{bit_xor}
use Rattle.std.specs.Int.Count.{under}
use Rattle.bits.specs.Digits.{bytes_of}

-- one more than the rest's count under a 0, and none under any other number
unfoldable pub zeros_at : List ℕ → ℕ
zeros_at [] = 0
zeros_at (b ∷ bs) = under b (zeros_at bs)

-- from the top byte down
unfoldable pub lead_zeros : ℕ → ℕ
lead_zeros x = zeros_at (bytes_of 8 x)

-- from the lowest byte up
unfoldable pub trail_zeros : ℕ → ℕ
trail_zeros x = zeros_at (reverse (bytes_of 8 x))

-- the largest sum, of equal ratios only
abbrev pub equal_sum : ℕ
equal_sum = 16

-- the sum that the choice maximises
unfoldable pub sum_of : ℕ → ℕ → ℕ
sum_of v u = lead_zeros (bit_xor v u) + trail_zeros (bit_xor v u)
