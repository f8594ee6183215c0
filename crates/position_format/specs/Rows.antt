-- Document 01, "Positions", and document 02, No. 3: the tables of steps.
--   Row             a row: the prefix's bits, how many bits follow, the lowest and the highest step that it holds
--   rows            document 01's table
--   wide_rows       the wide table: document 01's first four rows, its last row under a longer prefix, and a row of 64 bits for all other steps
--   row, neg        a row by its parts; -n
--   holds r z       the row r holds the step z
--   in_table rs z   some row holds it
--   residue k z     z modulo 2 ^ k
--   code_in r z     the code of z by the row r: the prefix, then z modulo 2 ^ width
--   code_length r   how many bits the codes by the row r have
--   code rs z       the code of z by the first row that holds it
--   row_of rs z     the index of the first row that holds z; no_row: what stands for a row past the table
--   reading r x     the one number inside the row's range that is x modulo 2 ^ width, of a row that holds 2 ^ width numbers, 0 among them
-- The definitions that go by a table take it as an argument, and their laws are proved of every table that passes one computed test
-- (proofs/Tables, sound_table): no prefix begins another or has more than 5 bits, each row holds 2 ^ width numbers, 0 among them, codes have
-- 1 to 36 bits, in the wide table to 69, ranges widen from row to row, rows of at most 57 bits hold as many steps below 0 as above it or one
-- fewer, the first row holds 0 alone, in a code of one bit, and each row's numbers and residues fit 64 bits.
use Rattle.std.specs.Prelude.{Bool, true, false, cond, List, [], ◌∷◌, ◌++◌, ℕ, suc, ◌+◌, ◌-◌, ◌%◌, ◌^◌, ℤ, pos, negsuc, neg_ℤ, ◌-ℤ◌, length, take}
use Rattle.std.specs.Int.Signed.{le_z}
use Rattle.lists.specs.Compare.{both}
use Rattle.bits.specs.Digits.{bits_of}
use Rattle.lists.specs.Lists.{first_index}

-- a row of the table
pub record Row : Type 0 where
  pub prefix : List ℕ
  pub width : ℕ
  pub low : ℤ
  pub high : ℤ

-- a row by its four numbers
abbrev pub row : List ℕ → ℕ → ℤ → ℤ → Row
row p w l h = record { prefix = p; width = w; low = l; high = h }

-- -n
abbrev pub neg : ℕ → ℤ
neg n = neg_ℤ (pos n)

-- document 01's table
unfoldable pub rows : List Row
rows =
    row (0 ∷ []) 0 (pos 0) (pos 0)
    ∷ row (1 ∷ 0 ∷ []) 7 (neg 63) (pos 64)
    ∷ row (1 ∷ 1 ∷ 0 ∷ []) 9 (neg 255) (pos 256)
    ∷ row (1 ∷ 1 ∷ 1 ∷ 0 ∷ []) 12 (neg 2047) (pos 2048)
    ∷ row (1 ∷ 1 ∷ 1 ∷ 1 ∷ []) 32 (neg (2 ^ 31 - 1)) (pos (2 ^ 31))
    ∷ []

-- the same first four rows, then 11110 with 32 bits for the old last row, then 11111 with 64 bits in two's complement for all other steps
unfoldable pub wide_rows : List Row
wide_rows =
    take 4 rows
    ++ (row (1 ∷ 1 ∷ 1 ∷ 1 ∷ 0 ∷ []) 32 (neg (2 ^ 31 - 1)) (pos (2 ^ 31))
    ∷ row (1 ∷ 1 ∷ 1 ∷ 1 ∷ 1 ∷ []) 64 (neg (2 ^ 63)) (pos (2 ^ 63 - 1))
    ∷ [])

-- whether z is from the row's lowest step to its highest
abbrev pub holds : Row → ℤ → Bool
holds r z = both (le_z r.low z) (le_z z r.high)

-- whether a row holds z
unfoldable pub in_table : List Row → ℤ → Bool
in_table [] z = false
in_table (r ∷ rs) z = cond (holds r z) true (in_table rs z)

-- z modulo 2 ^ k, from 0 to 2 ^ k - 1: the lowest k bits of z in two's complement
abbrev pub residue : ℕ → ℤ → ℕ
residue k (pos n) = n % 2 ^ k
residue k (negsuc n) = 2 ^ k - suc (n % 2 ^ k)

-- the code of z by one row
abbrev pub code_in : Row → ℤ → List ℕ
code_in r z = r.prefix ++ bits_of r.width (residue r.width z)

-- how many bits it has
abbrev pub code_length : Row → ℕ
code_length r = length r.prefix + r.width

-- the code of z by the first row that holds it; no bits where none does, which test 5 shuts out in the old form, and which no step between
-- positions in range has in the wide one
unfoldable pub code : List Row → ℤ → List ℕ
code [] z = []
code (r ∷ rs) z = cond (holds r z) (code_in r z) (code rs z)

-- the number of a row's range that its bits x stand for
abbrev pub reading : Row → ℕ → ℤ
reading r x = cond (le_z (pos x) r.high) (pos x) (pos x -ℤ pos (2 ^ r.width))

-- the index of the first row that holds z, from 0; the number of rows where none does
abbrev pub row_of : List Row → ℤ → ℕ
row_of rs z = first_index (λ (r : Row). holds r z) rs

-- a row that stands for one past the table
abbrev pub no_row : Row
no_row = row [] 0 (pos 0) (pos 0)
