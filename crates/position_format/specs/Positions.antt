-- Document 01, "Positions": the coding of a list of positions, and what a body is the coding of.
--   step_bits rs zs           the codes of the steps zs, one after the other
--   position_bits rs ts       the bits of the positions ts: the first two raw, then the codes of the steps
--   coded_positions rs ts     those bits laid in bytes
--   valid_positions rs ts     every position is in its range, and every step in the table
--   StepTaken                 a step and the bits after its code
--   step_at rs ds             the step whose code stands at the front of the bits ds, and the bits after it
--   at_least_zero z           a number that is not below zero, else 0
--   after a b z               the position after a and b whose step is z, and 0 where it would be negative
--   decoded_steps rs n a b ds the n positions after a and b whose steps stand in ds
--   decoded_bits rs n ds      the n positions that the bits ds give
--   decoded rs n body         the n positions that a body gives, if it is a coding at all
--   read_positions rs n body  the n positions that the body is the coding of, or nothing
-- Fill bits are, in the standard term, padding. A body is read by decoding it and coding the result again. So a row other than the first
-- that holds a step, a 1 among the fill bits, a byte too many, bits too few and a position outside its range are each refused, whatever the
-- decoding makes of them.
use Rattle.std.specs.Prelude.{Bool, cond, List, [], ◌∷◌, ◌++◌, ℕ, zero, suc, eqb, ℤ, pos, negsuc, ◌+ℤ◌, ◌-ℤ◌, length, take, drop}
use Rattle.std.proofs.Math.Option.{Option, none, some}
use Rattle.lists.specs.Compare.{both, begins, same}
use Rattle.bits.specs.Digits.{bits_of, number_of}
use Rattle.bits.specs.Packing.{bits, pack}
use Rattle.lists.specs.Lists.{first_index}
use Rattle.limits.specs.Points.{first_high}
use Rattle.position_format.specs.Rows.{Row, code, reading}
use Rattle.position_format.specs.Steps.{steps, steps_from, outside}

-- the codes of steps
unfoldable pub step_bits : List Row → List ℤ → List ℕ
step_bits rs [] = []
step_bits rs (z ∷ zs) = code rs z ++ step_bits rs zs

-- the bits of positions: 64 for each of the first two
unfoldable pub position_bits : List Row → List ℕ → List ℕ
position_bits rs [] = []
position_bits rs (a ∷ []) = bits_of 64 a
position_bits rs (a ∷ b ∷ ts) = bits_of 64 a ++ (bits_of 64 b ++ step_bits rs (steps_from a b ts))

-- the body of the positions' field
unfoldable pub coded_positions : List Row → List ℕ → List ℕ
coded_positions rs ts = pack (position_bits rs ts)

-- tests 4 and 5 of writing do not apply; in the wide form the second part follows from the first
unfoldable pub valid_positions : List Row → List ℕ → Bool
valid_positions rs ts = both (eqb (first_high ts) (length ts)) (eqb (first_index (outside rs) (steps ts)) (length (steps ts)))

-- a step and the bits after its code
pub record StepTaken : Type 0 where
  pub step : ℤ
  pub rest : List ℕ

-- the step by the row whose prefix the bits begin with
unfoldable pub step_at : List Row → List ℕ → StepTaken
step_at [] ds = record { step = pos 0; rest = [] }
step_at (r ∷ rs) ds =
    let tail = drop (length r.prefix) ds in
    cond (begins r.prefix ds)
    (record { step = reading r (number_of 2 (take r.width tail)); rest = drop r.width tail })
    (step_at rs ds)

-- a number that is not below zero, else 0
abbrev pub at_least_zero : ℤ → ℕ
at_least_zero (pos n) = n
at_least_zero (negsuc n) = 0

-- the position after a and b whose step is z: b + (b - a) + z
abbrev pub after : ℕ → ℕ → ℤ → ℕ
after a b z = at_least_zero (pos b +ℤ ((pos b -ℤ pos a) +ℤ z))

-- the positions after two others
unfoldable pub decoded_steps : List Row → ℕ → ℕ → ℕ → List ℕ → List ℕ
decoded_steps rs zero a b ds = []
decoded_steps rs (suc n) a b ds =
    let s = step_at rs ds in
    let t = after a b s.step in
    t ∷ decoded_steps rs n b t s.rest

-- the positions of the bits ds
unfoldable pub decoded_bits : List Row → ℕ → List ℕ → List ℕ
decoded_bits rs zero ds = []
decoded_bits rs (suc zero) ds = number_of 2 (take 64 ds) ∷ []
decoded_bits rs (suc (suc n)) ds =
    let a = number_of 2 (take 64 ds) in
    let b = number_of 2 (take 64 (drop 64 ds)) in
    a ∷ b ∷ decoded_steps rs n a b (drop 128 ds)

-- the positions of a body
unfoldable pub decoded : List Row → ℕ → List ℕ → List ℕ
decoded rs n body = decoded_bits rs n (bits body)

-- a body is the coding of n positions when the positions that it gives are valid and their coding is this body
unfoldable pub read_positions : List Row → ℕ → List ℕ → Option (List ℕ)
read_positions rs n body =
    let ts = decoded rs n body in
    cond (both (valid_positions rs ts) (same (coded_positions rs ts) body)) (some ts) none
