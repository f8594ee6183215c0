-- How many bits and bytes the coding of positions takes.
use mathlib.Core.Bool.{true}
use mathlib.Core.List.{List, [], ◌∷◌, ◌++◌}
use mathlib.Core.Path.{◌≡◌}
use Prim.Native.Nat.{ℕ, suc, ◌+◌, ◌-◌, ◌*◌, ◌/◌, ◌≤◌}
use native.Mathlib.Nat.{mul-suc, mul-le-mul_left, mul-le-mul_right}
use native.Mathlib.Omega.{arith}
use borrow.Author.Tests.{not-false}
use lib.IntN.{ℤ}
use lib.ListN.{length, length-append}
use Rattle.bits.specs.Digits.{bits_of}
use Rattle.bits.proofs.Digits.{length_digits}
use Rattle.bits.proofs.Packing.{length-pack}
use Rattle.lists.specs.Lists.{first_index}
use Rattle.limits.specs.Points.{max_points}
use Rattle.position_format.specs.declared.Form.{Form}
use Rattle.position_format.specs.declared.Form.TheVariants.{Old, Wide}
use Rattle.position_format.specs.Rows.{Row, in_table, code}
use Rattle.position_format.specs.Steps.{steps_from, steps, outside}
use Rattle.position_format.specs.Positions.{step_bits, position_bits, coded_positions, valid_positions}
use Rattle.position_format.specs.Tables.{table_of, points_of}
use Rattle.lists.proofs.Lists.Tests.{none_cons}
use Rattle.position_format.proofs.Rows.Codes.{lengths, code_within}
use Rattle.position_format.proofs.Steps.{length_from}
use Rattle.position_format.proofs.Tables.{most_bits, form_sound}
use Rattle.position_format.proofs.Positions.Valid.{valid_parts}

pub length-coded : (rs : List Row) (ts : List ℕ) → length (coded_positions rs ts) ≡ (length (position_bits rs ts) + 7) / 8
unfolding coded_positions
length-coded rs ts = length-pack (position_bits rs ts)

pub length_raw : (a b : ℕ) (ds : List ℕ) → length (bits_of 64 a ++ (bits_of 64 b ++ ds)) ≡ 128 + length ds
length_raw a b ds = omega (arith, length-append (bits_of 64 a) (bits_of 64 b ++ ds), length-append (bits_of 64 b) ds, length_digits 2 64 a, length_digits 2 64 b)

-- ---- a table whose codes have from lo to hi bits

module _ (lo hi : ℕ) (rs : List Row) (within : lengths lo hi rs ≡ true) where
  -- the codes of steps
  steps_most : (zs : List ℤ) → first_index (outside rs) zs ≡ length zs → length (step_bits rs zs) ≤ hi * length zs
  unfolding step_bits
  steps_most [] e = omega arith
  steps_most (z ∷ zs) e =
      let c = none_cons (outside rs) z zs e in
      let w = code_within lo hi rs within z (not-false (in_table rs z) c.0) in
      omega (arith, w.1, steps_most zs c.1, length-append (code rs z) (step_bits rs zs), mul-suc hi (length zs))

  -- the bits of positions
  pub bits_most : (ts : List ℕ) → valid_positions rs ts ≡ true → length (position_bits rs ts) ≤ 128 + hi * (length ts - 2)
  unfolding position_bits steps
  bits_most [] v = omega arith
  bits_most (a ∷ []) v = omega (arith, length_digits 2 64 a)
  bits_most (a ∷ b ∷ ts) v =
      let zs = steps_from a b ts in
      let k : suc (suc (length ts)) - 2 ≡ length zs = omega (arith, length_from a b ts) in
      rw (k, length_raw a b (step_bits rs zs)) (omega (arith, steps_most zs (valid_parts rs (a ∷ b ∷ ts) v).1))

  -- and of up to n positions, with their bytes
  pub bits_up_to : (n : ℕ) (ts : List ℕ) → valid_positions rs ts ≡ true → length ts ≤ n → length (position_bits rs ts) ≤ 128 + hi * (n - 2)
  bits_up_to n ts v h =
      let few : length ts - 2 ≤ n - 2 = omega arith in
      omega (arith, bits_most ts v, mul-le-mul_left hi few)

  pub bytes_up_to : (n : ℕ) (ts : List ℕ) → valid_positions rs ts ≡ true → length ts ≤ n → length (coded_positions rs ts) ≤ (128 + hi * (n - 2) + 7) / 8
  bytes_up_to n ts v h = omega (arith, length-coded rs ts, bits_up_to n ts v h)

-- ---- the tables of the forms

-- no form has more points than a run can have, and no code more bits than the wide table's longest
pub points_few : (f : Form) → points_of f ≤ max_points
points_few Old = omega arith
points_few Wide = omega arith

bits_widest : (f : Form) → most_bits f ≤ most_bits Wide
bits_widest Old = omega arith
bits_widest Wide = omega arith

-- the bits of as many positions as a run can have
pub bits_few : (f : Form) (ts : List ℕ) → valid_positions (table_of f) ts ≡ true → length ts ≤ max_points → length (position_bits (table_of f) ts) ≤ 128 + most_bits Wide * (max_points - 2)
bits_few f ts v h = omega (arith, bits_up_to 1 (most_bits f) (table_of f) (form_sound f).lengths max_points ts v h, mul-le-mul_right (max_points - 2) (bits_widest f))

-- and their bytes, by the number of points of a run in the form
pub form_size : (f : Form) (ts : List ℕ) → valid_positions (table_of f) ts ≡ true → length ts ≤ points_of f → length (coded_positions (table_of f) ts) ≤ (128 + most_bits f * (points_of f - 2) + 7) / 8
form_size f = bytes_up_to 1 (most_bits f) (table_of f) (form_sound f).lengths (points_of f)
