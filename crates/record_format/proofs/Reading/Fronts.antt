-- The front of a record as it stands at the front of bytes, and the positions past it: where the fields are, what is read in them, and which tests are
-- left to decide.
use mathlib.Core.Path.{◌≡◌, refl, sym, ap, ap₂, ◌∙◌, subst}
use mathlib.Core.Bool.{true, not}
use mathlib.Core.List.{List, [], ◌∷◌, ◌++◌}
use mathlib.Core.Option.{none, some}
use Prim.Native.Nat.{ℕ, ◌+◌, ◌^◌, ◌≤◌, ◌<◌}
use native.Mathlib.Nat.{add-zero}
use native.Mathlib.Omega.{arith}
use borrow.Author.Tests.{le-ltb}
use lib.Dec.{ltb, lit<}
use lib.ListN.{length, get_or, length-append}
use lib.Seq.{get_or-append-add}
use Rattle.lists.specs.Lists.{member}
use Rattle.lists.specs.Optional.{missing}
use Rattle.bits.specs.Digits.{number_of}
use Rattle.bits.proofs.Digits.{length_digits, number_digits_lt}
use Rattle.limits.specs.Points.{max_points}
use Rattle.limits.specs.Rates.{is_rate}
use Rattle.limits.specs.Sides.{max_side}
use Rattle.limits.proofs.Rates.{rate_high}
use Rattle.refusals.specs.Tests.{Test, test, first_of}
use Rattle.refusals.proofs.Tests.{first_of_skip, first_of_cong}
use Rattle.position_format.specs.declared.Form.{Form}
use Rattle.position_format.specs.Positions.{valid_positions, read_positions}
use Rattle.position_format.specs.Tables.{table_of, points_of}
use Rattle.position_format.proofs.Positions.{read_coded}
use Rattle.position_format.proofs.Tables.{table_good}
use Rattle.record_format.specs.Fields.{Field, head_size, tag_at, body_at, next_at}
use Rattle.record_format.specs.Runs.{rate_tag, count_tag, positions_tags, form_of, rate_size, count_size, rate_field, side_fields, side_length, count_field, positions_field, front_fields}
use Rattle.record_format.specs.Reading.{rate_at, side_at, count_at, positions_at, rate_in, side_in, count_in, form_in, positions_in, other_rate, side_tests, count_tests, front_tests, positions_tests}
use Rattle.record_format.specs.PointClaims.{front_bytes}
use Rattle.record_format.proofs.Fields.{FieldStands, StandAll, length_field, laid_stand, past_all, stand_past, stand_append, past_append}
use Rattle.record_format.proofs.Reading.{field_passes, positions_few, front-flat}
use Rattle.record_format.proofs.Runs.{form_of_lem, tag_good, length_side, front_small}
use Rattle.record_format.proofs.Reading.Sides.{stand_count, stand_side, side_passes}

-- ---- the front

module _ (s : List ℕ) (rate side count : ℕ) (listed : is_rate rate ≡ true) (sided : side ≤ max_side) (counts : count < 256 ^ count_size) (all : StandAll s rate_at (front_fields rate side count)) where
  abbrev count_field_lem : Field
  count_field_lem = count_field count

  abbrev sides : List Field
  sides = side_fields side

  past_rate : StandAll s (side_at s) sides × StandAll s (past_all s (side_at s) sides) (count_field_lem ∷ [])
  past_rate = stand_append s (side_at s) sides (count_field_lem ∷ []) all.1

  past_sides : past_all s (side_at s) sides ≡ count_at s
  past_sides = stand_count s count_field_lem refl side past_rate.0 past_rate.1.0

  count_stands : FieldStands s (count_at s) count_field_lem
  count_stands = subst (λ (p : ℕ). FieldStands s p count_field_lem) past_sides past_rate.1.0

  -- where what follows stands
  pub count_at_lem : count_at s ≡ head_size + rate_size + side_length side
  count_at_lem =
      sym past_sides ∙ stand_past s (side_at s) sides past_rate.0
      ∙ omega (arith, all.0.next, length_side side, length_field (rate_field rate), length_digits 256 rate_size rate)

  pub positions_at_lem : positions_at s ≡ count_at s + (head_size + count_size)
  positions_at_lem = count_stands.next ∙ omega (arith, length_field count_field_lem, length_digits 256 count_size count)

  pub front_past : past_all s rate_at (front_fields rate side count) ≡ positions_at s
  front_past = past_append s (side_at s) sides (count_field_lem ∷ []) ∙ ap (next_at s) past_sides

  -- what it holds
  pub rate_is : rate_in s ≡ rate
  rate_is = ap (number_of 256) all.0.within ∙ number_digits_lt (lit< tt) rate_size (omega (arith, rate_high rate listed))

  pub side_is : side_in s ≡ side
  side_is = stand_side s count_field_lem refl side sided past_rate.0 past_rate.1.0

  pub count_is : count_in s ≡ count
  count_is = ap (number_of 256) count_stands.within ∙ number_digits_lt (lit< tt) count_size counts

  -- 14 and 15 are left, and the tests that follow the front's
  pub front_pass : (e : ℕ) (ts : List Test)
      → first_of (front_tests e s ++ ts) ≡ first_of (test (other_rate e rate) 14 rate_at ∷ test (ltb max_points count) 15 (count_at s) ∷ ts)
  unfolding member
  front_pass e ts =
      let from_count = count_tests s ++ ts in
      let from_side = side_tests s ++ from_count in
      ap first_of (front-flat e s ts)
      ∙ field_passes all.0 (rate_tag ∷ []) (some rate_size) (test (not (is_rate (rate_in s))) 13 rate_at ∷ test (other_rate e (rate_in s)) 14 rate_at ∷ from_side)
      refl (length_digits 256 rate_size rate)
      ∙ first_of_skip _ _ (ap (λ (x : ℕ). not (is_rate x)) rate_is ∙ ap not listed)
      ∙ ap (λ (x : ℕ). first_of (test (other_rate e x) 14 rate_at ∷ from_side)) rate_is
      ∙ first_of_cong _ _ _
      (side_passes s count_field_lem refl side sided past_rate.0 past_rate.1.0 from_count
      ∙ field_passes count_stands (count_tag ∷ []) (some count_size) (test (ltb max_points (count_in s)) 15 (count_at s) ∷ ts) refl (length_digits 256 count_size count)
      ∙ ap (λ (c : ℕ). first_of (test (ltb max_points c) 15 (count_at s) ∷ ts)) count_is)

-- ---- the front, laid, and then any bytes

module _ (r d n : ℕ) (rest : List ℕ) (listed : is_rate r ≡ true) (sided : d ≤ max_side) (counts : n < 256 ^ count_size) where
  abbrev pub input : List ℕ
  input = front_bytes r d n ++ rest

  pub front_all : StandAll input rate_at (front_fields r d n)
  front_all = laid_stand [] (front_fields r d n) rest (front_small r d n)

  -- the positions' field begins where the front ends
  pub front_length : length (front_bytes r d n) ≡ positions_at input
  front_length = omega (arith, stand_past input rate_at (front_fields r d n) front_all) ∙ front_past input r d n listed sided counts front_all

  pub input_length : length input ≡ positions_at input + length rest
  input_length = length-append (front_bytes r d n) rest ∙ ap (λ (m : ℕ). m + length rest) front_length

  pub tag_there : tag_at input (positions_at input) ≡ tag_at rest 0
  unfolding tag_at
  tag_there = ap (λ (p : ℕ). get_or input p 0) (sym front_length ∙ sym (add-zero (length (front_bytes r d n)))) ∙ get_or-append-add (front_bytes r d n) rest 0 0

-- ---- the positions past it

module _ (s : List ℕ) (f : Form) (ps : List ℕ) (few : length ps ≤ points_of f) (valid : valid_positions (table_of f) ps ≡ true) (counted : count_in s ≡ length ps)
    (stands : FieldStands s (positions_at s) (positions_field f ps)) where
  pub form_is : form_in s ≡ f
  form_is = ap form_of stands.tagged ∙ form_of_lem f

  pub positions_are : positions_in s ≡ some ps
  positions_are =
      ap (λ (x : Form). read_positions (table_of x) (count_in s) (body_at s (positions_at s))) form_is
      ∙ ap₂ (read_positions (table_of f)) counted stands.within ∙ read_coded (table_of f) (table_good f) ps valid

  -- their tests pass
  pub positions_pass : (ts : List Test) → first_of (positions_tests s ++ ts) ≡ first_of ts
  unfolding member
  positions_pass ts =
      positions_few s ts (le-ltb _ _ (subst (λ (c : ℕ). c ≤ points_of (form_in s)) (sym counted) (subst (λ (x : Form). length ps ≤ points_of x) (sym form_is) few)))
      ∙ field_passes stands positions_tags none (test (missing (positions_in s)) 17 (positions_at s) ∷ ts) (tag_good f) tt
      ∙ first_of_skip _ _ (ap missing positions_are)
