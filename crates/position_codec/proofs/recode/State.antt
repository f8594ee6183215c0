-- What the loop of recoding keeps, and where the bits of the points stand in a body that is the coding of positions.
use mathlib.Core.Bool.{true}
use mathlib.Core.List.{List, [], ◌∷◌, ◌++◌, append_assoc}
use mathlib.Core.Path.{◌≡◌, refl, sym, ap, ◌∙◌}
use Prim.Native.Nat.{ℕ, zero, suc, ◌+◌, ◌*◌, ◌≤◌, ◌<◌}
use native.Mathlib.Omega.{arith}
use lib.IntN.{ℤ}
use lib.ListN.{length, take, drop, replicate, length-append}
use lib.Seq.{take_at, drop_at}
use Rattle.lists.proofs.Compare.{begins_own}
use Rattle.bits.specs.Packing.{bits, fill_of}
use Rattle.bits.specs.Sinks.{Held, PlacedBits}
use Rattle.bits.specs.declared.laying.Sink.{Sink}
use Rattle.bits.proofs.Digits.{length_digits}
use Rattle.bits.proofs.Packing.{length-bits}
use Rattle.position_format.specs.declared.Form.{Form}
use Rattle.position_format.specs.Rows.{Row, in_table, code}
use Rattle.position_format.specs.Steps.{steps_from, step_here, first_outside}
use Rattle.position_format.specs.Tables.{table_of}
use Rattle.position_format.specs.Positions.{step_bits, position_bits}
use Rattle.position_format.proofs.Rows.{good_table}
use Rattle.position_format.proofs.Positions.{Coding, coding_bits}
use Rattle.position_format.proofs.Positions.Sizes.{length_raw}
use Rattle.position_format.proofs.Points.{valid_here, point_step, point_rest, outside_later}
use Rattle.position_codec.specs.Recoding.{CodeStands, ThreeStand}

-- the first i of the positions ts are passed: the bits of the body before `at` are theirs, the other form's table holds their steps, and their bits in it
-- are laid by way of the sink s
pub record Recoding (from to : Form) (n : ℕ) (ts o out : List ℕ) (i at : ℕ) (s : Sink) : Type 0 where
  pub few : i ≤ n
  pub two : i < n → 2 ≤ i
  pub place : at ≡ length (position_bits (table_of from) (take i ts))
  pub inside : i ≤ first_outside (table_of to) ts
  pub small : s.at ≤ 16 * (i + 2)
  pub held : Held (position_bits (table_of to) (take i ts)) s
  pub placed : PlacedBits (position_bits (table_of to) (take i ts)) s.at o out

-- ---- the first two points

-- they have 64 bits each, and no table has a part in them
pub raw_length : (rs : List Row) (ts : List ℕ) (k : ℕ) → k ≤ 2 → k ≤ length ts → length (position_bits rs (take k ts)) ≡ 64 * k
unfolding position_bits step_bits steps_from
raw_length rs ts zero h g = refl
raw_length rs [] (suc k) h g = absurd (omega arith)
raw_length rs (a ∷ ts) (suc zero) h g = length_digits 2 64 a
raw_length rs (a ∷ []) (suc (suc k)) h g = absurd (omega arith)
raw_length rs (a ∷ b ∷ ts) (suc (suc zero)) h g = length_raw a b []
raw_length rs (a ∷ b ∷ ts) (suc (suc (suc k))) h g = absurd (omega arith)

raw_same : (rs qs : List Row) (ts : List ℕ) (k : ℕ) → k ≤ 2 → position_bits rs (take k ts) ≡ position_bits qs (take k ts)
unfolding position_bits step_bits steps_from
raw_same rs qs ts zero h = refl
raw_same rs qs [] (suc k) h = refl
raw_same rs qs (a ∷ ts) (suc zero) h = refl
raw_same rs qs (a ∷ []) (suc (suc k)) h = refl
raw_same rs qs (a ∷ b ∷ ts) (suc (suc zero)) h = refl
raw_same rs qs (a ∷ b ∷ ts) (suc (suc (suc k))) h = absurd (omega arith)

module _ (rs : List Row) (good : good_table rs ≡ true) (n : ℕ) (body ts : List ℕ) (c : Coding rs n body ts) where
  -- ---- where the first i points end

  split : (i : ℕ) → i ≤ n → (rest : List ℕ) × (bits body ≡ position_bits rs (take i ts) ++ rest)
  split i h =
      let r = point_rest rs ts i (omega (arith, c.many)) in
      let fill : List ℕ = replicate (fill_of (length (position_bits rs ts))) 0 in
      (r.0 ++ fill, coding_bits rs n body good ts c ∙ ap (λ (l : List ℕ). l ++ fill) r.1 ∙ append_assoc (position_bits rs (take i ts)) r.0 fill)

  pub place_inside : (i : ℕ) → i ≤ n → length (position_bits rs (take i ts)) ≤ 8 * length body
  place_inside i h = let r = split i h in omega (arith, ap length r.1, length-append (position_bits rs (take i ts)) r.0, length-bits body)

  -- the bits of the first two, or of so many as there are
  pub raw_front : (qs : List Row) (k : ℕ) → k ≤ 2 → k ≤ n → take (64 * k) (bits body) ≡ position_bits qs (take k ts)
  raw_front qs k h g =
      let r = split k g in
      ap (take (64 * k)) r.1 ∙ take_at (position_bits rs (take k ts)) r.0 (64 * k) (raw_length rs ts k h (omega (arith, c.many))) ∙ raw_same rs qs ts k h

  pub raw_inside : (k : ℕ) → k ≤ 2 → k ≤ n → 8 * k ≤ length body
  raw_inside k h g = omega (arith, place_inside k g, raw_length rs ts k h (omega (arith, c.many)))

  -- ---- the code of point i

  module _ (i : ℕ) (two : 2 ≤ i) (more : i < n) where
    here : i < length ts
    here = omega (arith, c.many)

    pub code_place : position_bits rs (take (i + 1) ts) ≡ position_bits rs (take i ts) ++ code rs (step_here ts i)
    code_place = point_step rs ts i two here

    pub code_rest : (at : ℕ) → at ≡ length (position_bits rs (take i ts)) → (rest : List ℕ) × (drop at (bits body) ≡ code rs (step_here ts i) ++ rest)
    code_rest at e =
        let r = split (i + 1) (omega arith) in (
          r.0,
          ap (drop at) (r.1 ∙ ap (λ (l : List ℕ). l ++ r.0) code_place ∙ append_assoc (position_bits rs (take i ts)) (code rs (step_here ts i)) r.0)
              ∙ drop_at (position_bits rs (take i ts)) (code rs (step_here ts i) ++ r.0) at (sym e),
        )

    pub code_stands : (at : ℕ) → at ≡ length (position_bits rs (take i ts)) → CodeStands rs (drop at (bits body)) (step_here ts i)
    code_stands at e =
        let r = code_rest at e in
        record { held = valid_here ts i two here rs c.valid; front = rw r.1 (begins_own (code rs (step_here ts i)) r.0) }

    pub code_ends : (at : ℕ) → at ≡ length (position_bits rs (take i ts)) → at + length (code rs (step_here ts i)) ≡ length (position_bits rs (take (i + 1) ts))
    code_ends at e = omega (arith, e, ap length code_place, length-append (position_bits rs (take i ts)) (code rs (step_here ts i)))

  -- ---- the codes of three points, from i on

  module _ (i : ℕ) (two : 2 ≤ i) (three : i + 3 ≤ n) where
    abbrev x : ℤ
    x = step_here ts i

    abbrev y : ℤ
    y = step_here ts (i + 1)

    abbrev z : ℤ
    z = step_here ts (i + 1 + 1)

    -- their bits in any table
    abbrev codes : List Row → List ℕ
    codes qs = code qs x ++ (code qs y ++ code qs z)

    pub three_bits : (qs : List Row) → position_bits qs (take (i + 3) ts) ≡ position_bits qs (take i ts) ++ codes qs
    three_bits qs =
        let e : i + 3 ≡ i + 1 + 1 + 1 = omega arith in
        let p = position_bits qs (take i ts) in
        ap (λ (j : ℕ). position_bits qs (take j ts)) e
        ∙ point_step qs ts (i + 1 + 1) (omega arith) (omega (arith, c.many))
        ∙ ap (λ (l : List ℕ). l ++ code qs z)
        (point_step qs ts (i + 1) (omega arith) (omega (arith, c.many)) ∙ ap (λ (l : List ℕ). l ++ code qs y) (point_step qs ts i two (omega (arith, c.many))))
        ∙ append_assoc (p ++ code qs x) (code qs y) (code qs z)
        ∙ append_assoc p (code qs x) (code qs y ++ code qs z)

    -- a table that holds them has none of them outside
    pub three_inside : (qs : List Row) → i ≤ first_outside qs ts → in_table qs x ≡ true → in_table qs y ≡ true → in_table qs z ≡ true → i + 3 ≤ first_outside qs ts
    three_inside qs so_far ex ey ez =
        let one = outside_later qs ts i two (omega (arith, c.many)) so_far true (sym ex) refl in
        let next = outside_later qs ts (i + 1) (omega arith) (omega (arith, c.many)) (omega (arith, one)) true (sym ey) refl in
        omega (arith, outside_later qs ts (i + 1 + 1) (omega arith) (omega (arith, c.many)) (omega (arith, next)) true (sym ez) refl)

    pub three_length : (qs : List Row) → length (codes qs) ≡ length (code qs x) + length (code qs y) + length (code qs z)
    three_length qs = omega (arith, length-append (code qs x) (code qs y ++ code qs z), length-append (code qs y) (code qs z))

    module _ (at : ℕ) (e : at ≡ length (position_bits rs (take i ts))) where
      pub three_stand : ThreeStand rs body at x y z
      three_stand =
          let one = code_ends i two (omega arith) at e in
          let next = code_ends (i + 1) (omega arith) (omega arith) (at + length (code rs x)) one in
          record {
            first = code_stands i two (omega arith) at e;
            second = code_stands (i + 1) (omega arith) (omega arith) (at + length (code rs x)) one;
            third = code_stands (i + 1 + 1) (omega arith) (omega arith) (at + length (code rs x) + length (code rs y)) next;
          }

      pub three_ends : at + length (codes rs) ≡ length (position_bits rs (take (i + 3) ts))
      three_ends = omega (arith, e, ap length (three_bits rs), length-append (position_bits rs (take i ts)) (codes rs))

      pub three_front : take (length (codes rs)) (drop at (bits body)) ≡ codes rs
      three_front =
          let r = split (i + 3) three in
          let p = position_bits rs (take i ts) in
          ap (take (length (codes rs)))
          (ap (drop at) (r.1 ∙ ap (λ (l : List ℕ). l ++ r.0) (three_bits rs) ∙ append_assoc p (codes rs) r.0) ∙ drop_at p (codes rs ++ r.0) at (sym e))
          ∙ take_at (codes rs) r.0 (length (codes rs)) refl
