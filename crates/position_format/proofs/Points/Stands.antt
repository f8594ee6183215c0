-- Laws of a position at the front of bits: as 64 bits at one of the first two points, and by its step from the third on; and that no other stands there.
use mathlib.Core.Bool.{Bool, true, false, false≢true}
use mathlib.Core.List.{List}
use mathlib.Core.Path.{◌≡◌, refl, sym, ap, ◌∙◌}
use Prim.Native.Nat.{ℕ, ◌+◌, ◌*◌, ◌^◌, ◌≤◌, ◌<◌}
use native.Mathlib.Omega.{arith}
use borrow.Author.Tests.{ltb-true, ltb-false}
use lib.Dec.{ltb}
use lib.IntN.{ℤ}
use lib.ListN.{length, take, drop}
use Rattle.lists.specs.Below.{Below}
use Rattle.lists.specs.Compare.{begins}
use Rattle.bits.specs.Digits.{bits_of, number_of}
use Rattle.bits.specs.Packing.{bits}
use Rattle.lists.proofs.Compare.{begins_rest, begins-take, take_begins, begins_short}
use Rattle.bits.proofs.Digits.{two⁺, length_digits, number_digits_lt}
use Rattle.bits.proofs.Packing.{bits_eight, length_left}
use Rattle.limits.specs.Points.{max_position}
use Rattle.position_format.specs.Rows.{Row, in_table, code}
use Rattle.position_format.specs.Steps.{step_of}
use Rattle.position_format.specs.Positions.{StepTaken, step_at, after}
use Rattle.position_format.specs.Points.{next_bits, Stands}
use Rattle.position_format.proofs.Positions.After.{after-step}
use Rattle.position_format.proofs.Rows.{good_table}
use Rattle.position_format.proofs.Rows.Decoding.{step_at-code}
use Rattle.position_format.proofs.Points.{next_raw, next_step, length_next}

-- ---- only one

-- a number of 64 bits
raw_one : (t v : ℕ) (ds : List ℕ) → t < 2 ^ 64 → v < 2 ^ 64 → begins (bits_of 64 t) ds ≡ true → begins (bits_of 64 v) ds ≡ true → t ≡ v
raw_one t v ds ht hv et ev =
    let front : (x : ℕ) → begins (bits_of 64 x) ds ≡ true → take 64 ds ≡ bits_of 64 x =
    λ x e. ap (λ (n : ℕ). take n ds) (sym (length_digits 2 64 x)) ∙ begins-take (bits_of 64 x) ds e in
    sym (number_digits_lt two⁺ 64 ht) ∙ ap (number_of 2) (sym (front t et) ∙ front v ev) ∙ number_digits_lt two⁺ 64 hv

module _ (rs : List Row) (good : good_table rs ≡ true) where
  -- a step by its code
  code_one : (y z : ℤ) (ds : List ℕ) → in_table rs y ≡ true → in_table rs z ≡ true → begins (code rs y) ds ≡ true → begins (code rs z) ds ≡ true → y ≡ z
  code_one y z ds hy hz ey ez =
      let read : (x : ℤ) → in_table rs x ≡ true → begins (code rs x) ds ≡ true → (step_at rs ds).step ≡ x =
      λ x h e. let r = begins_rest (code rs x) ds e in ap (λ (l : List ℕ). (step_at rs l).step) r.1 ∙ ap (λ (s : StepTaken). s.step) (step_at-code rs good x h r.0) in
      sym (read y hy ey) ∙ read z hz ez

  -- a position by its step
  position-one : (a b t v : ℕ) → step_of a b t ≡ step_of a b v → t ≡ v
  position-one a b t v e = sym (after-step a b t) ∙ ap (after a b) e ∙ after-step a b v

  -- a position
  pub stands_one : (i a b t v : ℕ) (ds : List ℕ) → Stands rs i a b ds t → Stands rs i a b ds v → t ≡ v
  stands_one i a b t v ds p q = go (ltb i 2) refl
    where
      go : (u : Bool) → ltb i 2 ≡ u → t ≡ v
      go true e =
          let h : i < 2 = ltb-true i 2 e in
          raw_one t v ds (omega (arith, p.low)) (omega (arith, q.low)) (rw (next_raw rs i a b t h) at p.front) (rw (next_raw rs i a b v h) at q.front)
      go false e =
          let h : 2 ≤ i = ltb-false i 2 e in
          position-one a b t v
          (code_one (step_of a b t) (step_of a b v) ds (p.held h) (q.held h) (rw (next_step rs i a b t h) at p.front) (rw (next_step rs i a b v h) at q.front))

-- ---- at one of the first two points

module _ (rs : List Row) (body : List ℕ) (i : ℕ) (i< : i < 2) (a b : ℕ) where
  abbrev ds : List ℕ
  ds = drop (64 * i) (bits body)

  -- too few bytes are left
  pub raw_short : length body < 8 * i + 8 → (t : ℕ) → Stands rs i a b ds t → ⊥
  raw_short h t s =
      false≢true (sym (begins_short (next_bits rs i a b t) ds (omega (arith, length_left body (64 * i), length_next rs i a b t i<))) ∙ s.front)

  -- x is the number of the eight bytes there
  module _ (bytes : Below 256 body) (room : 8 * i + 8 ≤ length body) (x : ℕ) (ex : x ≡ number_of 256 (take 8 (drop (8 * i) body))) where
    front : begins (next_bits rs i a b x) ds ≡ true
    front =
        let e : 8 * (8 * i) ≡ 64 * i = omega arith in
        take_begins (next_bits rs i a b x) ds
        (ap (λ (m : ℕ). take m ds) (length_next rs i a b x i<) ∙ ap (λ (m : ℕ). take 64 (drop m (bits body))) (sym e)
        ∙ bits_eight body (8 * i) x bytes room ex ∙ sym (next_raw rs i a b x i<))

    pub raw_high : x < 2 ^ 64 → max_position < x → (t : ℕ) → Stands rs i a b ds t → ⊥
    raw_high x< h t s =
        let q : t ≡ x = raw_one t x ds (omega (arith, s.low)) x< (rw (next_raw rs i a b t i<) at s.front) (rw (next_raw rs i a b x i<) at front) in
        omega (arith, s.low)

    pub raw_stands : x ≤ max_position → Stands rs i a b ds x × (64 ≡ length (next_bits rs i a b x))
    raw_stands h = (record { low = h; held = λ g. absurd (omega arith); front = front }, sym (length_next rs i a b x i<))

-- ---- from the third point on

module _ (rs : List Row) (good : good_table rs ≡ true) (i a b : ℕ) (two : 2 ≤ i) (ds : List ℕ) where
  -- no step's code stands there
  pub step-none : ((z : ℤ) → in_table rs z ≡ true → begins (code rs z) ds ≡ false) → (t : ℕ) → Stands rs i a b ds t → ⊥
  step-none f t s = false≢true (sym (f (step_of a b t) (s.held two)) ∙ rw (next_step rs i a b t two) at s.front)

  -- that of the step z does
  module _ (z : ℤ) (held : in_table rs z ≡ true) (front : begins (code rs z) ds ≡ true) where
    pub step_high : ((t : ℕ) → t ≤ max_position → step_of a b t ≡ z → ⊥) → (t : ℕ) → Stands rs i a b ds t → ⊥
    step_high f t s = f t s.low (code_one rs good (step_of a b t) z ds (s.held two) held (rw (next_step rs i a b t two) at s.front) front)

    pub step_stands : (t n : ℕ) → t ≤ max_position → step_of a b t ≡ z → n ≡ length (code rs z) → Stands rs i a b ds t × (n ≡ length (next_bits rs i a b t))
    step_stands t n h e l =
        let c : next_bits rs i a b t ≡ code rs z = next_step rs i a b t two ∙ ap (code rs) e in
        (record { low = h; held = λ g. ap (in_table rs) e ∙ held; front = rw c front }, l ∙ ap length (sym c))
