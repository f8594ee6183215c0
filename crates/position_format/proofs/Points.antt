-- The points of a run one after the other: the step at each, its bits, what one point more adds to the bits and to the tests, and what stands after it.
pub mod Reading
pub mod Stands
use mathlib.Core.Bool.{Bool, true, false, cond, not}
use mathlib.Core.List.{List, [], ◌∷◌, ◌++◌, append_assoc, append-nil}
use mathlib.Core.Path.{◌≡◌, refl, sym, ap, ap₂, ◌∙◌}
use Prim.Native.Nat.{ℕ, zero, suc, ◌+◌, ◌-◌, ◌≤◌, ◌<◌}
use native.Mathlib.Numerals.{add-one}
use native.Mathlib.Omega.{arith}
use borrow.Author.Tests.{lt-ltb, le-ltb, ltb-true, ltb-false}
use lib.Dec.{ltb}
use lib.IntN.{ℤ, pos}
use lib.ListN.{length, get_or, take, length-append}
use lib.Seq.{take-suc, take_all, get_or-take, length-take-le}
use Rattle.bits.specs.Digits.{bits_of}
use Rattle.bits.proofs.Digits.{length_digits}
use Rattle.lists.proofs.Lists.{first_le, first_next, first_found}
use Rattle.limits.specs.Points.{max_position, too_high}
use Rattle.position_format.specs.Rows.{Row, in_table, code}
use Rattle.position_format.specs.Steps.{step_of, steps_from, steps, outside, first_outside, step_here}
use Rattle.position_format.specs.Positions.{step_bits, position_bits, valid_positions}
use Rattle.position_format.specs.Points.{next_bits, point_bits}
use Rattle.lists.proofs.Lists.Tests.{none_snoc}
use Rattle.position_format.proofs.Steps.{length-steps, step_at_lem}
use Rattle.position_format.proofs.Positions.Valid.{valid_parts, valid_of, valid_step}

-- ---- a position at the end

-- the step at a position t after the positions ts
abbrev pub step_next : List ℕ → ℕ → ℤ
step_next ts t = step_of (get_or ts (length ts - 2) 0) (get_or ts (length ts - 1) 0) t

next_is : (a b : ℕ) (ts : List ℕ) (t : ℕ) → step_next (a ∷ b ∷ ts) t ≡ step_of (get_or (a ∷ b ∷ ts) (length ts) 0) (get_or (b ∷ ts) (length ts) 0) t
next_is a b ts t =
    let two : suc (suc (length ts)) - 2 ≡ length ts = omega arith in
    let one : suc (suc (length ts)) - 1 ≡ suc (length ts) = omega arith in
    ap₂ (λ (i j : ℕ). step_of (get_or (a ∷ b ∷ ts) i 0) (get_or (a ∷ b ∷ ts) j 0) t) two one

from_snoc : (a b : ℕ) (ts : List ℕ) (t : ℕ) → steps_from a b (ts ++ (t ∷ [])) ≡ steps_from a b ts ++ (step_of (get_or (a ∷ b ∷ ts) (length ts) 0) (get_or (b ∷ ts) (length ts) 0) t ∷ [])
unfolding steps_from
from_snoc a b [] t = refl
from_snoc a b (u ∷ ts) t = ap (λ (l : List ℤ). step_of a b u ∷ l) (from_snoc b u ts t)

steps_snoc : (ts : List ℕ) (t : ℕ) → 2 ≤ length ts → steps (ts ++ (t ∷ [])) ≡ steps ts ++ (step_next ts t ∷ [])
unfolding steps
steps_snoc [] t h = absurd (omega arith)
steps_snoc (a ∷ []) t h = absurd (omega arith)
steps_snoc (a ∷ b ∷ ts) t h = from_snoc a b ts t ∙ ap (λ (z : ℤ). steps_from a b ts ++ (z ∷ [])) (sym (next_is a b ts t))

module _ (rs : List Row) where
  step_bits-append : (ys zs : List ℤ) → step_bits rs (ys ++ zs) ≡ step_bits rs ys ++ step_bits rs zs
  unfolding step_bits
  step_bits-append [] zs = refl
  step_bits-append (y ∷ ys) zs = rw (step_bits-append ys zs, append_assoc)

  step_bits_snoc : (zs : List ℤ) (z : ℤ) → step_bits rs (zs ++ (z ∷ [])) ≡ step_bits rs zs ++ code rs z
  unfolding step_bits
  step_bits_snoc zs z = step_bits-append zs (z ∷ []) ∙ ap (λ (l : List ℕ). step_bits rs zs ++ l) (append-nil (code rs z))

  -- the bits of two positions or more, and with one more
  pub bits_snoc : (ts : List ℕ) (t : ℕ) → 2 ≤ length ts → position_bits rs (ts ++ (t ∷ [])) ≡ position_bits rs ts ++ code rs (step_next ts t)
  unfolding position_bits steps
  bits_snoc [] t h = absurd (omega arith)
  bits_snoc (a ∷ []) t h = absurd (omega arith)
  bits_snoc (a ∷ b ∷ ts) t h =
      ap (λ (l : List ℕ). bits_of 64 a ++ (bits_of 64 b ++ l)) (ap (step_bits rs) (steps_snoc (a ∷ b ∷ ts) t h) ∙ step_bits_snoc (steps_from a b ts) (step_next (a ∷ b ∷ ts) t))
      ∙ simp append_assoc

  -- that they are valid
  pub valid_snoc : (ts : List ℕ) (t : ℕ) → 2 ≤ length ts → valid_positions rs ts ≡ true → t ≤ max_position → in_table rs (step_next ts t) ≡ true → valid_positions rs (ts ++ (t ∷ [])) ≡ true
  valid_snoc ts t h v l e =
      let p = valid_parts rs ts v in
      valid_of rs (ts ++ (t ∷ [])) (none_snoc too_high ts t p.0 (le-ltb max_position t l))
      (rw (steps_snoc ts t h) (none_snoc (outside rs) (steps ts) (step_next ts t) p.1 (ap not e)))

-- ---- the step at point i

-- it is that of index i - 2
step_here_lem : (d : ℤ) (ts : List ℕ) (i : ℕ) → 2 ≤ i → i < length ts → get_or (steps ts) (i - 2) d ≡ step_here ts i
step_here_lem d ts zero h g = absurd (omega arith)
step_here_lem d ts (suc zero) h g = absurd (omega arith)
step_here_lem d ts (suc (suc i)) h g =
    let two : suc (suc i) - 2 ≡ i = omega arith in
    let one : suc (suc i) - 1 ≡ suc i = omega arith in
    ap (λ (j : ℕ). get_or (steps ts) j d) two ∙ step_at_lem d ts i g
    ∙ ap₂ (λ (j k : ℕ). step_of (get_or ts j 0) (get_or ts k 0) (get_or ts (suc (suc i)) 0)) (sym two) (sym one)

module _ (ts : List ℕ) (i : ℕ) (two : 2 ≤ i) (here : i < length ts) where
  len : length (take i ts) ≡ i
  len = length-take-le i ts (omega arith)

  take_more : take (i + 1) ts ≡ take i ts ++ (get_or ts i 0 ∷ [])
  take_more = rw add-one (take-suc ts i 0 here)

  next_here : step_next (take i ts) (get_or ts i 0) ≡ step_here ts i
  next_here =
      ap (λ (n : ℕ). step_of (get_or (take i ts) (n - 2) 0) (get_or (take i ts) (n - 1) 0) (get_or ts i 0)) len
      ∙ ap₂ (λ (a b : ℕ). step_of a b (get_or ts i 0)) (get_or-take i ts (i - 2) 0 (omega arith)) (get_or-take i ts (i - 1) 0 (omega arith))

  module _ (rs : List Row) where
    bits_more : position_bits rs (take (i + 1) ts) ≡ position_bits rs (take i ts) ++ code rs (step_here ts i)
    bits_more =
        ap (position_bits rs) take_more ∙ bits_snoc rs (take i ts) (get_or ts i 0) (omega (arith, len))
        ∙ ap (λ (z : ℤ). position_bits rs (take i ts) ++ code rs z) next_here

    -- the table holds it
    pub valid_here : valid_positions rs ts ≡ true → in_table rs (step_here ts i) ≡ true
    valid_here v =
        let one : suc (i - 2) ≡ i - 1 = omega arith in
        let all : suc (suc (i - 2)) ≡ i = omega arith in
        ap₂ (λ (j k : ℕ). in_table rs (step_of (get_or ts (i - 2) 0) (get_or ts j 0) (get_or ts k 0))) (sym one) (sym all) ∙ valid_step rs ts v (i - 2) (omega arith)

-- ---- the first point whose step is outside

-- by the test t of whether the table holds the step at point i
module _ (rs : List Row) (ts : List ℕ) (i : ℕ) (two : 2 ≤ i) (here : i < length ts) (so_far : i ≤ first_outside rs ts) (t : Bool) (et : t ≡ in_table rs (step_here ts i)) where
  in_steps : i - 2 < length (steps ts)
  in_steps = omega (arith, length-steps ts)

  tested : outside rs (get_or (steps ts) (i - 2) (pos 0)) ≡ not t
  tested = ap (outside rs) (step_here_lem (pos 0) ts i two here) ∙ ap not (sym et)

  pub outside_here : not t ≡ true → i ≡ first_outside rs ts
  outside_here e = omega (arith, first_found (outside rs) (pos 0) (steps ts) (i - 2) in_steps (omega arith) (tested ∙ e))

  pub outside_later : not t ≡ false → i < first_outside rs ts
  outside_later e = omega (arith, first_next (outside rs) (pos 0) (steps ts) (i - 2) in_steps (omega arith) (tested ∙ e))

pub outside-none : (rs : List Row) (ts : List ℕ) (i : ℕ) → 2 ≤ i → length ts ≤ i → i ≤ first_outside rs ts → i ≡ first_outside rs ts
outside-none rs ts i two all so_far = omega (arith, first_le (outside rs) (steps ts), length-steps ts)

-- ---- the bits of a position at point i

module _ (rs : List Row) where
  module _ (i a b t : ℕ) where
    pub next_raw : i < 2 → next_bits rs i a b t ≡ bits_of 64 t
    next_raw h = ap (λ (u : Bool). cond u (bits_of 64 t) (code rs (step_of a b t))) (lt-ltb i 2 h)

    pub next_step : 2 ≤ i → next_bits rs i a b t ≡ code rs (step_of a b t)
    next_step h = ap (λ (u : Bool). cond u (bits_of 64 t) (code rs (step_of a b t))) (le-ltb i 2 h)

    pub length_next : i < 2 → length (next_bits rs i a b t) ≡ 64
    length_next h = ap length (next_raw h) ∙ length_digits 2 64 t

  -- what stands before the first two does not matter
  pub next_same : (i a b c d t : ℕ) → (2 ≤ i → a ≡ c) → (2 ≤ i → b ≡ d) → next_bits rs i a b t ≡ next_bits rs i c d t
  next_same i a b c d t e f = go (ltb i 2) refl
    where
      go : (u : Bool) → ltb i 2 ≡ u → next_bits rs i a b t ≡ next_bits rs i c d t
      go true s = let h : i < 2 = ltb-true i 2 s in next_raw i a b t h ∙ sym (next_raw i c d t h)
      go false s = let h : 2 ≤ i = ltb-false i 2 s in ap₂ (λ (x y : ℕ). next_bits rs i x y t) (e h) (f h)

-- ---- the bits of points one after the other

module _ (rs : List Row) where
  -- one point more
  pub point_more : (ts : List ℕ) (i : ℕ) → i < length ts → position_bits rs (take (i + 1) ts) ≡ position_bits rs (take i ts) ++ point_bits rs ts i
  unfolding position_bits step_bits steps_from
  point_more [] i h = absurd (omega arith)
  point_more (a ∷ ts) zero h = refl
  point_more (a ∷ []) (suc zero) h = absurd (omega arith)
  point_more (a ∷ b ∷ ts) (suc zero) h = ap (λ (l : List ℕ). bits_of 64 a ++ l) (append-nil (bits_of 64 b))
  point_more (a ∷ []) (suc (suc i)) h = absurd (omega arith)
  point_more (a ∷ b ∷ ts) (suc (suc i)) h =
      bits_more (a ∷ b ∷ ts) (suc (suc i)) (omega arith) h rs
      ∙ ap (λ (l : List ℕ). position_bits rs (take (suc (suc i)) (a ∷ b ∷ ts)) ++ l) (sym (next_step rs (suc (suc i)) (get_or (a ∷ b ∷ ts) (suc (suc i) - 2) 0) (get_or (a ∷ b ∷ ts) (suc (suc i) - 1) 0) (get_or ts i 0) (omega arith)))

  -- the first two, or as many as there are
  pub first-none : (ts : List ℕ) → length ts ≡ 0 → position_bits rs (take 2 ts) ≡ []
  unfolding position_bits
  first-none [] h = refl
  first-none (a ∷ ts) h = absurd (omega arith)

  pub first_one : (ts : List ℕ) → length ts ≡ 1 → position_bits rs (take 2 ts) ≡ bits_of 64 (get_or ts 0 0)
  unfolding position_bits
  first_one [] h = absurd (omega arith)
  first_one (a ∷ []) h = refl
  first_one (a ∷ b ∷ ts) h = absurd (omega arith)

  pub first_two_lem : (ts : List ℕ) → 2 ≤ length ts → position_bits rs (take 2 ts) ≡ bits_of 64 (get_or ts 0 0) ++ bits_of 64 (get_or ts 1 0)
  unfolding position_bits step_bits steps_from
  first_two_lem [] h = absurd (omega arith)
  first_two_lem (a ∷ []) h = absurd (omega arith)
  first_two_lem (a ∷ b ∷ ts) h = ap (λ (l : List ℕ). bits_of 64 a ++ l) (append-nil (bits_of 64 b))

  -- from the third on it has the code of its step
  pub point_step : (ts : List ℕ) (i : ℕ) → 2 ≤ i → i < length ts → position_bits rs (take (i + 1) ts) ≡ position_bits rs (take i ts) ++ code rs (step_here ts i)
  point_step ts i h here = bits_more ts i h here rs

  -- what stands after the first i points
  pub point_rest : (ts : List ℕ) (i : ℕ) → i ≤ length ts → (rest : List ℕ) × (position_bits rs ts ≡ position_bits rs (take i ts) ++ rest)
  point_rest ts i h = go (length ts - i) i (omega arith)
    where
      go : (m j : ℕ) → j + m ≡ length ts → (rest : List ℕ) × (position_bits rs ts ≡ position_bits rs (take j ts) ++ rest)
      go zero j e = ([], sym (append-nil (position_bits rs (take j ts)) ∙ ap (position_bits rs) (take_all j ts (omega arith))))
      go (suc m) j e =
          let r = go m (j + 1) (omega arith) in (
            point_bits rs ts j ++ r.0,
            r.1 ∙ ap (λ (l : List ℕ). l ++ r.0) (point_more ts j (omega arith)) ∙ append_assoc (position_bits rs (take j ts)) (point_bits rs ts j) r.0,
          )

  -- so these begin no later than all end
  pub point_place : (ts : List ℕ) (i : ℕ) → i ≤ length ts → length (position_bits rs (take i ts)) ≤ length (position_bits rs ts)
  point_place ts i h =
      let r = point_rest ts i h in
      omega (arith, ap length r.1, length-append (position_bits rs (take i ts)) r.0)
