-- The coding of positions and its reading: valid positions are read from their coding, and from no other body.
pub mod After
pub mod Raw
pub mod Sizes
pub mod Valid
pub mod Every
use mathlib.Core.Bool.{Bool, true, false, cond}
use mathlib.Core.List.{List, [], ◌∷◌, ◌++◌, append_assoc}
use mathlib.Core.Option.{none, some}
use mathlib.Core.Path.{◌≡◌, refl, sym, ap, ◌∙◌}
use Prim.Native.Nat.{ℕ, zero, suc}
use native.Mathlib.Omega.{arith}
use borrow.Author.Tests.{not-false}
use lib.IntN.{ℤ}
use lib.ListN.{length, replicate}
use Rattle.lists.specs.Below.{Below}
use Rattle.lists.specs.Compare.{both, same}
use Rattle.bits.specs.Digits.{bits_of}
use Rattle.bits.specs.Packing.{bits, fill_of}
use Rattle.lists.proofs.Below.{below_append}
use Rattle.bits.proofs.Digits.{below_digits, two⁺}
use Rattle.lists.proofs.Compare.{both_true, same_own, same_is}
use Rattle.bits.proofs.Packing.{bits-pack}
use Rattle.lists.specs.Lists.{first_index}
use Rattle.position_format.specs.Rows.{Row, in_table, code}
use Rattle.position_format.specs.Steps.{step_of, steps_from, steps, outside}
use Rattle.position_format.specs.Positions.{StepTaken, step_at, after, step_bits, position_bits, coded_positions, valid_positions, decoded_steps, decoded_bits, decoded, read_positions}
use Rattle.position_format.proofs.Positions.After.{after-step}
use Rattle.lists.proofs.Lists.Tests.{none_cons}
use Rattle.position_format.proofs.Rows.{good_table}
use Rattle.position_format.proofs.Rows.Codes.{code_below}
use Rattle.position_format.proofs.Rows.Decoding.{step_at-code}
use Rattle.position_format.proofs.Positions.Raw.{raw_first, raw_rest, raw_both}
use Rattle.position_format.proofs.Positions.Valid.{valid_parts, valid_low}

-- ---- the bits are bits

module _ (rs : List Row) (good : good_table rs ≡ true) where
  held : (z : ℤ) → outside rs z ≡ false → in_table rs z ≡ true
  held z e = not-false (in_table rs z) e

  pub steps_below : (zs : List ℤ) → first_index (outside rs) zs ≡ length zs → Below 2 (step_bits rs zs)
  unfolding step_bits Below
  steps_below [] e = tt
  steps_below (z ∷ zs) e =
      let c = none_cons (outside rs) z zs e in
      below_append 2 (code rs z) (step_bits rs zs) (code_below rs good z (held z c.0)) (steps_below zs c.1)

  pub positions_below : (ts : List ℕ) → valid_positions rs ts ≡ true → Below 2 (position_bits rs ts)
  unfolding position_bits Below steps
  positions_below [] e = tt
  positions_below (a ∷ []) e = below_digits 2 two⁺ 64 a
  positions_below (a ∷ b ∷ ts) e =
      below_append 2 (bits_of 64 a) (bits_of 64 b ++ step_bits rs (steps_from a b ts)) (below_digits 2 two⁺ 64 a)
      (below_append 2 (bits_of 64 b) (step_bits rs (steps_from a b ts)) (below_digits 2 two⁺ 64 b)
      (steps_below (steps_from a b ts) (valid_parts rs (a ∷ b ∷ ts) e).1))

  -- ---- decoding undoes coding

  pub steps-decoded : (ts : List ℕ) (a b : ℕ) → first_index (outside rs) (steps_from a b ts) ≡ length (steps_from a b ts) → (ds : List ℕ)
      → decoded_steps rs (length ts) a b (step_bits rs (steps_from a b ts) ++ ds) ≡ ts
  unfolding decoded_steps step_bits steps_from
  steps-decoded [] a b e ds = refl
  steps-decoded (t ∷ ts) a b e ds =
      let c = none_cons (outside rs) (step_of a b t) (steps_from b t ts) e in
      let es = step_bits rs (steps_from b t ts) ++ ds in
      ap (λ (s : StepTaken). after a b s.step ∷ decoded_steps rs (length ts) b (after a b s.step) s.rest)
      (ap (step_at rs) (append_assoc (code rs (step_of a b t)) (step_bits rs (steps_from b t ts)) ds) ∙ step_at-code rs good (step_of a b t) (held (step_of a b t) c.0) es)
      ∙ ap (λ (u : ℕ). u ∷ decoded_steps rs (length ts) b u es) (after-step a b t)
      ∙ ap (λ (l : List ℕ). t ∷ l) (steps-decoded ts b t c.1 ds)

  pub bits-decoded : (ts : List ℕ) → valid_positions rs ts ≡ true → (ds : List ℕ) → decoded_bits rs (length ts) (position_bits rs ts ++ ds) ≡ ts
  unfolding decoded_bits position_bits steps
  bits-decoded [] e ds = refl
  bits-decoded (a ∷ []) e ds = ap (λ (x : ℕ). x ∷ []) (raw_first a ds (valid_low rs (a ∷ []) e 0 (omega arith)))
  bits-decoded (a ∷ b ∷ ts) e ds =
      let es = step_bits rs (steps_from a b ts) ++ ds in
      let w : (bits_of 64 a ++ (bits_of 64 b ++ step_bits rs (steps_from a b ts))) ++ ds ≡ bits_of 64 a ++ (bits_of 64 b ++ es) = simp append_assoc in
      ap (decoded_bits rs (suc (suc (length ts)))) w
      ∙ rw (raw_first a (bits_of 64 b ++ es) (valid_low rs (a ∷ b ∷ ts) e 0 (omega arith)), raw_rest a (bits_of 64 b ++ es), raw_first b es (valid_low rs (a ∷ b ∷ ts) e 1 (omega arith)), raw_both a b es)
      (ap (λ (l : List ℕ). a ∷ b ∷ l) (steps-decoded ts a b (valid_parts rs (a ∷ b ∷ ts) e).1 ds))

  pub decoded-coded : (ts : List ℕ) → valid_positions rs ts ≡ true → decoded rs (length ts) (coded_positions rs ts) ≡ ts
  unfolding decoded coded_positions
  decoded-coded ts e =
      ap (decoded_bits rs (length ts)) (bits-pack (position_bits rs ts) (positions_below ts e))
      ∙ bits-decoded ts e (replicate (fill_of (length (position_bits rs ts))) 0)

  -- the bits of a coding: those of the positions, and the fill
  pub bits-coded : (ts : List ℕ) → valid_positions rs ts ≡ true → bits (coded_positions rs ts) ≡ position_bits rs ts ++ replicate (fill_of (length (position_bits rs ts))) 0
  unfolding coded_positions
  bits-coded ts e = bits-pack (position_bits rs ts) (positions_below ts e)

-- ---- as many as are asked for

length-decoded_steps : (rs : List Row) (n a b : ℕ) (ds : List ℕ) → length (decoded_steps rs n a b ds) ≡ n
unfolding decoded_steps
length-decoded_steps rs zero a b ds = refl
length-decoded_steps rs (suc n) a b ds = ap suc (length-decoded_steps rs n b _ _)

length-decoded_bits : (rs : List Row) (n : ℕ) (ds : List ℕ) → length (decoded_bits rs n ds) ≡ n
unfolding decoded_bits
length-decoded_bits rs zero ds = refl
length-decoded_bits rs (suc zero) ds = refl
length-decoded_bits rs (suc (suc n)) ds = ap (λ (m : ℕ). suc (suc m)) (length-decoded_steps rs n _ _ _)

pub length-decoded : (rs : List Row) (n : ℕ) (body : List ℕ) → length (decoded rs n body) ≡ n
unfolding decoded
length-decoded rs n body = length-decoded_bits rs n (bits body)

-- ---- reading

module _ (rs : List Row) where
  -- the test that reading makes of what a body gives
  abbrev accepts : List ℕ → List ℕ → Bool
  accepts ts body = both (valid_positions rs ts) (same (coded_positions rs ts) body)

  -- valid positions are read from their coding
  pub read_coded : good_table rs ≡ true → (ts : List ℕ) → valid_positions rs ts ≡ true → read_positions rs (length ts) (coded_positions rs ts) ≡ some ts
  unfolding read_positions
  read_coded good ts e = rw (decoded-coded rs good ts e, e, same_own (coded_positions rs ts))

  pub read_some : good_table rs ≡ true → (n : ℕ) (body ts : List ℕ) → length ts ≡ n → valid_positions rs ts ≡ true → coded_positions rs ts ≡ body → read_positions rs n body ≡ some ts
  read_some good n body ts l e c = rw (← l, ← c) (read_coded good ts e)

  -- and what is read from a body is valid positions whose coding is that body
  pub read_only : (n : ℕ) (body ts : List ℕ) → read_positions rs n body ≡ some ts → (body ≡ coded_positions rs ts) × (valid_positions rs ts ≡ true) × (length ts ≡ n)
  unfolding read_positions
  read_only n body ts e = go (accepts us body) refl e
    where
      us : List ℕ
      us = decoded rs n body

      go : (t : Bool) → accepts us body ≡ t → cond t (some us) none ≡ some ts → (body ≡ coded_positions rs ts) × (valid_positions rs ts ≡ true) × (length ts ≡ n)
      go true s r =
          let u : us ≡ ts = cc in
          let p = both_true (valid_positions rs us) _ s in
          rw (← u) (sym (same_is (coded_positions rs us) body p.1), p.0, length-decoded rs n body)
      go false s r = let z : ◌≡◌ {A = ℕ} 0 1 = cc in absurd (omega arith)

  -- a body that is no such coding is refused
  pub read_none : (n : ℕ) (body : List ℕ) → ((ts : List ℕ) → length ts ≡ n → valid_positions rs ts ≡ true → coded_positions rs ts ≡ body → ⊥) → read_positions rs n body ≡ none
  unfolding read_positions
  read_none n body f = go (accepts us body) refl
    where
      us : List ℕ
      us = decoded rs n body

      go : (t : Bool) → accepts us body ≡ t → cond t (some us) none ≡ none
      go true s =
          let p = both_true (valid_positions rs us) _ s in
          absurd (f us (length-decoded rs n body) p.0 (same_is (coded_positions rs us) body p.1))
      go false s = refl

-- ---- codings

-- the body is the coding of the n positions ts
pub record Coding (rs : List Row) (n : ℕ) (body ts : List ℕ) : Type 0 where
  pub many : length ts ≡ n
  pub valid : valid_positions rs ts ≡ true
  pub coded : coded_positions rs ts ≡ body

module _ (rs : List Row) (n : ℕ) (body : List ℕ) where
  -- a body that is none is refused
  pub coding_none : ((ts : List ℕ) → Coding rs n body ts → ⊥) → read_positions rs n body ≡ none
  coding_none f = read_none rs n body (λ ts l v c. f ts (record { many = l; valid = v; coded = c }))

  -- its bits
  pub coding_bits : good_table rs ≡ true → (ts : List ℕ) → Coding rs n body ts → bits body ≡ position_bits rs ts ++ replicate (fill_of (length (position_bits rs ts))) 0
  coding_bits good ts c = ap bits (sym c.coded) ∙ bits-coded rs good ts c.valid
