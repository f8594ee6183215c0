-- A table with a row for every integer of 64 bits: each step between positions in range has a code by it, and so such positions are valid.
use mathlib.Core.Bool.{true, not}
use mathlib.Core.List.{List, [], ◌∷◌}
use mathlib.Core.Path.{◌≡◌, refl, ap}
use Prim.Native.Nat.{ℕ, ◌^◌, ◌≤◌, ◌<◌}
use native.Mathlib.Omega.{arith}
use borrow.Author.Tests.{ltb-false}
use lib.IntN.{ℤ, pos, neg_ℤ, ◌-ℤ◌}
use lib.ListN.{length}
use lib.Signed.{mag}
use Rattle.lists.specs.Lists.{first_index}
use Rattle.lists.proofs.Lists.{first_le}
use Rattle.lists.proofs.Lists.Tests.{none_cons, cons_none}
use Rattle.limits.specs.Points.{max_position, too_high, first_high}
use Rattle.integers.proofs.Integers.{mag_abs, abs_neg, abs_diff, abs_add}
use Rattle.position_format.specs.Rows.{Row, in_table}
use Rattle.position_format.specs.Steps.{step_of, steps_from, steps, outside}
use Rattle.position_format.specs.Positions.{valid_positions}
use Rattle.position_format.proofs.Positions.Valid.{valid_of}

-- a step fits 64 bits
pub step_mag : (a b t : ℕ) → a ≤ max_position → b ≤ max_position → t ≤ max_position → mag (step_of a b t) < 2 ^ 63
step_mag a b t a≤ b≤ t≤ =
    let x = pos t -ℤ pos b in
    let y = pos b -ℤ pos a in
    omega (arith, mag_abs (step_of a b t), abs_add x (neg_ℤ y), abs_neg y, abs_diff t b max_position t≤ b≤, abs_diff b a max_position b≤ a≤)

module _ (rs : List Row) (every : (z : ℤ) → mag z < 2 ^ 63 → in_table rs z ≡ true) where
  pub step-held : (a b t : ℕ) → a ≤ max_position → b ≤ max_position → t ≤ max_position → in_table rs (step_of a b t) ≡ true
  step-held a b t a≤ b≤ t≤ = every (step_of a b t) (step_mag a b t a≤ b≤ t≤)

  from_inside : (a b : ℕ) (ts : List ℕ) → a ≤ max_position → b ≤ max_position → first_index too_high ts ≡ length ts → first_index (outside rs) (steps_from a b ts) ≡ length (steps_from a b ts)
  unfolding steps_from first_index
  from_inside a b [] ha hb e = refl
  from_inside a b (t ∷ ts) ha hb e =
      let c = none_cons too_high t ts e in
      let ht : t ≤ max_position = ltb-false max_position t c.0 in
      cons_none (outside rs) (step_of a b t) (steps_from b t ts) (ap not (step-held a b t ha hb ht)) (from_inside b t ts hb ht c.1)

  none-outside : (ts : List ℕ) → first_index too_high ts ≡ length ts → first_index (outside rs) (steps ts) ≡ length (steps ts)
  unfolding steps first_index
  none-outside [] e = refl
  none-outside (a ∷ []) e = refl
  none-outside (a ∷ b ∷ ts) e =
      let c = none_cons too_high a (b ∷ ts) e in
      let d = none_cons too_high b ts c.1 in
      from_inside a b ts (ltb-false max_position a c.0) (ltb-false max_position b d.0) d.1

  pub valid_every : (ts : List ℕ) → length ts ≤ first_high ts → valid_positions rs ts ≡ true
  valid_every ts h =
      let e : first_high ts ≡ length ts = omega (arith, first_le too_high ts) in
      valid_of rs ts e (none-outside ts e)
