-- Laws of valid positions: what it says of each position and of each step that positions are valid.
use mathlib.Core.Bool.{true}
use mathlib.Core.List.{List, [], ◌∷◌}
use mathlib.Core.Path.{◌≡◌, refl}
use Prim.Native.Nat.{ℕ, suc, ◌≤◌, ◌<◌}
use native.Mathlib.Omega.{arith}
use borrow.Author.Tests.{eqb-true, eq-eqb, ltb-false, le-ltb, not-false}
use lib.Dec.{eqb}
use lib.IntN.{pos}
use lib.ListN.{length, get_or}
use Rattle.lists.proofs.Compare.{both_true}
use Rattle.lists.specs.Lists.{first_index}
use Rattle.limits.specs.Points.{max_position, too_high}
use Rattle.position_format.specs.Rows.{Row, in_table}
use Rattle.position_format.specs.Steps.{step_of, steps_from, steps, outside}
use Rattle.position_format.specs.Positions.{valid_positions}
use Rattle.lists.proofs.Lists.Tests.{cons_none, none_at}
use Rattle.position_format.proofs.Steps.{length-steps, step_at_lem}

module _ (rs : List Row) where
  pub valid_parts : (ts : List ℕ) → valid_positions rs ts ≡ true → (first_index too_high ts ≡ length ts) × (first_index (outside rs) (steps ts) ≡ length (steps ts))
  unfolding valid_positions
  valid_parts ts e =
      let p = both_true (eqb (first_index too_high ts) (length ts)) _ e in
      (eqb-true _ _ p.0, eqb-true _ _ p.1)

  pub valid_of : (ts : List ℕ) → first_index too_high ts ≡ length ts → first_index (outside rs) (steps ts) ≡ length (steps ts) → valid_positions rs ts ≡ true
  unfolding valid_positions
  valid_of ts e f = rw (eq-eqb _ _ e, eq-eqb _ _ f)

  -- below three positions there is no step
  pub valid_none : valid_positions rs [] ≡ true
  unfolding steps first_index
  valid_none = valid_of [] refl refl

  pub valid_one : (a : ℕ) → a ≤ max_position → valid_positions rs (a ∷ []) ≡ true
  unfolding steps first_index
  valid_one a h = valid_of (a ∷ []) (cons_none too_high a [] (le-ltb max_position a h) refl) refl

  pub valid_two : (a b : ℕ) → a ≤ max_position → b ≤ max_position → valid_positions rs (a ∷ b ∷ []) ≡ true
  unfolding steps steps_from first_index
  valid_two a b h g = valid_of (a ∷ b ∷ []) (cons_none too_high a (b ∷ []) (le-ltb max_position a h) (cons_none too_high b [] (le-ltb max_position b g) refl)) refl

  module _ (ts : List ℕ) (valid : valid_positions rs ts ≡ true) where
    -- each position is in its range
    pub valid_low : (i : ℕ) → i < length ts → get_or ts i 0 ≤ max_position
    valid_low i h = ltb-false max_position (get_or ts i 0) (none_at too_high 0 ts (valid_parts ts valid).0 i h)

    -- each step is in the table
    pub valid_step : (i : ℕ) → suc (suc i) < length ts → in_table rs (step_of (get_or ts i 0) (get_or ts (suc i) 0) (get_or ts (suc (suc i)) 0)) ≡ true
    valid_step i h =
        rw (← step_at_lem (pos 0) ts i h)
        (not-false _ (none_at (outside rs) (pos 0) (steps ts) (valid_parts ts valid).1 i (omega (arith, length-steps ts))))
