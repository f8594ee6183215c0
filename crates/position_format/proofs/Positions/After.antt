-- A step, added again, gives the position, and the step at a position is what it adds.
use mathlib.Core.Path.{◌≡◌, sym, ap, ◌∙◌}
use Prim.Native.Nat.{ℕ}
use lib.IntN.{ℤ, pos, ◌+ℤ◌, ◌-ℤ◌, +ℤ_comm, +ℤ-neg_ℤ_cancel, -ℤ-+ℤ_cancel}
use Rattle.position_format.specs.Steps.{step_of}
use Rattle.position_format.specs.Positions.{at_least_zero, after}

-- y and what x lacks of y
sub_add : (x y : ℤ) → y +ℤ (x -ℤ y) ≡ x
sub_add x y = +ℤ_comm y (x -ℤ y) ∙ -ℤ-+ℤ_cancel x y

less : (x y : ℤ) → (x +ℤ y) -ℤ x ≡ y
less x y = ap (λ (z : ℤ). z -ℤ x) (+ℤ_comm x y) ∙ +ℤ-neg_ℤ_cancel y x

-- a step, added again, gives the position
pub after-step : (a b t : ℕ) → after a b (step_of a b t) ≡ t
after-step a b t =
    ap (λ (z : ℤ). at_least_zero (pos b +ℤ z)) (sub_add (pos t -ℤ pos b) (pos b -ℤ pos a)) ∙ ap at_least_zero (sub_add (pos t) (pos b))

-- and the step at a position is what it adds
pub step_of_lem : (a b t : ℕ) (z : ℤ) → pos b +ℤ ((pos b -ℤ pos a) +ℤ z) ≡ pos t → step_of a b t ≡ z
step_of_lem a b t z e =
    let d = pos b -ℤ pos a in
    ap (λ (x : ℤ). (x -ℤ pos b) -ℤ d) (sym e) ∙ ap (λ (x : ℤ). x -ℤ d) (less (pos b) (d +ℤ z)) ∙ less d z

pub of_step : (a b t : ℕ) (z : ℤ) → step_of a b t ≡ z → pos b +ℤ ((pos b -ℤ pos a) +ℤ z) ≡ pos t
of_step a b t z e =
    ap (λ (x : ℤ). pos b +ℤ ((pos b -ℤ pos a) +ℤ x)) (sym e)
    ∙ ap (λ (x : ℤ). pos b +ℤ x) (sub_add (pos t -ℤ pos b) (pos b -ℤ pos a)) ∙ sub_add (pos t) (pos b)
