-- Laws of steps: how many there are, and the step of an index.
use mathlib.Core.List.{List, [], ◌∷◌}
use mathlib.Core.Path.{◌≡◌, refl, ap}
use Prim.Native.Nat.{ℕ, zero, suc, ◌-◌, ◌<◌}
use native.Mathlib.Omega.{arith}
use lib.IntN.{ℤ}
use lib.ListN.{length, get_or}
use Rattle.position_format.specs.Steps.{step_of, steps_from, steps}

pub length_from : (a b : ℕ) (ts : List ℕ) → length (steps_from a b ts) ≡ length ts
unfolding steps_from
length_from a b [] = refl
length_from a b (t ∷ ts) = ap suc (length_from b t ts)

pub length-steps : (ts : List ℕ) → length (steps ts) ≡ length ts - 2
unfolding steps
length-steps [] = refl
length-steps (a ∷ []) = refl
length-steps (a ∷ b ∷ ts) = omega (arith, length_from a b ts)

from_at : (d : ℤ) (a b : ℕ) (ts : List ℕ) (i : ℕ) → i < length ts → get_or (steps_from a b ts) i d ≡ step_of (get_or (a ∷ b ∷ ts) i 0) (get_or (b ∷ ts) i 0) (get_or ts i 0)
unfolding steps_from
from_at d a b [] i h = absurd (omega arith)
from_at d a b (t ∷ ts) zero h = refl
from_at d a b (t ∷ ts) (suc i) h = from_at d b t ts i (omega arith)

-- the step of index i is that of the positions of index i, i + 1 and i + 2
pub step_at_lem : (d : ℤ) (ts : List ℕ) (i : ℕ) → suc (suc i) < length ts → get_or (steps ts) i d ≡ step_of (get_or ts i 0) (get_or ts (suc i) 0) (get_or ts (suc (suc i)) 0)
unfolding steps
step_at_lem d [] i h = absurd (omega arith)
step_at_lem d (a ∷ []) i h = absurd (omega arith)
step_at_lem d (a ∷ b ∷ ts) i h = from_at d a b ts i (omega arith)
