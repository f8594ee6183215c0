-- `sum_of` meets its contract: the two counts of the xor together.
use mathlib.Core.Path.{ap₂}
use Prim.Native.Nat.{ℕ, ◌+◌}
use Rattle.ratio_format.specs.Zeros.{sum_of}
use Rattle.ratio_window.proofs.sum_of.Goals as goal

pub returns : goal.returns
unfolding sum_of
returns c = ap₂ (λ (a b : ℕ). a + b) c.lead_zeros.ensures.0 c.trail_zeros.ensures.0
