-- `trail_zeros` meets its contract: the trailing zero bits, eight to a byte.
use native.Mathlib.Omega.{arith}
use lib.Count.{trailing_le}
use Rattle.ratio_format.proofs.Zeros.{trail_eighth}
use Rattle.ratio_window.proofs.trail_zeros.Goals as goal

pub returns : goal.returns
returns c = (trail_eighth c.args.x, omega (arith, trailing_le 64 c.args.x))
