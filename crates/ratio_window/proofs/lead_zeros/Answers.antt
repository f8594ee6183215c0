-- `lead_zeros` meets its contract: the leading zero bits, eight to a byte.
use native.Mathlib.Omega.{arith}
use lib.Count.{leading_le}
use Rattle.ratio_format.proofs.Zeros.{lead_eighth}
use Rattle.ratio_window.proofs.lead_zeros.Goals as goal

pub returns : goal.returns
returns c = (lead_eighth c.args.x c.ranges.x.fits, omega (arith, leading_le 64 c.args.x))
