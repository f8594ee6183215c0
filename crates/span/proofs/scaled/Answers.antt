-- `scaled` meets its contract: its two parts fit, and their sum is the whole quotient.
use native.Mathlib.Omega.{arith}
use Rattle.span.proofs.Spans.Parts.{in_parts, whole_le, rest_lt}
use Rattle.span.proofs.scaled.Goals as goal

pub returns : goal.returns
returns c = (in_parts c.args.d c.args.rate c.requires.1, omega (arith, whole_le c.args.d c.args.rate c.requires.1, rest_lt c.args.d c.args.rate c.requires.1))
