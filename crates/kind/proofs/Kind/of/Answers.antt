-- `Kind::of` meets its contract: each return is one of the three places of the bits without their sign.
use mathlib.Core.Path.{sym, ap}
use native.Mathlib.Omega.{arith}
use Rattle.kind.specs.Kinds.{kind_at}
use Rattle.kind.proofs.Claims.Values.{value_above, value_equal, value_not_nan, value_below}
use Rattle.kind.proofs.Kind.of.Goals as goal

pub returns-in-9218868437227405312 : goal.returns-in-9218868437227405312
returns-in-9218868437227405312 c =
    let n = c.args.ratio in sym (ap (kind_at n) (value_equal n c.in-9218868437227405312.is))

pub returns-then-magnitude-gt-INFINITY : goal.returns-then-magnitude-gt-INFINITY
returns-then-magnitude-gt-INFINITY c =
    let n = c.args.ratio in sym (ap (kind_at n) (value_above n c.if-magnitude-gt-INFINITY.true))

pub float_from_bits-result : goal.float_from_bits-result
float_from_bits-result c = value_not_nan c.args.ratio c.if-magnitude-gt-INFINITY.false

pub returns-in_default-2 : goal.returns-in_default-2
returns-in_default-2 c = value_below c.args.ratio (omega arith) (omega arith)
