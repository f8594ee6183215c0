-- `Place::is_fill` meets its contract: fewer than eight bits are those to the end of the byte, and their number tells whether all are 0.
use mathlib.Core.Path.{sym}
use native.Mathlib.Omega.{arith}
use Rattle.bits.proofs.Packing.Fill.{fill_long, fill_by}
use Rattle.position_codec.proofs.read.Place.is_fill.Goals as goal

pub returns-then-left-gt7 : goal.returns-then-left-gt7
returns-then-left-gt7 c = sym (fill_long c.args.self.body.now c.args.self.at c.args.self.inside (omega arith))

pub returns : goal.returns
returns c = fill_by c.args.self.body.now c.args.self.at c.args.self.inside (omega arith) c.get_bits.result c.get_bits.ensures.0
