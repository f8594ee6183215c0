-- `Place::field` meets its contract: the field ends where the code does.
use native.Mathlib.Omega.{arith}
use Rattle.bits.proofs.Packing.{length_left}
use Rattle.position_codec.proofs.read.Place.field.Goals as goal

pub overflow_add-self : goal.overflow_add-self
overflow_add-self c = omega (arith, c.args.self.short, c.requires.1, length_left c.args.self.body.now c.args.self.at)

pub get_bits-requires : goal.get_bits-requires
get_bits-requires c =
    let left = length_left c.args.self.body.now c.args.self.at in
    (c.requires.3, omega (arith, c.requires.0, c.requires.1, c.requires.2), omega (arith, c.args.self.short, c.requires.1))
