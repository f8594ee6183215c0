-- `Place::step` meets its contract: no bits are left, or it is by the word of those ahead.
use native.Mathlib.Omega.{arith}
use lib.ListN.{drop}
use Rattle.bits.specs.Packing.{bits}
use Rattle.bits.proofs.Packing.{length_left}
use Rattle.position_format.specs.Tables.{table_of}
use Rattle.position_format.proofs.Tables.{most_bits, form_sound}
use Rattle.position_codec.proofs.Found.StepFound.{found_none}
use Rattle.position_codec.proofs.read.Place.step.Goals as goal

pub returns-then-self : goal.returns-then-self
returns-then-self c = found_none 1 (most_bits c.args.form) (table_of c.args.form) (form_sound c.args.form).lengths (omega arith) (drop c.args.self.at (bits c.args.self.body.now)) (omega (arith, length_left c.args.self.body.now c.args.self.at))
