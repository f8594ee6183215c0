-- `main` lends `respond` an output of zeros.
use mathlib.Core.Path.{refl}
use native.Mathlib.Omega.{arith}
use Rattle.move_record.specs.Printed.{blank_record}
use Rattle.move_record.proofs.main.Goals as goal

pub respond-outcome-requires : goal.respond-outcome-requires
unfolding blank_record
respond-outcome-requires c = (omega (arith, c.read_source-n.ensures.prefix_len.0, c.read_source-n.ensures.prefix_len.1, c.read_source-n.auto.input, c.input_room-input.ensures), refl, c.new-line.ensures)
