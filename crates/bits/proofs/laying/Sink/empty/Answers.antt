-- `Sink::empty` meets its contract.
use mathlib.Core.Path.{refl}
use Rattle.bits.proofs.Sinks.{start_held, start_placed}
use Rattle.bits.proofs.laying.Sink.empty.Goals as goal

pub returns : goal.returns
returns c = (refl, start_held _ record { at = refl; held = refl; width = refl }, start_placed)
