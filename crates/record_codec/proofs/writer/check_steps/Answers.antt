-- `check_steps` meets its contract, by the form.
use mathlib.Core.Path.{sym}
use Rattle.record_format.proofs.Writing.{steps-none}
use Rattle.record_codec.proofs.writer.check_steps.Goals as goal

pub returns-in-Wide : goal.returns-in-Wide
returns-in-Wide c = rw c.in-Wide.is (sym (steps-none c.args.positions.now), tt)
