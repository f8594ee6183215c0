-- `check_old_steps` meets its contract, by the first step outside.
use mathlib.Core.Path.{sym}
use native.Mathlib.Omega.{arith}
use Rattle.record_format.proofs.Writing.{steps_far, steps_near}
use Rattle.record_parts.proofs.Fields.{refused_at}
use Rattle.record_codec.proofs.writer.check_old_steps.Goals as goal

pub returns-in-Some : goal.returns-in-Some
returns-in-Some c =
    refused_at 5 c.in-Some.outside c.at.ensures (λ z. omega arith) (rw c.in-Some.ensures.1 (steps_far c.args.positions.now c.in-Some.ensures.0))

pub returns-in-None : goal.returns-in-None
returns-in-None c = (sym (steps_near c.args.positions.now (omega (arith, c.in-None.ensures))), tt)
