-- `move_into` meets its contract: the front is refused, or the points decide.
use Rattle.record_codec.proofs.mover.Movings.{moves_err}
use Rattle.record_codec.proofs.mover.move_into.Goals as goal

pub returns-in_err-front : goal.returns-in_err-front
returns-in_err-front c = moves_err c.args.form c.args.input.now c.args.out.now c.args.out.now c.from_residual.result c.from_residual.ensures.1 c.in_err-front.ensures
