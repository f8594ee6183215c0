-- `open_front` meets its contract, by how the front and the head past it turn out.
use Rattle.record_codec.proofs.mover.Movings.{opened_err, opened_form}
use Rattle.record_codec.proofs.mover.open_front.Goals as goal

pub returns-in_err-front : goal.returns-in_err-front
returns-in_err-front c = opened_err c.args.form c.args.input.now c.from_residual.result c.from_residual.ensures.1 c.in_err-front.ensures

pub returns-then-is_in : goal.returns-then-is_in
returns-then-is_in c = opened_form c.args.form c.args.input.now c.in_ok-front.front c.in_ok-front.ensures c.is_in.ensures c.if-is_in.true c.at.ensures
