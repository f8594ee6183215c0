-- `put_number` meets its contract: the head, and then the body past it.
use Rattle.record_parts.proofs.putting.Writings.{number_none, number_done, number_on}
use Rattle.record_parts.proofs.putting.put_number.Goals as goal

pub returns-then-out-n : goal.returns-then-out-n
returns-then-out-n c = number_none c.args.out.now c.args.tag c.args.n c.args.x c.if-out-n.true

pub returns : goal.returns
returns c = number_done c.args.out.now _ c.args.tag c.args.n c.args.x c.if-out-n.false
    (number_on c.args.out.now _ _ c.args.tag c.args.n c.args.x c.put_head.ensures c.put_bytes.ensures)
