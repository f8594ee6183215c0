-- `put_side` meets its contract: nothing, or what `put_number` puts.
use Rattle.record_parts.proofs.putting.Writings.{side_none}
use Rattle.record_parts.proofs.putting.put_side.Goals as goal

pub returns-then-side-eq0 : goal.returns-then-side-eq0
returns-then-side-eq0 c = side_none c.args.side c.if-side-eq0.true c.args.out.now
