-- `get_raw` meets its contract: eight bytes are 64 bits.
use Rattle.lists.proofs.Below.{below_of}
use Rattle.position_format.proofs.Points.Stands.{raw_short, raw_high, raw_stands}
use Rattle.position_codec.proofs.read.get_raw.Goals as goal

pub returns-then-body-at : goal.returns-then-body-at
returns-then-body-at c = λ rs a b. raw_short rs c.args.body.now c.args.i c.requires a b c.if-body-at.true

pub returns-then-t-gt-MAX_POSITION : goal.returns-then-t-gt-MAX_POSITION
returns-then-t-gt-MAX_POSITION c = λ rs a b.
    raw_high rs c.args.body.now c.args.i c.requires a b (below_of 256 c.args.body.now (λ j. (c.type_inv.body j).fits))
    c.if-body-at.false c.get_bytes-t.result c.get_bytes-t.ensures.0 c.get_bytes-t.ensures.1 c.if-t-gt-MAX_POSITION.true

pub returns : goal.returns
returns c = λ rs a b.
    raw_stands rs c.args.body.now c.args.i c.requires a b (below_of 256 c.args.body.now (λ j. (c.type_inv.body j).fits))
    c.if-body-at.false c.get_bytes-t.result c.get_bytes-t.ensures.0 c.if-t-gt-MAX_POSITION.false
