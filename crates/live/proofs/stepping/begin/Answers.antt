-- `live::stepping::begin` meets its contract.
use Rattle.std.proofs.Common.{[]}
use Rattle.ratio_format.proofs.Stepping.{made_good, made-refused}
use Rattle.live.proofs.stepping.begin.Goals as goal

pub returns-then-count-clause-answer : goal.returns-then-count-clause-answer
returns-then-count-clause-answer c =
    let m = made-refused c.args.count [] c.if-count.true in rw (m.0, m.2, c.at.ensures)

pub returns-clause-answer : goal.returns-clause-answer
returns-clause-answer c =
    let m = made_good c.args.count [] c.if-count.false in rw (m.0, m.2, c.before_first.ensures)
