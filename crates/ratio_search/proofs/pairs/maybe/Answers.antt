-- `maybe` meets its contract: bytes that are not 0 at a pair of places far apart leave no larger sum.
use Rattle.ratio_search.proofs.Apart.{apart_le}
use Rattle.ratio_search.proofs.pairs.maybe.Goals as goal

pub returns-then-one_zero : goal.returns-then-one_zero
returns-then-one_zero c = λ e.
    let n = c.one_zero-then-one_zero.ensures e in
    apart_le c.args.x c.args.p.sum c.args.p.c c.args.p.d c.args.p.second n.0 n.1

pub returns-else-one_zero : goal.returns-else-one_zero
returns-else-one_zero c = λ e.
    let n = c.one_zero.ensures c.if-one_zero.false in
    apart_le c.args.x c.args.p.sum c.args.p.a c.args.p.b c.args.p.first n.0 n.1
