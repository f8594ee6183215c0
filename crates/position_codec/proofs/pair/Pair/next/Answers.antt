-- `Pair::next` meets its contract: the sum is made only where it is in range.
use native.Mathlib.Omega.{arith}
use Rattle.position_codec.proofs.read.NextPosition.{position-none, total_back, position_small, position_is}
use Rattle.position_codec.proofs.pair.Pair.next.Goals as goal

pub returns-then-not-contains : goal.returns-then-not-contains
returns-then-not-contains c = position-none c.args.self.before c.args.self.last c.args.self.before_small c.args.self.last_small c.args.z c.ranges.z _ _ _ _ c.new.ensures.start c.new.ensures.end c.new.ensures.exhausted c.contains.ensures.value c.if-not-contains.true

pub overflow_cast-result : goal.overflow_cast-result
overflow_cast-result c = rw (total_back c.args.self.before c.args.self.last c.args.self.before_small c.args.self.last_small c.args.z c.ranges.z _ _ _ _ c.new.ensures.start c.new.ensures.end c.new.ensures.exhausted c.contains.ensures.value c.if-not-contains.false)
    (tt, record { fits = omega (arith, position_small c.args.self.before c.args.self.last c.args.self.before_small c.args.self.last_small c.args.z c.ranges.z _ _ _ _ c.new.ensures.start c.new.ensures.end c.new.ensures.exhausted c.contains.ensures.value c.if-not-contains.false) })

pub returns : goal.returns
returns c = position_is c.args.self.before c.args.self.last c.args.self.before_small c.args.self.last_small c.args.z c.ranges.z _ _ _ _ c.new.ensures.start c.new.ensures.end c.new.ensures.exhausted c.contains.ensures.value c.if-not-contains.false
