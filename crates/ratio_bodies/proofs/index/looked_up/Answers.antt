-- `looked_up` meets its contract: no ratio with the same key is newer than the slot says.
use Rattle.std.proofs.Common.{ap, ℕ, get_or, arith}
use Rattle.ratio_bodies.proofs.Indexes.{indexed_found}
use Rattle.ratio_bodies.proofs.index.looked_up.Goals as goal

pub returns : goal.returns
returns c = (
  c.if-i-next-ge-SIZE.false,
  indexed_found c.args.newest.now c.args.ratios.now c.args.i (get_or c.args.newest.now c.key_of.result 0) (omega arith) c.requires.1
      (ap (λ (m : ℕ). get_or c.args.newest.now m 0) c.key_of.ensures.0) c.if-next-eq0.false c.if-i-next-ge-SIZE.false c.if-ratios-next.false,
)
