-- `read_count` meets its contract, by what `read_number` finds.
use Rattle.record_parts.proofs.Fields.{passed_on}
use Rattle.record_parts.proofs.front.ReadFront.{count_first, count_many, count_good}
use Rattle.record_parts.proofs.front.read_count.Goals as goal

pub returns-in_err-found : goal.returns-in_err-found
returns-in_err-found c = passed_on _ c.from_residual.result c.from_residual.ensures.1 (count_first c.args.input.now c.args.at c.requires.0 c.in_err-found.ensures)

pub returns-then-found-gt-MAX_POINTS : goal.returns-then-found-gt-MAX_POINTS
returns-then-found-gt-MAX_POINTS c =
    count_many c.args.input.now c.args.at c.requires.0 c.in_ok-found.found c.in_ok-found.ensures c.at.ensures c.if-found-gt-MAX_POINTS.true

pub returns : goal.returns
returns c = count_good c.args.input.now c.args.at c.requires.0 c.in_ok-found.found c.in_ok-found.ensures c.if-found-gt-MAX_POINTS.false
