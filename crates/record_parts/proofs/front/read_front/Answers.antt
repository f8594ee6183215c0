-- `read_front` meets its contract, by what `read_rate`, `read_side` and `read_count` find.
use Rattle.record_parts.proofs.Fields.{passed_on, refused_first}
use Rattle.record_parts.proofs.front.ReadFront.{front_side, front_count, front-found}
use Rattle.record_parts.proofs.front.read_front.Goals as goal

pub returns-in_err-rate : goal.returns-in_err-rate
returns-in_err-rate c = passed_on _ c.from_residual.result c.from_residual.ensures.1 (refused_first _ c.in_err-rate.ensures)

pub returns-in_err-side : goal.returns-in_err-side
returns-in_err-side c =
    passed_on _ c.from_residual-in_err-side.result c.from_residual-in_err-side.ensures.1
    (front_side c.args.expected c.args.input.now c.in_ok-rate.rate c.in_ok-rate.ensures c.in_err-side.ensures)

pub returns-in_err-count : goal.returns-in_err-count
returns-in_err-count c =
    passed_on _ c.from_residual-in_err-count.result c.from_residual-in_err-count.ensures.1
    (front_count c.args.expected c.args.input.now c.in_ok-rate.rate c.in_ok-rate.ensures c.in_ok-side.side c.in_ok-side.ensures c.in_err-count.ensures)

pub returns : goal.returns
returns c =
    front-found c.args.expected c.args.input.now c.in_ok-rate.rate c.in_ok-rate.ensures c.in_ok-side.side c.in_ok-side.ensures c.in_ok-count.count c.in_ok-count.ensures
