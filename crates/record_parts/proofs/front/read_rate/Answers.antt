-- `read_rate` meets its contract, by what `read_number` finds.
use mathlib.Core.Path.{sym, ◌∙◌}
use Rattle.record_parts.proofs.Fields.{passed_on, refused_first}
use Rattle.record_parts.proofs.front.ReadFront.{rate_unlisted, rate_other, rate_good}
use Rattle.record_parts.proofs.front.read_rate.Goals as goal

pub returns-in_err-found : goal.returns-in_err-found
returns-in_err-found c = passed_on _ c.from_residual.result c.from_residual.ensures.1 (refused_first _ c.in_err-found.ensures)

pub returns-then-not-is_rate : goal.returns-then-not-is_rate
returns-then-not-is_rate c =
    rate_unlisted c.args.expected c.args.input.now c.in_ok-found.found c.in_ok-found.ensures c.at.ensures (sym c.is_rate.ensures ∙ c.if-not-is_rate.true)

pub returns-then-differs : goal.returns-then-differs
returns-then-differs c =
    rate_other c.args.expected c.args.input.now c.in_ok-found.found c.in_ok-found.ensures (sym c.is_rate.ensures ∙ c.if-not-is_rate.false) c.at-then-differs.ensures
    (sym c.differs.ensures ∙ c.if-differs.true)

pub returns : goal.returns
returns c =
    rate_good c.args.expected c.args.input.now c.in_ok-found.found c.in_ok-found.ensures (sym c.is_rate.ensures ∙ c.if-not-is_rate.false)
    (sym c.differs.ensures ∙ c.if-differs.false)
