-- `read_side` meets its contract, by what `has_tag` and `read_number` find.
use mathlib.Core.Path.{sym, ◌∙◌}
use Rattle.record_parts.proofs.Fields.{passed_on}
use Rattle.record_parts.proofs.front.ReadFront.{side_seen, side_absent, side_first, side_other, side_good}
use Rattle.record_parts.proofs.front.read_side.Goals as goal

pub returns-then-not-has_tag : goal.returns-then-not-has_tag
returns-then-not-has_tag c =
    side_absent c.args.input.now c.args.at c.requires.0 c.requires.1 (sym (side_seen c.args.input.now c.args.at c.requires.0 c.has_tag.ensures) ∙ c.if-not-has_tag.true)

pub returns-in_err-found : goal.returns-in_err-found
returns-in_err-found c =
    passed_on _ c.from_residual.result c.from_residual.ensures.1
    (side_first c.args.input.now c.args.at c.requires.0 (sym (side_seen c.args.input.now c.args.at c.requires.0 c.has_tag.ensures) ∙ c.if-not-has_tag.false)
    c.in_err-found.ensures)

pub returns-then-not-is_side : goal.returns-then-not-is_side
returns-then-not-is_side c =
    side_other c.args.input.now c.args.at c.requires.0 (sym (side_seen c.args.input.now c.args.at c.requires.0 c.has_tag.ensures) ∙ c.if-not-has_tag.false)
    c.in_ok-found.found c.in_ok-found.ensures c.at.ensures (sym c.is_side.ensures ∙ c.if-not-is_side.true)

pub returns : goal.returns
returns c =
    side_good c.args.input.now c.args.at c.requires.0 (sym (side_seen c.args.input.now c.args.at c.requires.0 c.has_tag.ensures) ∙ c.if-not-has_tag.false)
    c.in_ok-found.found c.in_ok-found.ensures (sym c.is_side.ensures ∙ c.if-not-is_side.false)
