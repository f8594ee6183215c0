-- `read_positions` meets its contract, by what `has_many`, `read_field` and `get_positions` find.
use native.Mathlib.Omega.{arith}
use Rattle.record_parts.proofs.Fields.{passed_on, refused_at}
use Rattle.record_parts.proofs.front.ReadFront.{place_near}
use Rattle.record_parts.proofs.coding.Codings.{many_refused, positions_coded, body_order, coded-refused, coded_none, coded-found}
use Rattle.record_parts.proofs.coding.read_positions.Goals as goal

pub at-requires : goal.at-requires
at-requires c = omega (arith, place_near c.requires.1)

pub returns-then-has_many : goal.returns-then-has_many
returns-then-has_many c =
    refused_at 15 c.args.place c.at.ensures (λ z. omega arith)
    (many_refused c.args.input.now c.args.form c.args.count c.args.at c.requires.0 c.requires.1.next c.requires.1.counted c.has_many.result c.has_many.ensures c.if-has_many.true
    (omega (arith, c.requires.1.counted, c.requires.1.few)) c.args.place c.requires.1.stands)

pub returns-in_err-field : goal.returns-in_err-field
returns-in_err-field c =
    let coded = positions_coded c.args.input.now c.args.form c.args.count c.args.at c.requires.0 c.requires.1.next c.requires.1.counted c.has_many.result c.has_many.ensures c.if-has_many.false in
    passed_on _ c.from_residual.result c.from_residual.ensures.1 (coded-refused coded c.in_err-field.ensures)

pub slice_bounds-get_positions-count : goal.slice_bounds-get_positions-count
slice_bounds-get_positions-count c = body_order c.args.input.now c.args.at c.in_ok-field.field c.in_ok-field.ensures.1

pub slice_bounds-get_positions-start : goal.slice_bounds-get_positions-start
slice_bounds-get_positions-start c = body_order c.args.input.now c.args.at c.in_ok-field.field c.in_ok-field.ensures.1

pub returns-then-not-get_positions : goal.returns-then-not-get_positions
returns-then-not-get_positions c =
    let coded = positions_coded c.args.input.now c.args.form c.args.count c.args.at c.requires.0 c.requires.1.next c.requires.1.counted c.has_many.result c.has_many.ensures c.if-has_many.false in
    coded_none coded c.in_ok-field.field c.in_ok-field.ensures c.args.count c.get_positions.result c.args.out.now _ c.get_positions.ensures c.if-not-get_positions.true
    c.at-then-not-get_positions.ensures

pub returns : goal.returns
returns c =
    let coded = positions_coded c.args.input.now c.args.form c.args.count c.args.at c.requires.0 c.requires.1.next c.requires.1.counted c.has_many.result c.has_many.ensures c.if-has_many.false in
    coded-found coded c.in_ok-field.field c.in_ok-field.ensures c.args.count c.get_positions.result c.args.out.now _ c.get_positions.ensures c.if-not-get_positions.false
