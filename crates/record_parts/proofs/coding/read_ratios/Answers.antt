-- `read_ratios` meets its contract, by what `read_field` and `get_ratios` find.
use Rattle.record_parts.proofs.Fields.{passed_on}
use Rattle.record_parts.proofs.coding.Codings.{ratios_coded, body_order, coded-refused, coded_none, coded-found}
use Rattle.record_parts.proofs.coding.read_ratios.Goals as goal

pub returns-in_err-field : goal.returns-in_err-field
returns-in_err-field c =
    passed_on _ c.from_residual.result c.from_residual.ensures.1
    (coded-refused (ratios_coded c.args.reading c.args.input.now c.args.at c.args.count c.requires.0) c.in_err-field.ensures)

pub slice_bounds-get_ratios-count : goal.slice_bounds-get_ratios-count
slice_bounds-get_ratios-count c = body_order c.args.input.now c.args.at c.in_ok-field.field c.in_ok-field.ensures.1

pub slice_bounds-get_ratios-start : goal.slice_bounds-get_ratios-start
slice_bounds-get_ratios-start c = body_order c.args.input.now c.args.at c.in_ok-field.field c.in_ok-field.ensures.1

pub returns-then-not-get_ratios : goal.returns-then-not-get_ratios
returns-then-not-get_ratios c =
    coded_none (ratios_coded c.args.reading c.args.input.now c.args.at c.args.count c.requires.0) c.in_ok-field.field c.in_ok-field.ensures
    c.args.count c.get_ratios.result c.args.out.now _ c.get_ratios.ensures c.if-not-get_ratios.true c.at.ensures

pub returns : goal.returns
returns c =
    coded-found (ratios_coded c.args.reading c.args.input.now c.args.at c.args.count c.requires.0) c.in_ok-field.field c.in_ok-field.ensures
    c.args.count c.get_ratios.result c.args.out.now _ c.get_ratios.ensures c.if-not-get_ratios.false
