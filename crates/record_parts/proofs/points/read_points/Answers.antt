-- `read_points` meets its contract: a law of points answers each return.
use Rattle.record_parts.specs.Fields.{ratios_by}
use Rattle.record_parts.proofs.Fields.{passed_on, refused_first}
use Rattle.record_parts.proofs.points.ReadPoints.{PositionsPast, form_past, points_ratios, points_found}
use Rattle.record_parts.proofs.points.read_points.Goals as goal

pub returns-in_err-from : goal.returns-in_err-from
returns-in_err-from c = passed_on _ c.from_residual.result c.from_residual.ensures.1 (refused_first _ c.in_err-from.ensures)

pub returns-in_err-end : goal.returns-in_err-end
returns-in_err-end c =
    let past : PositionsPast c.args.input.now c.args.positions.now c.args.count c.args.place c.args.at c.form_at-form.result c.in_ok-from.from c.read_positions.new.out =
    record { count = c.requires.0; form = form_past c.requires.0 c.form_at-form.ensures; read = c.in_ok-from.ensures } in
    passed_on _ c.from_residual-in_err-end.result c.from_residual-in_err-end.ensures.1 (points_ratios past (ratios_by c.args.reading) c.args.ratios.now c.in_err-end.ensures)

pub returns : goal.returns
returns c =
    let past : PositionsPast c.args.input.now c.args.positions.now c.args.count c.args.place c.args.at c.form_at-form.result c.in_ok-from.from c.read_positions.new.out =
    record { count = c.requires.0; form = form_past c.requires.0 c.form_at-form.ensures; read = c.in_ok-from.ensures } in
    points_found past (ratios_by c.args.reading) c.args.ratios.now c.in_ok-end.end c.read_ratios.new.out c.in_ok-end.ensures
