-- `put_moved` meets its contract: the fields up to and with the positions', and the ratios' field past them.
use mathlib.Core.List.{◌++◌}
use Rattle.std.specs.Prelude.{Some, None}
use Rattle.position_codec.specs.Coded.{positions_of}
use Rattle.record_format.specs.Fields.{laid}
use Rattle.record_parts.specs.Leads.{lead_fields}
use Rattle.record_parts.proofs.putting.Recodings.{recoded-else, recoded_err}
use Rattle.outputs.proofs.Outputs.Writers.{placed_then}
use Rattle.record_codec.proofs.mover.Movings.{longer}
use Rattle.record_codec.proofs.mover.put_moved.Goals as goal

pub returns-in_err-lead_end : goal.returns-in_err-lead_end
returns-in_err-lead_end c =
    let points = positions_of c.args.coded in
    let lead = laid (lead_fields c.args.rate c.args.side c.args.to points) in
    recoded_err c.args.to points (lead ++ c.args.field.now) c.args.out.now _ c.from_residual.result _ c.from_residual.ensures.1
    (recoded-else c.args.to points _ lead (lead ++ c.args.field.now) c.args.out.now c.put_recoded_lead.new.out c.args.out.now _ (longer lead c.args.field.now c.args.out.now)
    c.in_err-lead_end.ensures)

pub returns-in-Some : goal.returns-in-Some
returns-in-Some c =
    let points = positions_of c.args.coded in
    let lead = laid (lead_fields c.args.rate c.args.side c.args.to points) in (
      c.in_ok-lead_end.ensures.0,
      placed_then lead c.args.field.now c.args.out.now _ c.in_ok-lead_end.lead_end c.in_ok-lead_end.ensures.1 c.put_copy.new.out (Some c.in-Some.field_size) c.in-Some.ensures,
    )

pub returns-in-None : goal.returns-in-None
returns-in-None c =
    let points = positions_of c.args.coded in
    let lead = laid (lead_fields c.args.rate c.args.side c.args.to points) in (
      c.in_ok-lead_end.ensures.0,
      placed_then lead c.args.field.now c.args.out.now _ c.in_ok-lead_end.lead_end c.in_ok-lead_end.ensures.1 c.put_copy.new.out None c.in-None.ensures,
    )
