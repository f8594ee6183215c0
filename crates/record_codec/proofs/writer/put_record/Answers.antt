-- `put_record` meets its contract: the fields up to the positions', and then the ratios' field past them.
use mathlib.Core.List.{[], ◌∷◌}
use Rattle.std.specs.Prelude.{Some, None}
use Rattle.record_codec.specs.Given.{run_of}
use Rattle.record_format.specs.Runs.{fields_of, record_of, ratios_field}
use Rattle.record_parts.specs.Leads.{lead_fields}
use Rattle.record_parts.proofs.putting.Writings.{first_short, FirstLaid, first-laid_then}
use Rattle.record_codec.proofs.writer.CheckRun.{lead_then}
use Rattle.record_codec.proofs.writer.put_record.Goals as goal

pub returns-in_err-lead_end : goal.returns-in_err-lead_end
unfolding record_of
returns-in_err-lead_end c =
    let lead = lead_fields c.args.run.now.rate c.args.run.now.side c.args.run.now.form c.args.run.now.positions.now in
    rw c.from_residual.ensures
    (first_short lead (ratios_field c.args.run.now.ratios.now ∷ []) (lead_then c.args.run.now.rate c.args.run.now.side c.args.run.now.form c.args.run.now.positions.now c.args.run.now.ratios.now) c.args.out.now
    c.in_err-lead_end.ensures)

pub returns-in_err-field_size : goal.returns-in_err-field_size
unfolding record_of
returns-in_err-field_size c =
    let lead = lead_fields c.args.run.now.rate c.args.run.now.side c.args.run.now.form c.args.run.now.positions.now in
    let all = fields_of (run_of c.args.run.now) in
    let first : FirstLaid lead (ratios_field c.args.run.now.ratios.now ∷ []) all c.in_ok-lead_end.lead_end c.args.out.now c.put_lead.new.out = record {
      both = lead_then c.args.run.now.rate c.args.run.now.side c.args.run.now.form c.args.run.now.positions.now c.args.run.now.ratios.now;
      put = c.in_ok-lead_end.ensures;
    } in
    rw c.from_residual-in_err-field_size.ensures (first-laid_then first c.put_coded.new.out None c.in_err-field_size.ensures)

pub returns : goal.returns
unfolding record_of
returns c =
    let lead = lead_fields c.args.run.now.rate c.args.run.now.side c.args.run.now.form c.args.run.now.positions.now in
    let all = fields_of (run_of c.args.run.now) in
    let first : FirstLaid lead (ratios_field c.args.run.now.ratios.now ∷ []) all c.in_ok-lead_end.lead_end c.args.out.now c.put_lead.new.out = record {
      both = lead_then c.args.run.now.rate c.args.run.now.side c.args.run.now.form c.args.run.now.positions.now c.args.run.now.ratios.now;
      put = c.in_ok-lead_end.ensures;
    } in
    first-laid_then first c.put_coded.new.out (Some c.in_ok-field_size.field_size) c.in_ok-field_size.ensures
