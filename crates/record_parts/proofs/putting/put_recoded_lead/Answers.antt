-- `put_recoded_lead` meets its contract: the front, and the field of the recoded positions past it.
use mathlib.Core.List.{[], ◌∷◌}
use Rattle.std.specs.Prelude.{Some, None}
use Rattle.position_codec.specs.Coded.{positions_of}
use Rattle.record_format.specs.Fields.{laid}
use Rattle.record_format.specs.Runs.{front_fields, positions_field}
use Rattle.record_parts.specs.Leads.{lead_fields}
use Rattle.record_parts.proofs.putting.Writings.{first_short, FirstLaid, first-laid_then}
use Rattle.record_parts.proofs.putting.Recodings.{recoded_lead, recoded-else, recoded_err}
use Rattle.record_parts.proofs.putting.put_recoded_lead.Goals as goal

pub returns-in_default : goal.returns-in_default
returns-in_default c =
    let points = positions_of c.args.coded in
    c.recode_nowhere.ensures (laid (lead_fields c.args.rate c.args.side c.args.to points)) c.args.out.now _
    (first_short (front_fields c.args.rate c.args.side c.args.coded.count) (positions_field c.args.to points ∷ [])
    (recoded_lead c.args.rate c.args.side c.args.coded c.args.to) c.args.out.now c.in_default.ensures)

pub returns-in_err-field_size : goal.returns-in_err-field_size
returns-in_err-field_size c =
    let points = positions_of c.args.coded in
    let field = positions_field c.args.to points ∷ [] in
    let all = lead_fields c.args.rate c.args.side c.args.to points in
    let first : FirstLaid (front_fields c.args.rate c.args.side c.args.coded.count) field all c.in-Some.front_end c.args.out.now c.put_front.new.out = record {
      both = recoded_lead c.args.rate c.args.side c.args.coded c.args.to;
      put = c.in-Some.ensures;
    } in
    recoded_err c.args.to points (laid all) c.args.out.now _ c.from_residual.result _ c.from_residual.ensures.1
    (recoded-else c.args.to points _ (laid field) (laid all) _ c.put_recoded.new.out c.args.out.now _ (first-laid_then first c.put_recoded.new.out None) c.in_err-field_size.ensures)

pub returns : goal.returns
returns c =
    let points = positions_of c.args.coded in
    let field = positions_field c.args.to points ∷ [] in
    let all = lead_fields c.args.rate c.args.side c.args.to points in
    let first : FirstLaid (front_fields c.args.rate c.args.side c.args.coded.count) field all c.in-Some.front_end c.args.out.now c.put_front.new.out = record {
      both = recoded_lead c.args.rate c.args.side c.args.coded c.args.to;
      put = c.in-Some.ensures;
    } in
    (c.in_ok-field_size.ensures.0, first-laid_then first c.put_recoded.new.out (Some c.in_ok-field_size.field_size) c.in_ok-field_size.ensures.1)
