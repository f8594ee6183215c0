-- `put_lead` meets its contract: the front, and the positions' field past it.
use mathlib.Core.List.{[], ◌∷◌}
use mathlib.Core.Path.{refl}
use Rattle.std.specs.Prelude.{Some, None}
use lib.ListN.{length}
use Rattle.record_format.specs.Runs.{front_fields, positions_field}
use Rattle.record_parts.specs.Leads.{lead_fields}
use Rattle.record_parts.proofs.putting.Writings.{first_short, FirstLaid, first-laid_then}
use Rattle.record_parts.proofs.putting.put_lead.Goals as goal

pub returns-in_err-front_end : goal.returns-in_err-front_end
returns-in_err-front_end c =
    let front = front_fields c.args.rate c.args.side (length c.args.positions.now) in
    rw c.from_residual.ensures (first_short front (positions_field c.args.form c.args.positions.now ∷ []) refl c.args.out.now c.in_err-front_end.ensures)

pub returns-in_err-field_size : goal.returns-in_err-field_size
returns-in_err-field_size c =
    let front = front_fields c.args.rate c.args.side (length c.args.positions.now) in
    let field = positions_field c.args.form c.args.positions.now ∷ [] in
    let all = lead_fields c.args.rate c.args.side c.args.form c.args.positions.now in
    let first : FirstLaid front field all c.in_ok-front_end.front_end c.args.out.now c.put_front.new.out = record { both = refl; put = c.in_ok-front_end.ensures } in
    rw c.from_residual-in_err-field_size.ensures (first-laid_then first c.put_coded.new.out None c.in_err-field_size.ensures)

pub returns : goal.returns
returns c =
    let front = front_fields c.args.rate c.args.side (length c.args.positions.now) in
    let field = positions_field c.args.form c.args.positions.now ∷ [] in
    let all = lead_fields c.args.rate c.args.side c.args.form c.args.positions.now in
    let first : FirstLaid front field all c.in_ok-front_end.front_end c.args.out.now c.put_front.new.out = record { both = refl; put = c.in_ok-front_end.ensures } in
    first-laid_then first c.put_coded.new.out (Some c.in_ok-field_size.field_size) c.in_ok-field_size.ensures
