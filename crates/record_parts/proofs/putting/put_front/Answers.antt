-- `put_front` meets its contract: each writer puts its field past those before.
use mathlib.Core.List.{[], ◌∷◌, ◌++◌}
use mathlib.Core.Path.{refl}
use Rattle.std.specs.Prelude.{Some, None}
use Rattle.record_format.specs.Runs.{rate_field, count_field, side_fields, front_fields}
use Rattle.record_parts.proofs.putting.Writings.{first_short, FirstLaid, first-laid_then}
use Rattle.record_parts.proofs.putting.put_front.Goals as goal

pub returns-in_err-rate_end : goal.returns-in_err-rate_end
returns-in_err-rate_end c =
    rw c.from_residual.ensures
    (first_short (rate_field c.args.rate ∷ []) (side_fields c.args.side ++ (count_field c.args.count ∷ [])) refl c.args.out.now c.in_err-rate_end.ensures)

pub returns-in_err-side_size : goal.returns-in_err-side_size
returns-in_err-side_size c =
    let fs = rate_field c.args.rate ∷ [] in
    let gs = side_fields c.args.side in
    let first : FirstLaid fs gs (fs ++ gs) c.in_ok-rate_end.rate_end c.args.out.now c.put_number.new.out = record { both = refl; put = c.in_ok-rate_end.ensures } in
    rw c.from_residual-in_err-side_size.ensures
    (first_short (fs ++ gs) (count_field c.args.count ∷ []) refl c.args.out.now (first-laid_then first c.put_side.new.out None c.in_err-side_size.ensures))

pub returns-in_err-count_size : goal.returns-in_err-count_size
returns-in_err-count_size c =
    let fs = rate_field c.args.rate ∷ [] in
    let gs = side_fields c.args.side in
    let hs = count_field c.args.count ∷ [] in
    let first : FirstLaid fs gs (fs ++ gs) c.in_ok-rate_end.rate_end c.args.out.now c.put_number.new.out = record { both = refl; put = c.in_ok-rate_end.ensures } in
    let both : FirstLaid (fs ++ gs) hs (front_fields c.args.rate c.args.side c.args.count) _ c.args.out.now _ =
    record { both = refl; put = first-laid_then first c.put_side.new.out (Some c.in_ok-side_size.side_size) c.in_ok-side_size.ensures } in
    rw c.from_residual-in_err-count_size.ensures (first-laid_then both c.put_number-2.new.out None c.in_err-count_size.ensures)

pub returns : goal.returns
returns c =
    let fs = rate_field c.args.rate ∷ [] in
    let gs = side_fields c.args.side in
    let hs = count_field c.args.count ∷ [] in
    let first : FirstLaid fs gs (fs ++ gs) c.in_ok-rate_end.rate_end c.args.out.now c.put_number.new.out = record { both = refl; put = c.in_ok-rate_end.ensures } in
    let both : FirstLaid (fs ++ gs) hs (front_fields c.args.rate c.args.side c.args.count) _ c.args.out.now _ =
    record { both = refl; put = first-laid_then first c.put_side.new.out (Some c.in_ok-side_size.side_size) c.in_ok-side_size.ensures } in
    first-laid_then both c.put_number-2.new.out (Some c.in_ok-count_size.count_size) c.in_ok-count_size.ensures
