-- `put_recoded` meets its contract, by what `recode_positions` answers.
use mathlib.Core.List.{[], ◌∷◌}
use native.Mathlib.Omega.{arith}
use Rattle.position_codec.specs.Coded.{positions_of}
use Rattle.record_format.specs.Fields.{laid}
use Rattle.record_format.specs.Runs.{positions_field}
use Rattle.record_format.proofs.Fields.{length-laid}
use Rattle.record_parts.proofs.putting.Recodings.{recoded_err, recoded_short, recoded_done}
use Rattle.record_parts.proofs.putting.put_recoded.Goals as goal

pub returns-then-out-lt-HEAD_SIZE : goal.returns-then-out-lt-HEAD_SIZE
returns-then-out-lt-HEAD_SIZE c =
    let points = positions_of c.args.coded in
    let f = positions_field c.args.to points ∷ [] in
    c.recode_nowhere.ensures (laid f) c.args.out.now c.args.out.now (omega (arith, length-laid f, c.if-out-lt-HEAD_SIZE.true))

pub returns-in_err-n : goal.returns-in_err-n
returns-in_err-n c =
    let points = positions_of c.args.coded in
    recoded_err c.args.to points (laid (positions_field c.args.to points ∷ [])) c.args.out.now _ c.from_residual.result _ c.from_residual.ensures.1
    (recoded_short c.args.to points c.args.out.now c.recode_positions.new.out c.if-out-lt-HEAD_SIZE.false _ _ c.in_err-n.ensures)

pub returns : goal.returns
returns c =
    let points = positions_of c.args.coded in
    recoded_done c.args.to points c.args.out.now c.recode_positions.new.out c.if-out-lt-HEAD_SIZE.false c.in_ok-n.n c.in_ok-n.ensures _ _ c.form_tag.ensures c.put_head.ensures
