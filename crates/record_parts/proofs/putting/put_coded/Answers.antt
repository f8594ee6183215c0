-- `put_coded` meets its contract, by what `put_body` answers.
use mathlib.Core.List.{[], ◌∷◌}
use mathlib.Core.Path.{refl}
use Rattle.std.specs.Prelude.{Some, None}
use native.Mathlib.Omega.{arith}
use Rattle.record_format.specs.Fields.{field_of}
use Rattle.record_format.proofs.Fields.{length-laid}
use Rattle.record_parts.specs.Fields.{tag_of, coded_by}
use Rattle.record_parts.proofs.putting.Writings.{field_none, field_done}
use Rattle.record_parts.proofs.putting.put_coded.Goals as goal

pub returns-then-out-lt-HEAD_SIZE : goal.returns-then-out-lt-HEAD_SIZE
returns-then-out-lt-HEAD_SIZE c = omega (arith, length-laid (field_of (tag_of c.args.coding) (coded_by c.args.coding c.args.numbers.now) ∷ []), c.if-out-lt-HEAD_SIZE.true)

pub returns-in_err-n : goal.returns-in_err-n
returns-in_err-n c =
    rw c.from_residual.ensures
    (field_none (tag_of c.args.coding) (coded_by c.args.coding c.args.numbers.now) c.args.out.now c.put_body.new.out None c.if-out-lt-HEAD_SIZE.false c.in_err-n.ensures refl)

pub returns : goal.returns
returns c =
    field_done (tag_of c.args.coding) (coded_by c.args.coding c.args.numbers.now) c.args.out.now c.put_body.new.out (Some c.in_ok-n.n) c.if-out-lt-HEAD_SIZE.false c.in_ok-n.ensures c.in_ok-n.n refl _ _
    c.tag_of.ensures c.put_head.ensures
