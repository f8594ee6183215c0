-- `get_open` meets its contract: the body is read where all that was taken is as many ratios as the count, and every byte.
use mathlib.Core.List.{List}
use mathlib.Core.Option.{Option}
use mathlib.Core.Path.{sym, subst}
use Prim.Native.Nat.{ℕ}
use Rattle.ratio_format.specs.Bodies.{open_taken, whole_taken}
use Rattle.ratio_format.proofs.Bodies.Taken.{open_taken_lem}
use Rattle.ratio_bodies.proofs.Taking.{filled_whole}
use Rattle.record_parts.specs.Fields.{FoundInto}
use Rattle.record_parts.proofs.coding.Codings.{filled_into}
use Rattle.record_parts.proofs.coding.get_open.Goals as goal

pub returns : goal.returns
returns c = subst (λ (x : Option (List ℕ)). FoundInto x c.args.count c.whole.result c.args.out.now c.get_open-took.new.out) (sym (open_taken_lem c.args.count c.args.body.now))
    (filled_into (whole_taken c.args.count c.args.body.now (open_taken c.args.count c.args.body.now)) c.args.count c.whole.result c.args.out.now c.get_open-took.new.out
    (filled_whole c.args.count c.args.body.now (open_taken c.args.count c.args.body.now) c.get_open-took.result c.whole.result c.args.out.now c.get_open-took.new.out c.get_open-took.ensures c.whole.ensures))
