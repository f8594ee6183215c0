-- `get_strict` meets its contract: the body is a coding where all that was taken is as many ratios as the count, and every byte; with room they were taken
-- into the output.
use mathlib.Core.Bool.{not}
use mathlib.Core.List.{List}
use mathlib.Core.Option.{Option}
use mathlib.Core.Path.{◌≡◌, sym, ap, subst, ◌∙◌}
use Prim.Native.Nat.{ℕ}
use lib.Dec.{eqb}
use lib.ListN.{length}
use Rattle.lists.specs.Compare.{both}
use Rattle.lists.specs.Optional.{missing}
use Rattle.lists.proofs.Below.{below_of}
use Rattle.ratio_format.specs.Bodies.{strict_ratios, strict_taken, whole_taken}
use Rattle.ratio_format.proofs.Bodies.Taken.{strict_taken_lem}
use Rattle.ratio_bodies.specs.declared.Took.{Took}
use Rattle.ratio_bodies.proofs.Taking.{filled_whole}
use Rattle.record_parts.specs.Fields.{FoundInto}
use Rattle.record_parts.proofs.coding.Codings.{filled_into, short_into, whole-found}
use Rattle.record_parts.proofs.coding.get_strict.Goals as goal

pub returns-then-out-count : goal.returns-then-out-count
returns-then-out-count c =
    let taken = strict_taken_lem c.args.count c.args.body.now (below_of 256 c.args.body.now (λ i. (c.shared_slice_known-1.given i).fits)) in
    let is : c.whole.result ≡ not (missing (strict_ratios c.args.count c.args.body.now)) =
    whole-found c.args.count c.args.body.now (strict_taken c.args.count c.args.body.now) c.whole.result
    (c.whole.ensures ∙ ap (λ (t : Took). both (eqb t.count c.args.count) (eqb t.used (length c.args.body.now))) c.count_strict-counted.ensures)
    ∙ ap (λ (x : Option (List ℕ)). not (missing x)) (sym taken) in
    short_into (strict_ratios c.args.count c.args.body.now) c.args.count c.whole.result c.args.out.now c.args.out.now c.if-out-count.true is

pub returns : goal.returns
returns c =
    let taken = strict_taken_lem c.args.count c.args.body.now (below_of 256 c.args.body.now (λ i. (c.shared_slice_known-1.given i).fits)) in
    subst (λ (x : Option (List ℕ)). FoundInto x c.args.count c.whole-2.result c.args.out.now c.get_strict-took.new.out) (sym taken)
    (filled_into (whole_taken c.args.count c.args.body.now (strict_taken c.args.count c.args.body.now)) c.args.count c.whole-2.result c.args.out.now c.get_strict-took.new.out
    (filled_whole c.args.count c.args.body.now (strict_taken c.args.count c.args.body.now) c.get_strict-took.result c.whole-2.result c.args.out.now c.get_strict-took.new.out c.get_strict-took.ensures c.whole-2.ensures))
