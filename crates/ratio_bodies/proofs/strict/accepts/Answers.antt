-- `accepts` meets its contract: the mark decides of a reference, the head of any other form.
use mathlib.Core.Path.{◌≡◌, sym, ap, ap₂, ◌∙◌}
use mathlib.Core.List.{List}
use Prim.Native.Nat.{ℕ}
use lib.Dec.{eqb}
use lib.ListN.{get_or, take, drop}
use Rattle.lists.specs.Compare.{begins}
use Rattle.lists.proofs.Below.{below_of, below_drop}
use Rattle.outputs.proofs.Outputs.Parts.{rest_is}
use Rattle.ratio_format.specs.declared.RatioForm.{RatioForm}
use Rattle.ratio_format.specs.Windows.{window_size, window_of}
use Rattle.ratio_format.specs.Choice.{find}
use Rattle.ratio_format.proofs.Windows.{window_few}
use Rattle.ratio_format.proofs.Windows.Before.{window_inside}
use Rattle.ratio_codec.specs.Heads.{ratio_form_head}
use Rattle.ratio_codec.proofs.write.Chosen.{window_fit}
use Rattle.ratio_codec.proofs.Heads.{head_decides}
use Rattle.ratio_codec.proofs.read.References.{Named, named_one, named_begins}
use Rattle.ratio_bodies.proofs.ahead.FirstByte.{rest_first, named_at}
use Rattle.ratio_bodies.proofs.Marks.{mark_decides}
use Rattle.ratio_bodies.proofs.strict.accepts.Goals as goal
use Rattle.ratio_format.specs.Open.{Ratio}

pub slot_of-slot-requires : goal.slot_of-slot-requires
slot_of-slot-requires c =
    let window = window_of window_size (take c.args.i c.args.ratios.now) in
    let rest = drop c.args.at c.args.body.now in
    let named : c.args.n ≡ 1 → Named window c.args.v rest = λ e. named_one window c.args.v rest (c.requires.3 ∙ ap (Ratio c.args.v) e) in
    let n = named_at window c.args.v c.args.at c.args.body.now (named c.if-n-eq1.true) in
    (n.0, (window_inside window_size c.args.ratios.now c.args.i c.requires.0 (get_or c.args.body.now c.args.at 0) n.1).1)

pub returns-then-n-eq1-clause-test : goal.returns-then-n-eq1-clause-test
returns-then-n-eq1-clause-test c =
    let window = window_of window_size (take c.args.i c.args.ratios.now) in
    let rest = drop c.args.at c.args.body.now in
    let named : c.args.n ≡ 1 → Named window c.args.v rest = λ e. named_one window c.args.v rest (c.requires.3 ∙ ap (Ratio c.args.v) e) in
    let b = get_or c.args.body.now c.args.at 0 in
    let n = named c.if-n-eq1.true in
    let m = named_at window c.args.v c.args.at c.args.body.now n in
    ap (λ (k : ℕ). eqb (get_or c.args.again.now k 0) 0) c.slot_of-slot.ensures.0
    ∙ mark_decides c.args.again.now c.args.ratios.now c.args.i c.args.v c.requires.1 c.requires.0 b m.1 m.2
    ∙ sym (named_begins window c.args.v rest n ∙ ap (eqb (find c.args.v window)) (rest_first c.args.at c.args.body.now))

pub has_head-requires : goal.has_head-requires
has_head-requires c = window_fit c.args.ratios.now c.args.i c.args.v c.choose_nth-f.result c.requires.0 c.choose_nth-f.ensures.form

pub returns-clause-test : goal.returns-clause-test
returns-clause-test c =
    let window = window_of window_size (take c.args.i c.args.ratios.now) in
    let rest = drop c.args.at c.args.body.now in
    c.has_head.ensures ∙ ap₂ (λ (x : RatioForm) (s : List ℕ). begins (ratio_form_head x) s) c.choose_nth-f.ensures.form (rest_is c.args.at c.args.body.now)
    ∙ sym (head_decides c.args.v c.args.n window (window_few window_size (take c.args.i c.args.ratios.now)).0 rest
    (below_drop 256 c.args.at c.args.body.now (below_of 256 c.args.body.now (λ i. (c.type_inv.body i).fits))) c.requires.3)
