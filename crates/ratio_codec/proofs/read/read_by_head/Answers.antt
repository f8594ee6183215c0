-- `read_by_head` meets its contract: an open reading, and the head of the form that is chosen for what was read.
use Rattle.std.proofs.Common.{◌≡◌, sym, ap, ◌∙◌, reverse, ◌≤◌, length}
use Rattle.lists.specs.Compare.{begins}
use Rattle.lists.proofs.Below.{below_of}
use Rattle.std.proofs.lemmas.List.{length-reverse}
use Rattle.ratio_format.specs.declared.RatioForm.{RatioForm}
use Rattle.ratio_format.specs.Windows.{window_size}
use Rattle.ratio_format.specs.RatioForms.{coded}
use Rattle.ratio_format.proofs.Open.{strict_nothing, strict_if}
use Rattle.ratio_codec.specs.Heads.{ratio_form_head}
use Rattle.ratio_codec.proofs.write.Chosen.{chosen_fit}
use Rattle.ratio_codec.proofs.Heads.{head_decides}
use Rattle.ratio_codec.proofs.read.read_by_head.Goals as goal

pub returns-in_err-v : goal.returns-in_err-v
returns-in_err-v c =
    c.from_residual.ensures ∙ strict_nothing (reverse c.args.window.now) c.args.s.now c.read_one_open.result c.read_one_open.ensures c.in_err-v.was

pub has_head-requires : goal.has_head-requires
has_head-requires c = chosen_fit c.args.window.now c.in_ok-v.v c.choose.result c.choose.ensures c.requires

pub returns : goal.returns
returns c =
    let w = reverse c.args.window.now in
    let s = c.args.s.now in
    let h : length w ≤ window_size = rw length-reverse c.requires in
    let says : c.has_head.result ≡ begins (coded c.in_ok-v.v w) s =
    c.has_head.ensures ∙ ap (λ (f : RatioForm). begins (ratio_form_head f) s) c.choose.ensures
    ∙ sym (head_decides c.in_ok-v.v c.in_ok-v.n w h s (below_of 256 s (λ i. (c.type_inv.s i).fits)) (sym c.in_ok-v.ensures)) in
    c.then_some.ensures ∙ strict_if w s c.read_one_open.result c.read_one_open.ensures c.in_ok-v.v c.in_ok-v.n c.has_head.result c.in_ok-v.was says
