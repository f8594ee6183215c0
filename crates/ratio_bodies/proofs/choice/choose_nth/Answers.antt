-- `choose_nth` meets its contract: the part before the ratio is its window.
use Rattle.std.proofs.Common.{sym, ap, ◌∙◌, subst, List, ℕ}
use Rattle.ratio_format.specs.Windows.{window_size}
use Rattle.ratio_format.specs.Choice.{ratio_form}
use Rattle.ratio_window.specs.Searched.{Searched}
use Rattle.ratio_format.proofs.Windows.Before.{window_part}
use Rattle.ratio_bodies.proofs.choice.choose_nth.Goals as goal

pub ratio_form_of-requires : goal.ratio_form_of-requires
ratio_form_of-requires c =
    subst (λ (w : List ℕ). Searched c.args.v w c.find_best-b.result.place c.find_best-b.result.sum)
    (sym (window_part window_size c.args.ratios.now c.args.i c.requires.0 c.window_start.result c.window_start.ensures)) c.find_best-b.ensures.found

pub returns-clause-form : goal.returns-clause-form
returns-clause-form c =
    c.ratio_form_of.ensures ∙ ap (ratio_form c.args.v) (window_part window_size c.args.ratios.now c.args.i c.requires.0 c.window_start.result c.window_start.ensures)
