-- `open_nth` meets its contract: the part before the ratio is its window, and the part from the offset on is what is left of the body.
use Rattle.std.proofs.Common.{ap₂, ◌∙◌}
use Rattle.outputs.proofs.Outputs.Parts.{rest_is}
use Rattle.ratio_format.specs.Open.{open_one}
use Rattle.ratio_format.specs.Windows.{window_size}
use Rattle.ratio_format.proofs.Windows.Before.{window_part}
use Rattle.ratio_bodies.proofs.ahead.open_nth.Goals as goal

pub returns : goal.returns
returns c =
    c.read_one_open.ensures
    ∙ ap₂ open_one (window_part window_size c.args.ratios.now c.args.i c.requires.0 c.window_start.result c.window_start.ensures) (rest_is c.args.at c.args.body.now)
