-- `explain` meets its contract: past the tests, the window of the ratio decides.
use mathlib.Core.Path.{sym, ap, ◌∙◌}
use native.Mathlib.Omega.{arith}
use Rattle.std.proofs.Common.{Ok}
use lib.ListN.{get_or}
use Rattle.ratio_format.specs.Windows.{window_size}
use Rattle.ratio_format.proofs.Windows.Before.{window_part}
use Rattle.reasons.specs.Reasons.{reason_of}
use Rattle.reasons.proofs.Reasons.{explained_here}
use Rattle.reasons.proofs.explain.Goals as goal

pub returns-clause-answer : goal.returns-clause-answer
returns-clause-answer c =
    ap Ok
    (c.reason_of.ensures
    ∙ ap (reason_of (get_or c.args.ratios.now c.args.index 0)) (window_part window_size c.args.ratios.now c.args.index (omega (arith, c.if-ratios-index.false)) c.window_start-from.result c.window_start-from.ensures))
    ∙ sym (explained_here c.args.ratios.now c.args.index c.if-ratios-gt-MAX_POINTS.false c.if-ratios-index.false)
