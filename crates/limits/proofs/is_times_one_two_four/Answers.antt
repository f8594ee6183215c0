-- `is_times_one_two_four` meets its contract: it looks the rate up in a list of three.
use mathlib.Core.Path.{◌∙◌}
use Rattle.limits.proofs.Rates.{member_any}
use Rattle.limits.proofs.is_times_one_two_four.Goals as goal

pub returns : goal.returns
returns c = c.contains.ensures.value ∙ member_any c.args.rate _
