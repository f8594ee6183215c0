-- `is_rate` meets its contract, base by base.
use mathlib.Core.Path.{sym}
use Rattle.limits.specs.Rates.{rates, is_rate}
use Rattle.lists.proofs.Lists.{member-append}
use Rattle.limits.proofs.is_rate.Goals as goal

pub returns-then-is_times_one_two_four : goal.returns-then-is_times_one_two_four
unfolding is_rate rates
returns-then-is_times_one_two_four c = rw (member-append, sym c.is_times_one_two_four.ensures, c.if-is_times_one_two_four.true)

pub returns-else-is_times_one_two_four : goal.returns-else-is_times_one_two_four
unfolding is_rate rates
returns-else-is_times_one_two_four c = rw (member-append, sym c.is_times_one_two_four.ensures, c.if-is_times_one_two_four.false, sym c.is_times_one_two_four-else-is_times_one_two_four.ensures)
