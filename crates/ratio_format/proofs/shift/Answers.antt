-- `ratio_format::shift` meets its contract.
use Rattle.std.proofs.Common.{List, ℕ, ap, ◌∙◌, set}
use Rattle.ratio_format.proofs.Windows.Shifting.{shifted}
use Rattle.ratio_format.proofs.shift.Goals as goal

pub returns : goal.returns
returns c = ap (λ (l : List ℕ). set l 126 c.args.v) c.copy_within.ensures.after ∙ shifted c.args.cells.now 126 c.args.v c.requires
