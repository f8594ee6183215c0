-- `Text::put_decimal` meets its contract: the fewest digits that hold the number are its text.
use mathlib.Core.Path.{ap, ◌∙◌}
use mathlib.Core.List.{List, ◌++◌}
use Prim.Native.Nat.{ℕ}
use Rattle.text.proofs.Numbers.{decimal_fewest}
use Rattle.text.proofs.Numbers.Lengths.{length-decimal}
use Rattle.text.proofs.Text.put_decimal.Goals as goal

pub returns-clause-text : goal.returns-clause-text
returns-clause-text g c =
    c.put_bytes.ensures
    ∙ ap (λ (l : List ℕ). c.args.self.now ++ l) (c.decimal-k.ensures.digits ∙ decimal_fewest c.ranges.n.fits c.decimal-k.ensures.len)

pub returns-clause-most : goal.returns-clause-most
returns-clause-most g c = length-decimal c.args.n
