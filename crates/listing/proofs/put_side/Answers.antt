-- `put_side` meets its contract: no line, or a word and the number.
use mathlib.Core.List.{[]}
use lib.ListN.{length}
use mathlib.Core.Path.{◌≡◌, ap, ◌∙◌}
use Rattle.std.proofs.Common.{arith}
use Rattle.std.proofs.lemmas.Grind.{common_steps}
use Rattle.listing.specs.Lines.{side_line}
use Rattle.listing.proofs.Lines.{side_none, side_some}
use Rattle.listing.proofs.put_side.Goals as goal

pub returns-then-side-ne0-clause-text : goal.returns-then-side-ne0-clause-text
returns-then-side-ne0-clause-text c = let e = side_some c.args.side c.if-side-ne0.true in grind (arith, common_steps, e)

pub returns-then-side-ne0-clause-most : goal.returns-then-side-ne0-clause-most
returns-then-side-ne0-clause-most c = let e = side_some c.args.side c.if-side-ne0.true in grind (arith, common_steps, e)

pub returns-else-side-ne0-clause-text : goal.returns-else-side-ne0-clause-text
returns-else-side-ne0-clause-text c = let e : side_line c.args.side ≡ [] = ap side_line c.if-side-ne0.false ∙ side_none in grind (arith, common_steps, e)

pub returns-else-side-ne0-clause-most : goal.returns-else-side-ne0-clause-most
returns-else-side-ne0-clause-most c = let e : side_line c.args.side ≡ [] = ap side_line c.if-side-ne0.false ∙ side_none in omega (arith, ap length e)
