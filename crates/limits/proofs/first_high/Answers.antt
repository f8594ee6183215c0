-- `first_high` meets its contract: what the search finds is the definition's index.
use Rattle.std.specs.List.{position}
use Rattle.std.proofs.Common.{◌≡◌, rules, tests}
use Rattle.std.proofs.lemmas.Iterator.{YieldsList-from_slice}
use Rattle.std.proofs.lemmas.Iterator.Search.{position_from_yields_List}
use Rattle.limits.specs.Points.{too_high}
use Rattle.limits.proofs.Points.{high_found}
use Rattle.limits.proofs.first_high.Goals as goal

pub returns : goal.returns
returns c =
    let found : c.position.result ≡ position too_high c.args.positions.now = position_from_yields_List too_high _ _ c.position.result c.position.ensures.ran (YieldsList-from_slice c.args.positions.now (cc)) (λ x b q k. search (rules, tests)) in
    high_found c.args.positions.now c.position.result found
