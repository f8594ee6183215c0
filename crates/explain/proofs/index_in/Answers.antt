-- `index_in` meets its contract: the goals that the check leaves.
use mathlib.Core.Bool.{true, false, not}
use mathlib.Core.Path.{◌≡◌, ap, ◌∙◌}
use Rattle.std.proofs.Common.{rules, arith}
use lib.ListN.{length, get_or}
use Rattle.lists.proofs.Lists.{first_le, first_next, first_found}
use Rattle.explain.specs.Indexes.{not_digit}
use Rattle.explain.proofs.Indexes.{value_none, capped_more, index_other, index_digits}
use Rattle.explain.proofs.index_in.Goals as goal

pub loop-c-init : goal.loop-c-init
loop-c-init c = (omega arith, value_none c.args.text.now)

pub returns-in_err-digit : goal.returns-in_err-digit
returns-in_err-digit c =
    let other : not_digit (get_or c.args.text.now c.loop-c.c-index 0) ≡ true = ap not c.in_err-digit.ensures in
    c.from_residual.ensures
    ∙ index_other c.args.text.now (omega (arith, first_found not_digit 0 c.args.text.now c.loop-c.c-index c.loop-c-test.true c.loop-c.invariant.0 other, c.loop-c-test.true))

pub loop-c-preserved : goal.loop-c-preserved
loop-c-preserved c =
    let other : not_digit (get_or c.args.text.now c.loop-c.c-index 0) ≡ false = ap not c.in_ok-digit.ensures.0 in (
      omega (arith, first_next not_digit 0 c.args.text.now c.loop-c.c-index c.loop-c-test.true c.loop-c.invariant.0 other),
      omega (arith, c.min-n.ensures, c.in_ok-digit.ensures.1, capped_more c.args.text.now c.loop-c.c-index c.loop-c-test.true c.loop-c.n c.loop-c.invariant.1),
    )

pub returns : goal.returns
returns c =
    let whole : length c.args.text.now ≡ 0 → ⊥ = search rules in
    index_digits c.args.text.now whole (omega (arith, c.loop-c.invariant.0, c.loop-c-test.false, first_le not_digit c.args.text.now)) c.loop-c.c-index c.loop-c-test.false c.loop-c.n c.loop-c.invariant.1
