-- `pass_equal` meets its contract: the goals that the check leaves.
use mathlib.Core.Path.{◌≡◌, sym, ◌∙◌}
use mathlib.Core.List.{reverse}
use native.Mathlib.Omega.{arith}
use lib.ListN.{length, length-reverse}
use Rattle.ratio_format.proofs.Windows.{reverse-back}
use Rattle.ratio_codec.proofs.search.Find.{find_from_here, find_from_next, find_from_end}
use Rattle.ratio_codec.proofs.search.pass_equal.Goals as goal

pub returns-then-window-i : goal.returns-then-window-i
returns-then-window-i c = find_from_here c.args.v (reverse c.args.window.now) c.loop-i.i (rw length-reverse c.loop-i-test.true) (reverse-back c.args.window.now c.loop-i.i c.loop-i-test.true ∙ c.if-window-i.true) ∙ c.loop-i.invariant

pub loop-i-preserved : goal.loop-i-preserved
loop-i-preserved c = sym (find_from_next c.args.v (reverse c.args.window.now) c.loop-i.i (rw length-reverse c.loop-i-test.true) (λ e. c.if-window-i.false (sym (reverse-back c.args.window.now c.loop-i.i c.loop-i-test.true) ∙ e))) ∙ c.loop-i.invariant

pub returns : goal.returns
returns c =
    let w = reverse c.args.window.now in
    let e : length c.args.window.now ≡ c.loop-i.i = omega arith in
    rw e (find_from_end c.args.v w c.loop-i.i (omega (arith, length-reverse c.args.window.now)) ∙ c.loop-i.invariant)
