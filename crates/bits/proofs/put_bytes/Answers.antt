-- `put_bytes` meets its contract: the goals that the check leaves.
use mathlib.Core.Path.{sym}
use Rattle.bits.proofs.Digits.Write.{shift_start, write_start, write_again}
use Rattle.bits.proofs.put_bytes.Goals as goal

pub loop-i-init : goal.loop-i-init
loop-i-init c =
    let a = c.args in
    (sym (shift_start a.x a.n), sym (write_start a.out.now a.at a.n a.x))

pub loop-i-preserved : goal.loop-i-preserved
loop-i-preserved c =
    let l = c.loop-i in
    let a = c.args in
    write_again a.out.now l.out a.at a.n a.x l.i l.y c.loop-i-test.true l.auto.i c.requires l.invariant.0 l.invariant.1
