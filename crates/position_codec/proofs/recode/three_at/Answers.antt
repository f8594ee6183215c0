-- `three_at` meets its contract: code by code, each in the word without those before it.
use native.Mathlib.Omega.{arith}
use Rattle.position_codec.proofs.recode.Copying.{three_shared}
use Rattle.position_codec.proofs.recode.three_at.Goals as goal

pub returns : goal.returns
returns c =
    let n = c.in_ok-n.ensures in
    let m = c.in_ok-m.ensures in
    let k = c.in_ok-k.ensures in (
      omega (arith, n.0),
      omega (arith, n.1, m.1, k.1),
      c.if-left-lt3.false,
      three_shared c.args.form c.args.w c.in_ok-n.n c.in_ok-m.m c.in_ok-k.k n.1 m.1 n.2 m.2 k.2,
    )
