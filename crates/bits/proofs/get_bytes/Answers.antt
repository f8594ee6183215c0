-- `get_bytes` meets its contract: the goals that the check leaves.
use mathlib.Core.Path.{refl}
use native.Mathlib.Omega.{arith}
use Rattle.bits.specs.Digits.{number_of}
use Rattle.bits.proofs.Digits.Read.{read_lt, read_step, bytes_lt}
use Rattle.bits.proofs.get_bytes.Goals as goal

pub loop-b-init : goal.loop-b-init
unfolding number_of
loop-b-init c = (refl, omega arith)

pub overflow_mul-y : goal.overflow_mul-y
overflow_mul-y c =
    let l = c.loop-b in
    omega (arith, bytes_lt 7 l.b-index (omega arith) l.invariant.1)

pub loop-b-preserved : goal.loop-b-preserved
loop-b-preserved c =
    let l = c.loop-b in
    let a = c.args in (
      read_step a.s.now a.at a.n l.b-index l.y c.from.result (omega arith) c.requires.1 c.from.ensures l.invariant.0,
      read_lt l.b-index l.invariant.1 (omega arith),
    )
