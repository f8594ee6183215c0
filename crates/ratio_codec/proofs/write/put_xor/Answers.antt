-- `put_xor` meets its contract: the place and the counts are the first two bytes, and the middle follows.
use native.Mathlib.Omega.{arith}
use Rattle.bits.proofs.Digits.{length_digits}
use Rattle.ratio_codec.proofs.write.put_xor.Goals as goal

pub returns-then-out-len : goal.returns-then-out-len
returns-then-out-len c = omega (arith, length_digits 256 c.args.len c.args.middle)
