-- `put_exception` meets its contract: the first byte is 255, and the ratio's eight bytes follow.
use native.Mathlib.Omega.{arith}
use Rattle.bits.proofs.Digits.{length_digits}
use Rattle.ratio_codec.proofs.write.put_exception.Goals as goal

pub returns-then-out-lt9 : goal.returns-then-out-lt9
returns-then-out-lt9 c = omega (arith, length_digits 256 8 c.args.v)
