-- `bits::put_bytes` meets its contract. The invariant: the last n - i bytes are written, and y is what is left of x.
use mathlib.Core.Path.{◌≡◌}
use Prim.Native.Nat.{◌-◌, ◌/◌, ◌^◌}
use Rattle.bits.proofs.Digits.Write.{written}
use Rattle.bits.proofs.put_bytes.Given as goal

abbrev pub invariant-loop-i : goal.invariant-loop-i
invariant-loop-i l = (l.y ≡ l.x / 256 ^ (l.n - l.i)) × (l.out ≡ written l.initial.out l.at l.n l.x l.i)
