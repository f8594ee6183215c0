-- `bits::get_bytes` meets its contract. The invariant: y is the number of the bytes passed, and below 256 to the power of their number.
use mathlib.Core.Path.{◌≡◌}
use Prim.Native.Nat.{◌^◌, ◌<◌}
use lib.ListN.{take, drop}
use Rattle.bits.specs.Digits.{number_of}
use Rattle.bits.proofs.get_bytes.Given as goal

abbrev pub invariant-loop-b : goal.invariant-loop-b
invariant-loop-b l = (l.y ≡ number_of 256 (take l.b-index (drop l.at l.s))) × (l.y < 256 ^ l.b-index)
