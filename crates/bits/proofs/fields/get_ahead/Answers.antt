-- `fields::get_ahead` meets its contract: eight bytes, without their bits before the offset.
use mathlib.Core.Path.{◌≡◌, ap, ◌∙◌}
use Prim.Native.Nat.{ℕ, ◌+◌, ◌-◌, ◌*◌, ◌/◌, ◌%◌}
use native.Mathlib.Omega.{arith}
use lib.ListN.{length, drop}
use Rattle.lists.proofs.Below.{below_of}
use Rattle.bits.specs.Packing.{bits, ahead}
use Rattle.bits.proofs.Packing.Ahead.{moved_front, moved_last}
use Rattle.bits.proofs.fields.get_ahead.Goals as goal

pub returns-then-b-s : goal.returns-then-b-s
returns-then-b-s c =
    let s = c.args.s.now in
    let at = c.args.at in
    let e : 8 * (at / 8) + at % 8 ≡ at = omega arith in
    moved_front s (below_of 256 s (λ i. (c.type_inv.s i).fits)) (at / 8) (at % 8) c.get_bytes.result c.if-b-s.true (omega arith) c.get_bytes.ensures.0 57 (omega arith)
    ∙ ap (λ (m : ℕ). ahead 57 (drop m (bits s))) e

pub returns : goal.returns
returns c =
    let s = c.args.s.now in
    let at = c.args.at in
    let last = length s - 8 in
    let e : 8 * last + (at - 8 * last) ≡ at = omega arith in
    moved_last s (below_of 256 s (λ i. (c.type_inv.s i).fits)) last (at - 8 * last) c.get_bytes-2.result (omega arith) (omega arith) c.get_bytes-2.ensures.0 (omega arith) 57 (omega arith)
    ∙ ap (λ (m : ℕ). ahead 57 (drop m (bits s))) e
