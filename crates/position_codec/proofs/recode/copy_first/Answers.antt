-- `copy_first` meets its contract: nothing is copied, or 64 bits, or twice as many.
use mathlib.Core.List.{[]}
use mathlib.Core.Path.{◌≡◌}
use native.Mathlib.Omega.{arith}
use lib.ListN.{take}
use lib.Seq.{take-add}
use Rattle.bits.specs.Packing.{bits}
use Rattle.position_codec.proofs.recode.copy_first.Goals as goal

pub returns-then-k-eq0 : goal.returns-then-k-eq0
returns-then-k-eq0 c = rw c.if-k-eq0.true (omega (arith, c.empty.ensures.0), c.empty.ensures.1, c.empty.ensures.2 c.args.out.now)

pub returns-then-k-eq1 : goal.returns-then-k-eq1
returns-then-k-eq1 c =
    let s = c.empty-2.ensures in
    let f = c.copy_bits-one.ensures.1 [] s.1 in
    rw c.if-k-eq1.true (omega (arith, c.copy_bits-one.ensures.0, s.0), f.0, f.1 c.args.out.now (s.2 c.args.out.now))

pub returns : goal.returns
returns c =
    let ds = bits c.args.body.now in
    let s = c.empty-2.ensures in
    let f = c.copy_bits-one.ensures.1 [] s.1 in
    let h = c.copy_bits.ensures.1 (take 64 ds) f.0 in
    let two : c.args.k ≡ 2 = omega (arith, c.requires.0, c.if-k-eq0.false, c.if-k-eq1.false) in
    rw (two, take-add 64 64 ds) (omega (arith, c.copy_bits-one.ensures.0, c.copy_bits.ensures.0, s.0), h.0, h.1 c.args.out.now (f.1 c.args.out.now (s.2 c.args.out.now)))
