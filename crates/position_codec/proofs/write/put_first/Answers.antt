-- `put_first` meets its contract: nothing is laid, or one field, or two.
use mathlib.Core.List.{[]}
use native.Mathlib.Omega.{arith}
use lib.ListN.{get_or}
use Rattle.bits.specs.Digits.{bits_of}
use Rattle.position_format.proofs.Points.{first-none, first_one, first_two_lem}
use Rattle.position_codec.proofs.write.put_first.Goals as goal

pub returns-then-n-eq0 : goal.returns-then-n-eq0
returns-then-n-eq0 c = λ rs. rw (first-none rs c.args.positions.now c.if-n-eq0.true) (c.empty.ensures.1, c.empty.ensures.2 c.args.out.now)

pub returns-then-n-eq1 : goal.returns-then-n-eq1
returns-then-n-eq1 c =
    let s = c.empty-2.ensures in
    let f = c.lay-one.ensures.1 [] s.1 in
    λ rs. rw (first_one rs c.args.positions.now c.if-n-eq1.true) (f.0, f.1 c.args.out.now (s.2 c.args.out.now))

pub returns : goal.returns
returns c =
    let s = c.empty-2.ensures in
    let f = c.lay-one.ensures.1 [] s.1 in
    let h = c.lay.ensures.1 (bits_of 64 (get_or c.args.positions.now 0 0)) f.0 in
    λ rs. rw (first_two_lem rs c.args.positions.now (omega arith)) (h.0, h.1 c.args.out.now (f.1 c.args.out.now (s.2 c.args.out.now)))
