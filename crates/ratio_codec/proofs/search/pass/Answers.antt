-- `pass` meets its contract: two unequal ratios have a sum of at most 7, and any smaller sum has its bound.
use mathlib.Core.List.{reverse}
use Prim.Native.Nat.{◌-◌, ◌^◌}
use native.Mathlib.Nat.{mod-eq_of_lt}
use native.Mathlib.Omega.{arith}
use lib.Dec.{lit<}
use lib.ListN.{length-reverse}
use Rattle.lists.proofs.Below.{below_of}
use Rattle.bits.proofs.Digits.{pow_bytes}
use Rattle.ratio_format.proofs.Zeros.{raised_fits}
use Rattle.ratio_format.proofs.Windows.{reverse_below}
use Rattle.ratio_codec.proofs.search.Find.{find_from_le, find_from_passed}
use Rattle.ratio_codec.proofs.search.pass.Goals as goal

pub returns-then-sum-eq7 : goal.returns-then-sum-eq7
returns-then-sum-eq7 c =
    let w = reverse c.args.window.now in
    let known = reverse_below (2 ^ 64) c.args.window.now (below_of (2 ^ 64) c.args.window.now (λ k. (c.shared_slice_known-1.given k).fits)) in (
      omega arith,
      omega (arith, c.pass_equal.ensures, find_from_le c.args.v w c.args.from (rw length-reverse c.requires.0), length-reverse c.args.window.now),
      rw (c.pass_equal.ensures, c.if-sum-eq7.true) (find_from_passed c.args.v w c.ranges.v.fits known c.args.from),
    )

pub returns : goal.returns
returns c = (c.pass_over.ensures.0, c.pass_over.ensures.1, c.pass_over.ensures.2 c.args.sum (rw (← pow_bytes) (omega (arith, mod-eq_of_lt (raised_fits 1 1 (7 - c.args.sum) (lit< tt) (omega arith))))))
