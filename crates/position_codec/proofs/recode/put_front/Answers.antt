-- `put_front` meets its contract: a word shifted down has its first bits.
use mathlib.Core.Path.{◌≡◌, sym}
use Prim.Native.Nat.{◌+◌, ◌-◌, ◌^◌, ◌<◌}
use native.Mathlib.Omega.{arith}
use lib.Pow.{shr_lt}
use Rattle.bits.proofs.Packing.Ahead.{word_first}
use Rattle.position_codec.proofs.recode.put_front.Goals as goal

pub lay-requires : goal.lay-requires
lay-requires c =
    let e : 64 ≡ c.args.k + (64 - c.args.k) = omega (arith, c.requires.1) in
    let below : c.args.w < 2 ^ (c.args.k + (64 - c.args.k)) = rw (sym e) c.ranges.w.fits in
    (c.requires.2, c.requires.1, shr_lt c.args.k (64 - c.args.k) below)

pub returns : goal.returns
returns c = (c.lay.ensures.0, rw (sym (word_first c.args.w c.args.k c.requires.1)) at c.lay.ensures.1)
