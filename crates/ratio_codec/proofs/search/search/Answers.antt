-- `search` meets its contract: the goals that the check leaves.
use mathlib.Core.Path.{sym, ap}
use Prim.Native.Nat.{◌+◌, ◌-◌, ◌<◌}
use native.Mathlib.Omega.{arith}
use lib.ListN.{length, get_or}
use Rattle.ratio_format.specs.Choice.{Best}
use Rattle.ratio_format.proofs.Zeros.Sums.{sum_other}
use Rattle.ratio_codec.proofs.search.Scanned.{Scanned, scanned_start, scanned_wins, scanned_loses, scanned_pass, scanned_equal}
use Rattle.ratio_codec.proofs.search.search.Goals as goal
use Rattle.ratio_codec.proofs.search.search.Goals.{Joined-sum-s, else-sum-s, then-sum-s}

pub loop-i-init : goal.loop-i-init
loop-i-init c = scanned_start c.args.v c.args.window.now

pub returns-then-u-v : goal.returns-then-u-v
returns-then-u-v c =
    let e = scanned_equal c.args.v c.args.window.now c.loop-i.i c.loop-i.place c.loop-i.sum c.loop-i.invariant (omega arith) c.if-u-v.true in
    (sym (ap (λ (b : Best). b.place) e), sym (ap (λ (b : Best). b.sum) e))

-- one ratio more is counted
counted : (c : Joined-sum-s) → Scanned c.args.v c.args.window.now (c.loop-i.i + 1) c.if-sum-s.place c.if-sum-s.sum
counted c =
    let k = length c.args.window.now - 1 - c.loop-i.i in
    let h : c.loop-i.i < length c.args.window.now = omega arith in
    let o = sum_other c.args.v (get_or c.args.window.now k 0) c.ranges.v.fits (c.type_inv.window k).fits (λ q. c.if-u-v.false (sym q)) in
    elim c.if-sum-s.branch [
      | then-sum-s t ↦ let n = scanned_wins c.args.v c.args.window.now c.loop-i.i c.loop-i.place c.loop-i.sum c.loop-i.invariant h (omega arith) (omega arith) in let e = n.2 in (n.0, omega arith, cc)
      | else-sum-s t ↦ let n = scanned_loses c.args.v c.args.window.now c.loop-i.i c.loop-i.place c.loop-i.sum c.loop-i.invariant h (omega arith) in let e = n.2 in (n.0, omega arith, cc)
    ]

pub pass-i-requires : goal.pass-i-requires
pass-i-requires c = let s = counted (goal.at.pass-i-requires c).Joined-sum-s in (s.0, s.1)

pub loop-i-preserved : goal.loop-i-preserved
loop-i-preserved c =
    scanned_pass c.args.v c.args.window.now (c.loop-i.i + 1) c.if-sum-s.place c.if-sum-s.sum (counted (goal.at.loop-i-preserved c).Joined-sum-s)
    c.pass-i.result c.pass-i.ensures.0 c.pass-i.ensures.2 c.pass-i.ensures.1
