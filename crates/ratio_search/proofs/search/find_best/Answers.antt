-- `find_best` meets its contract: the goals that the check leaves.
use mathlib.Core.Path.{◌≡◌, sym, ap, ap₂, ◌∙◌}
use Prim.Native.Nat.{ℕ, ◌+◌, ◌-◌, ◌<◌}
use native.Mathlib.Omega.{arith}
use lib.Bits.{bit_xor, xor_self}
use lib.ListN.{get_or}
use Rattle.ratio_format.specs.Windows.{window_size}
use Rattle.ratio_format.specs.Zeros.{sum_of}
use Rattle.ratio_format.proofs.Zeros.Sums.{xor-zero, sum_other}
use Rattle.ratio_search.proofs.search.Searching.{Searching, searching_as, searching_pass, searching_all, searching_wins, searching_loses, searching_equal}
use Rattle.ratio_search.proofs.search.find_best.Goals as goal
use Rattle.ratio_search.proofs.search.find_best.Goals.{Joined-sum-s, else-sum-s, then-sum-s}

pub returns-then-x-eq0 : goal.returns-then-x-eq0
returns-then-x-eq0 c = searching_equal c.args.v c.args.ratios.now c.args.i c.loop-q.q c.loop-q.at c.loop-q.trail c.loop-q.sum c.loop-q.invariant (omega arith) c.requires.1
    (sym (xor-zero c.args.v (get_or c.args.ratios.now (c.loop-q.q - 1) 0) c.if-x-eq0.true))

-- one ratio more is counted
counted : (c : Joined-sum-s) → Searching c.args.v c.args.ratios.now c.args.i (c.loop-q.q - 1) c.if-sum-s.at c.if-sum-s.trail c.if-sum-s.sum
unfolding sum_of
counted c =
    let l = c.loop-q in
    let v = c.args.v in
    let rs = c.args.ratios.now in
    let u = get_or rs (l.q - 1) 0 in
    let t = c.trail_zeros-t.result in
    let s = c.lead_zeros.result + t in
    let small = sum_other v u c.ranges.v.fits (c.type_inv.ratios (l.q - 1)).fits (λ q. c.if-x-eq0.false (ap (bit_xor v) (sym q) ∙ xor_self v)) in
    let sum : sum_of v u ≡ s = ap₂ (λ (x y : ℕ). x + y) (sym c.lead_zeros.ensures.0) (sym c.trail_zeros-t.ensures.0) in
    let from : c.args.i - window_size < l.q = omega arith in
    elim c.if-sum-s.branch [
      | then-sum-s w ↦ searching_as v rs c.args.i (l.q - 1) c.if-sum-s.at (l.q - 1) c.if-sum-s.trail t c.if-sum-s.sum s w.at-is w.trail-is w.sum-is
          (searching_wins v rs c.args.i l.q l.at l.trail l.sum l.invariant from t s sum (omega arith) (omega arith) w.if-sum-s.true)
      | else-sum-s w ↦ searching_as v rs c.args.i (l.q - 1) c.if-sum-s.at l.at c.if-sum-s.trail l.trail c.if-sum-s.sum l.sum w.at-is w.trail-is w.sum-is
          (searching_loses v rs c.args.i l.q l.at l.trail l.sum l.invariant from (omega (arith, w.if-sum-s.false)))
    ]

pub pairs_of-p-requires : goal.pairs_of-p-requires
pairs_of-p-requires c = let s = counted (goal.at.pairs_of-p-requires c).Joined-sum-s in (s.2, s.4)

pub loop-q-preserved : goal.loop-q-preserved
loop-q-preserved c =
    searching_pass c.args.v c.args.ratios.now c.args.i (c.loop-q.q - 1) c.if-sum-s.at c.if-sum-s.trail c.if-sum-s.sum (counted (goal.at.loop-q-preserved c).Joined-sum-s)
    c.pass-q.result c.pass-q.ensures.1 (rw c.pairs_of-p.ensures at c.pass-q.ensures.2)

pub returns : goal.returns
returns c = searching_all c.args.v c.args.ratios.now c.args.i c.loop-q.q c.loop-q.at c.loop-q.trail c.loop-q.sum c.loop-q.invariant c.requires.1 (omega arith)
