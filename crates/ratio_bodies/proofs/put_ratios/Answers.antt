-- `put_ratios` meets its contract: the goals that the check leaves.
use mathlib.Core.Path.{◌≡◌, refl, sym, ap, ◌∙◌}
use mathlib.Core.List.{List, ◌++◌}
use Prim.Native.Nat.{ℕ, ◌+◌, ◌-◌, ◌<◌}
use native.Mathlib.Omega.{arith}
use borrow.Rule.Slice.PartMut.{put_mid}
use lib.ListN.{length, drop, replicate, length-replicate}
use Rattle.ratio_search.specs.BytePlanes.{cells}
use Rattle.ratio_search.proofs.PutPlanes.{kept_start}
use Rattle.ratio_bodies.proofs.Indexes.{nearly_start}
use Rattle.ratio_bodies.proofs.PutRatios.{Writing, part, writing_start, writing_full, writing_on, writing_more}
use Rattle.ratio_bodies.proofs.repeats.Repeated.{repeats_coded, repeats_nearly}
use Rattle.ratio_bodies.proofs.put_ratios.Goals as goal

pub loop-i-init : goal.loop-i-init
loop-i-init c = (writing_start c.args.ratios.now c.args.out.now, (kept_start (replicate cells 0) c.args.ratios.now refl, omega arith), nearly_start c.args.ratios.now)

pub returns-in_err-n : goal.returns-in_err-n
returns-in_err-n c =
    let more : c.loop-i.i < length c.args.ratios.now = c.loop-i-test.true in
    rw c.from_residual.ensures
    (writing_full c.args.ratios.now c.args.out.now c.loop-i.out c.loop-i.at c.loop-i.i c.loop-i.invariant.0 more c.put_nth.result c.put_nth.new.out c.in_err-n.was c.put_nth.ensures.placed)

pub loop-i-preserved : goal.loop-i-preserved
loop-i-preserved c =
    let more : c.loop-i.i < length c.args.ratios.now = c.loop-i-test.true in
    let next = c.loop-i.at + c.in_ok-n.n in
    let after = put_mid c.loop-i.at (length c.loop-i.out - c.loop-i.at) c.loop-i.out c.put_nth.new.out in
    let one : Writing c.args.ratios.now c.args.out.now after next (c.loop-i.i + 1) = writing_more c.args.ratios.now c.args.out.now c.loop-i.out c.loop-i.at c.loop-i.i c.loop-i.invariant.0 more c.put_nth.result c.in_ok-n.n c.put_nth.new.out c.in_ok-n.was c.put_nth.ensures.placed c.put_nth.auto.out in
    let all : Writing c.args.ratios.now c.args.out.now (put_mid next (length after - next) after c.put_repeats-k.new.out) (next + c.put_repeats-k.result) (c.loop-i.i + 1 + c.put_repeats-k.result) = let zs : List ℕ = replicate c.put_repeats-k.result 0 in
    let z : c.put_repeats-k.result ≡ length zs = sym (length-replicate {A = ℕ} c.put_repeats-k.result 0) in
    writing_on c.args.ratios.now c.args.out.now after next (c.loop-i.i + 1) one zs (c.loop-i.i + 1 + c.put_repeats-k.result) c.put_repeats-k.ensures.0
    (repeats_coded c.args.ratios.now (c.loop-i.i + 1) (omega arith) c.put_repeats-k.result c.put_repeats-k.ensures.0 c.put_repeats-k.ensures.1) c.put_repeats-k.result c.put_repeats-k.new.out
    (z, omega (arith, z, c.put_repeats-k.ensures.2), c.put_repeats-k.ensures.3 ∙ ap (λ (n : ℕ). zs ++ drop n (part c.args.ratios.now c.args.out.now after next (c.loop-i.i + 1) one)) z)
    c.put_repeats-k.auto.out in (
      all,
      (c.put_nth.ensures.kept.0, omega (arith, c.put_nth.ensures.kept.1)),
      repeats_nearly c.args.ratios.now (c.loop-i.i + 1) (omega arith) c.place_of-place.new.newest c.put_repeats-k.result c.put_repeats-k.ensures.1 c.place_of-place.ensures.noted,
    )
