-- `read_through` meets its contract: the goals that the check leaves.
use Rattle.std.proofs.Common.{◌≡◌, refl, sym, ◌∙◌, ◌+◌, ◌-◌, ◌≤◌, ◌<◌, arith, length, take}
use Rattle.ratio_format.specs.Open.{strict_one}
use Rattle.ratio_search.specs.BytePlanes.{slots}
use Rattle.ratio_bodies.specs.Sliding.{room, shift}
use Rattle.ratio_bodies.proofs.through.Counting.{counted_is, counted_same}
use Rattle.ratio_bodies.proofs.through.Stretches.{stretch_fits, stretch_last, stretch_full}
use Rattle.ratio_bodies.proofs.Sliding.{ready_slid, window_slid}
use Rattle.ratio_bodies.proofs.Taking.{onto_front}
use Rattle.ratio_bodies.proofs.through.read_through.Goals as goal
use Rattle.ratio_bodies.proofs.through.read_through.Goals.{then-r-to-via-then-r-to, then-r-to-via-else-r-to+then-count-before}

pub returns-then-r-to : goal.returns-then-r-to
returns-then-r-to c =
    let l = c.loop-planes in
    let r = c.read_stretch-r in
    let last : c.min-to.result ≤ r.result.count → c.args.count - l.before ≤ c.min-to.result = λ h.
    elim c.then-r-to.branch [
      | then-r-to-via-then-r-to w ↦ absurd (omega (arith, h, w.if-r-to.true))
      | then-r-to-via-else-r-to+then-count-before w ↦ w.if-count-before.true
    ] in (
      stretch_last c.args.count l.before l.from l.begun c.min-to.result r.result.count r.result.at c.args.body.now l.ratios r.new.ratios l.invariant.2 l.invariant.1 c.min-to.ensures r.ensures.0 last,
      λ h.
          let z = l.invariant.4 h in
          let n : c.min-to.result ≡ c.args.count = omega (arith, c.min-to.ensures, z.2, l.invariant.0, h) in
          onto_front strict_one c.args.count c.min-to.result c.args.body.now c.args.ratios.now l.ratios r.new.ratios l.from l.begun r.result.count r.result.at n z.3 z.0 z.1 r.ensures.0,
    )

pub overflow_add-result : goal.overflow_add-result
overflow_add-result c =
    let l = c.loop-planes in
    let r = c.read_stretch-r in
    let fits = stretch_fits c.args.count l.before l.from l.begun c.min-to.result r.result.count r.result.at c.args.body.now l.ratios r.new.ratios l.invariant.2 l.invariant.1 c.min-to.ensures r.ensures.0 in
    omega (arith, fits, c.ranges)

pub loop-planes-preserved : goal.loop-planes-preserved
loop-planes-preserved c =
    let l = c.loop-planes in
    let r = c.read_stretch-r in
    let reached : c.min-to.result ≤ r.result.count = c.if-r-to.false in
    let wanted : c.min-to.result < c.args.count - l.before = c.if-count-before.false in
    let size : length l.ratios ≡ room = l.invariant.0 ∙ c.requires (omega (arith, c.min-to.ensures, l.invariant.0, wanted)) in
    let f = stretch_full c.args.count l.before l.from l.begun c.min-to.result r.result.count r.result.at c.args.body.now l.ratios r.new.ratios l.invariant.2 l.invariant.1 c.min-to.ensures r.ensures.0
    size reached wanted r.ensures.1 in
    let k : l.before + shift + slots ≡ l.before + room = omega arith in (
      c.slide.ensures.0 ∙ f.1 ∙ sym size ∙ l.invariant.0,
      omega (arith, c.slide.ensures.0, f.1),
      counted_is c.args.count c.args.body.now _ _ _ _ _ _ refl (sym k) refl
          (counted_same c.args.count c.args.body.now (take room r.new.ratios) (take slots c.slide.new.ratios) (l.before + room) r.result.at (sym (window_slid r.new.ratios c.slide.new.ratios c.slide.ensures f.1)) f.2),
      ready_slid r.new.ratios c.slide.new.ratios c.slide.ensures r.new.planes r.new.again r.result.count c.saturating_sub.result f.0 c.saturating_sub.ensures r.ensures.2,
      λ h. absurd (omega (arith, wanted, c.min-to.ensures, l.invariant.0, h)),
    )
