-- `read_stretch` meets its contract: the goals that the check leaves.
use Rattle.std.specs.Prelude.{None}
use mathlib.Core.List.{List}
use mathlib.Core.Path.{◌≡◌, refl, sym, ap, ◌∙◌}
use mathlib.Core.Bool.{Bool, true}
use Prim.Native.Nat.{ℕ, ◌+◌, ◌%◌, ◌≤◌, ◌<◌}
use native.Mathlib.Omega.{arith}
use lib.ListN.{length, get_or, take, drop, set, length-set}
use Rattle.std.specs.Bool.{then_some}
use Rattle.lists.specs.Compare.{begins}
use Rattle.ratio_format.specs.Windows.{window_size, window_of}
use Rattle.ratio_format.specs.RatioForms.{coded}
use Rattle.ratio_format.specs.Open.{Read, Ratio, open_one, strict_one}
use Rattle.ratio_format.proofs.Open.{strict_nothing, strict_if}
use Rattle.ratio_format.proofs.Bodies.Taken.{strict_within}
use Rattle.ratio_format.proofs.Windows.Before.{window_inside}
use Rattle.ratio_codec.proofs.read.References.{named_one}
use Rattle.ratio_search.specs.BytePlanes.{slots, Kept}
use Rattle.ratio_search.proofs.PutPlanes.{kept_set}
use Rattle.ratio_bodies.specs.Marks.{slot_of, Marks}
use Rattle.ratio_bodies.specs.Taking.{Taking}
use Rattle.ratio_bodies.proofs.ahead.FirstByte.{rest_first, named_at}
use Rattle.ratio_bodies.proofs.Marks.{marks_more}
use Rattle.ratio_bodies.proofs.Taking.{taking_all, taking_stop, taking_more, taking_join, taking_kept}
use Rattle.ratio_bodies.proofs.stretch.read_stretch.Goals as goal

-- ratio i was read, and its bytes accepted
module _ (to from begun at i : ℕ) (body o l : List ℕ) (t : Taking strict_one to body o from begun l at i) (more : i < to) (fits : to ≤ length o) (v n : ℕ) (b : Bool) (r : Read)
    (opens : r ≡ open_one (window_of window_size (take i l)) (drop at body)) (is : r ≡ Ratio v n) (test : b ≡ begins (coded v (window_of window_size (take i l))) (drop at body)) where
  accepted : b ≡ true → Taking strict_one to body o from begun (set l i v) (at + n) (i + 1)
  accepted good =
      let w = window_of window_size (take i l) in
      let strictly : Ratio v n ≡ strict_one w (drop at body) = ap (λ (x : Bool). then_some x (v, n)) (sym good) ∙ strict_if w (drop at body) r opens v n b is test in
      taking_more strict_one to body o from begun l at i t more (Ratio v n) strictly strict_within v n refl fits

pub returns-in_default : goal.returns-in_default
returns-in_default c =
    let w = window_of window_size (take c.loop-i.i c.loop-i.ratios) in
    let rest = drop c.loop-i.at c.args.body.now in (
      taking_stop strict_one c.args.to c.args.body.now c.args.ratios.now c.args.from c.args.begun c.loop-i.ratios c.loop-i.at c.loop-i.i c.loop-i.invariant.0 c.loop-i-test.true None
          (strict_nothing w rest c.open_from.result c.open_from.ensures c.in_default.is) refl,
      c.loop-i.invariant.0.inside,
      c.loop-i.invariant.1,
    )

pub returns-then-not-accepts : goal.returns-then-not-accepts
returns-then-not-accepts c =
    let w = window_of window_size (take c.loop-i.i c.loop-i.ratios) in
    let rest = drop c.loop-i.at c.args.body.now in
    let v = c.in-Some.v in
    let n = c.in-Some.n in (
      taking_stop strict_one c.args.to c.args.body.now c.args.ratios.now c.args.from c.args.begun c.loop-i.ratios c.loop-i.at c.loop-i.i c.loop-i.invariant.0 c.loop-i-test.true None
          (ap (λ (x : Bool). then_some x (v, n)) (sym c.if-not-accepts.true)
          ∙ strict_if w rest c.open_from.result c.open_from.ensures v n c.accepts.result c.in-Some.is c.accepts.ensures.test) refl,
      c.loop-i.invariant.0.inside,
      record { planes = c.accepts.ensures.kept; marks = c.loop-i.invariant.1.marks },
    )

pub mark-requires : goal.mark-requires
mark-requires c =
    let w = window_of window_size (take c.loop-i.i c.loop-i.ratios) in
    let rest = drop c.loop-i.at c.args.body.now in
    let opens : open_one w rest ≡ Ratio c.in-Some.v c.in-Some.n = sym c.open_from.ensures ∙ c.in-Some.is in
    λ e.
    let m = named_at w c.in-Some.v c.loop-i.at c.args.body.now (named_one w c.in-Some.v rest (opens ∙ ap (Ratio c.in-Some.v) e)) in
    (m.0, (window_inside window_size c.loop-i.ratios c.loop-i.i (omega (arith, c.loop-i-test.true, c.loop-i.invariant.0.sized, c.requires.1)) (get_or c.args.body.now c.loop-i.at 0) m.1).1)

pub overflow_add-next : goal.overflow_add-next
overflow_add-next c =
    let taken = accepted c.args.to c.args.from c.args.begun c.loop-i.at c.loop-i.i c.args.body.now c.args.ratios.now c.loop-i.ratios c.loop-i.invariant.0 c.loop-i-test.true c.requires.1 c.in-Some.v c.in-Some.n
    c.accepts.result c.open_from.result c.open_from.ensures c.in-Some.is c.accepts.ensures.test c.if-not-accepts.false in
    omega (arith, taken.inside, c.well_formed)

pub get_references-k-requires : goal.get_references-k-requires
get_references-k-requires c =
    let w = window_of window_size (take c.loop-i.i c.loop-i.ratios) in
    let rest = drop c.loop-i.at c.args.body.now in
    let more : c.loop-i.i < c.args.to = c.loop-i-test.true in
    let inside : c.loop-i.i < length c.loop-i.ratios = omega (arith, more, c.loop-i.invariant.0.sized, c.requires.1) in
    let opens : open_one w rest ≡ Ratio c.in-Some.v c.in-Some.n = sym c.open_from.ensures ∙ c.in-Some.is in
    let begun : begins (coded c.in-Some.v w) rest ≡ true = sym c.accepts.ensures.test ∙ c.if-not-accepts.false in
    let taken = accepted c.args.to c.args.from c.args.begun c.loop-i.at c.loop-i.i c.args.body.now c.args.ratios.now c.loop-i.ratios c.loop-i.invariant.0 more c.requires.1 c.in-Some.v c.in-Some.n
    c.accepts.result c.open_from.result c.open_from.ensures c.in-Some.is c.accepts.ensures.test c.if-not-accepts.false in
    let marked : c.in-Some.n ≡ 1 → c.mark.new.again ≡ set (set c.loop-i.again (slot_of c.loop-i.i (get_or rest 0 0)) 1) (c.loop-i.i % slots) 0 =
    λ one. rw (rest_first c.loop-i.at c.args.body.now) (c.mark.ensures.0 one) in
    let marks : Marks c.mark.new.again (set c.loop-i.ratios c.loop-i.i c.in-Some.v) (c.loop-i.i + 1) =
    marks_more c.loop-i.again c.loop-i.ratios c.loop-i.i c.in-Some.v c.loop-i.invariant.1.marks (omega (arith, inside)) inside rest c.mark.new.again c.in-Some.n opens begun marked c.mark.ensures.1 in
    (omega (arith, more), omega (arith, c.requires.1, taken.sized), taken.inside, marks)

pub loop-i-preserved : goal.loop-i-preserved
loop-i-preserved c =
    let more : c.loop-i.i < c.args.to = c.loop-i-test.true in
    let inside : c.loop-i.i < length c.loop-i.ratios = omega (arith, more, c.loop-i.invariant.0.sized, c.requires.1) in
    let taken = accepted c.args.to c.args.from c.args.begun c.loop-i.at c.loop-i.i c.args.body.now c.args.ratios.now c.loop-i.ratios c.loop-i.invariant.0 more c.requires.1 c.in-Some.v c.in-Some.n
    c.accepts.result c.open_from.result c.open_from.ensures c.in-Some.is c.accepts.ensures.test c.if-not-accepts.false in
    let kept = set c.loop-i.ratios c.loop-i.i c.in-Some.v in
    let next = c.loop-i.at + c.in-Some.n in
    let p = c.accepts.new.planes in
    let up = c.accepts.ensures.kept in
    let k = c.get_references-k.result in
    let end = c.get_references-k.new.ratios in
    let planes : Kept p.cells kept p.done = kept_set p.cells c.loop-i.ratios p.done c.loop-i.i c.in-Some.v up.1 up.0 in
    let room : c.loop-i.i + 1 ≤ length kept = omega (arith, inside, length-set c.loop-i.ratios c.loop-i.i c.in-Some.v) in
    let joined = taking_join strict_one c.args.to c.args.body.now c.args.ratios.now c.args.from c.args.begun kept next (c.loop-i.i + 1) taken end (next + k) (c.loop-i.i + 1 + k) c.get_references-k.ensures.0 in
    let still : Kept p.cells end p.done =
    taking_kept strict_one c.args.to c.args.body.now kept (c.loop-i.i + 1) next end (next + k) (c.loop-i.i + 1 + k) c.get_references-k.ensures.0 room p.cells p.done (omega (arith, up.1)) planes in
    (joined, record { planes = (still, omega (arith, up.1)); marks = c.get_references-k.ensures.1 })

pub returns : goal.returns
returns c = (
  taking_all strict_one c.args.to c.args.body.now c.args.ratios.now c.args.from c.args.begun c.loop-i.ratios c.loop-i.at c.loop-i.i c.loop-i.invariant.0 (omega arith),
  c.loop-i.invariant.0.inside,
  c.loop-i.invariant.1,
)
