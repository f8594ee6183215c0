-- `get_references` meets its contract: the goals that the check leaves.
use mathlib.Core.Path.{◌≡◌, refl, sym, ap, ◌∙◌, subst}
use mathlib.Core.List.{List}
use Prim.Native.Nat.{ℕ, ◌+◌, ◌-◌, ◌%◌, ◌≤◌, ◌<◌}
use native.Mathlib.Omega.{arith}
use lib.ListN.{length, get_or, take, drop, set, length-drop}
use Rattle.ratio_format.specs.Windows.{window_size, window_of}
use Rattle.ratio_format.specs.Open.{Ratio, strict_one}
use Rattle.ratio_format.proofs.Bodies.Taken.{strict_within}
use Rattle.ratio_format.proofs.Windows.Before.{window_has, window_at_lem}
use Rattle.ratio_search.specs.BytePlanes.{slots}
use Rattle.ratio_bodies.specs.Marks.{slot_of, Marks}
use Rattle.ratio_bodies.specs.Taking.{Taking}
use Rattle.ratio_bodies.proofs.ahead.FirstByte.{rest_first}
use Rattle.ratio_bodies.proofs.Marks.{mark_accepts, marks_named}
use Rattle.ratio_bodies.proofs.Taking.{taking_start, taking_more}
use Rattle.ratio_bodies.proofs.strict.get_references.Goals as goal

pub loop-k-init : goal.loop-k-init
loop-k-init c =
    let e : c.args.at + 0 ≡ c.args.at = omega arith in
    let f : c.args.i + 0 ≡ c.args.i = omega arith in
    rw (e, f) (taking_start strict_one c.args.to c.args.body.now c.args.ratios.now c.args.i c.args.at c.requires.0 c.requires.2, c.requires.3)

pub loop-k-preserved : goal.loop-k-preserved
loop-k-preserved c =
    let i = c.args.i + c.loop-k.k in
    let at = c.args.at + c.loop-k.k in
    let w = window_of window_size (take i c.loop-k.ratios) in
    let rest = drop at c.args.body.now in
    let v = get_or c.loop-k.ratios (i - 1 - c.in-Some.place) 0 in
    let few : c.in-Some.place < window_size = c.in-Some.ensures.0 in
    let found : (at < length c.args.body.now) × (get_or c.args.body.now at 0 ≡ c.in-Some.place) × (c.in-Some.place < i) × (get_or c.loop-k.again (slot_of i c.in-Some.place) 0 ≡ 0) = (c.in-Some.ensures.1, c.in-Some.ensures.2, c.in-Some.ensures.3, c.in-Some.ensures.4) in
    let more : i < c.args.to = omega arith in
    let inside : i < length c.loop-k.ratios = omega (arith, more, c.loop-k.invariant.0.sized, c.requires.1) in
    let room : i ≤ length c.loop-k.ratios = omega (arith, inside) in
    let has : c.in-Some.place < length w = window_has window_size c.loop-k.ratios i room c.in-Some.place few found.2 in
    let holds : get_or w c.in-Some.place 0 ≡ v = window_at_lem window_size c.loop-k.ratios i room c.in-Some.place few found.2 in
    let accepted : Ratio v 1 ≡ strict_one w rest = mark_accepts c.loop-k.again c.loop-k.ratios i v c.loop-k.invariant.1 room c.in-Some.place has holds rest
    (omega (arith, found.0, length-drop at c.args.body.now)) (rest_first at c.args.body.now ∙ found.1) found.3 in
    let taken : Taking strict_one c.args.to c.args.body.now c.args.ratios.now c.args.i c.args.at (set c.loop-k.ratios i v) (at + 1) (i + 1) = taking_more strict_one c.args.to c.args.body.now c.args.ratios.now c.args.i c.args.at c.loop-k.ratios at i c.loop-k.invariant.0 more (Ratio v 1) accepted strict_within v 1 refl c.requires.1 in
    let marked : Marks (set (set c.loop-k.again (slot_of i c.in-Some.place) 1) (i % slots) 0) (set c.loop-k.ratios i v) (i + 1) = marks_named c.loop-k.again c.loop-k.ratios i v c.loop-k.invariant.1 room inside c.in-Some.place has holds found.3 in
    let p : c.args.at + (c.loop-k.k + 1) ≡ at + 1 = omega arith in
    let q : c.args.i + (c.loop-k.k + 1) ≡ i + 1 = omega arith in
    let m : c.mark.new.again ≡ set (set c.loop-k.again (slot_of i c.in-Some.place) 1) (i % slots) 0 =
    c.mark.ensures.0 refl ∙ ap (λ (b : ℕ). set (set c.loop-k.again (slot_of i b) 1) (i % slots) 0) found.1 in
    rw (p, q) (taken, subst (λ (ms : List ℕ). Marks ms (set c.loop-k.ratios i v) (i + 1)) (sym m) marked)
