-- `move_points` meets its contract: a law of moves answers each return.
use mathlib.Core.Path.{◌≡◌, ap, ◌∙◌, subst}
use Prim.Native.Nat.{ℕ, ◌≤◌, ◌<◌}
use native.Mathlib.Omega.{arith}
use Rattle.std.specs.Prelude.{Ok, Err}
use Rattle.position_codec.specs.declared.recode.RecodeError.{RecodeError}
use Rattle.position_codec.specs.declared.recode.RecodeError.TheVariants.{Outside, NoRoom}
use Rattle.lists.proofs.Below.{below_of}
use Rattle.record_codec.proofs.mover.Movings.{moves_err, moves_at, PointsPast, points_past, points_stop, body_order, field_order, body-sound, many_stop, put_as, outside_low, outside_stop, move_short, move_ends}
use Rattle.record_codec.proofs.mover.move_points.Goals as goal

pub returns-in_err-points : goal.returns-in_err-points
returns-in_err-points c =
    moves_err c.args.form c.args.input.now c.args.out.now c.args.out.now c.from_residual.result c.from_residual.ensures.1 (points_stop c.requires c.in_err-points.ensures)

pub returns-then-points_of-count : goal.returns-then-points_of-count
returns-then-points_of-count c =
    let past : PointsPast c.args.form c.args.input.now c.args.front c.in_ok-points.points =
    points_past (below_of 256 c.args.input.now (λ i. (c.shared_slice_known-1.given i).fits)) c.requires _ _ _ _ c.in_ok-points.ensures in
    moves_at c.args.form c.args.input.now c.args.out.now c.args.out.now 3 0 c.at.ensures (λ z. omega arith)
    (many_stop past (subst (λ (n : ℕ). n < c.args.front.count) c.points_of.ensures c.if-points_of-count.true) c.args.out.now)

pub slice_bounds-coded-count : goal.slice_bounds-coded-count
slice_bounds-coded-count c =
    let past : PointsPast c.args.form c.args.input.now c.args.front c.in_ok-points.points =
    points_past (below_of 256 c.args.input.now (λ i. (c.shared_slice_known-1.given i).fits)) c.requires _ _ _ _ c.in_ok-points.ensures in
    body_order past

pub slice_bounds-coded-start : goal.slice_bounds-coded-start
slice_bounds-coded-start c =
    let past : PointsPast c.args.form c.args.input.now c.args.front c.in_ok-points.points =
    points_past (below_of 256 c.args.input.now (λ i. (c.shared_slice_known-1.given i).fits)) c.requires _ _ _ _ c.in_ok-points.ensures in
    body_order past

pub slice_bounds-coded-end : goal.slice_bounds-coded-end
slice_bounds-coded-end c =
    let past : PointsPast c.args.form c.args.input.now c.args.front c.in_ok-points.points =
    points_past (below_of 256 c.args.input.now (λ i. (c.shared_slice_known-1.given i).fits)) c.requires _ _ _ _ c.in_ok-points.ensures in
    let within = field_order past in
    omega (arith, within.0, within.1)

pub invariant_of-coded : goal.invariant_of-coded
invariant_of-coded c =
    let past : PointsPast c.args.form c.args.input.now c.args.front c.in_ok-points.points =
    points_past (below_of 256 c.args.input.now (λ i. (c.shared_slice_known-1.given i).fits)) c.requires _ _ _ _ c.in_ok-points.ensures in
    let known = body-sound past in
    record { sound = known.0; few = known.1 }

pub slice_bounds-put_moved-count : goal.slice_bounds-put_moved-count
slice_bounds-put_moved-count c =
    let past : PointsPast c.args.form c.args.input.now c.args.front c.in_ok-points.points =
    points_past (below_of 256 c.args.input.now (λ i. (c.shared_slice_known-1.given i).fits)) c.requires _ _ _ _ c.in_ok-points.ensures in
    (field_order past).0

pub slice_bounds-put_moved-start : goal.slice_bounds-put_moved-start
slice_bounds-put_moved-start c =
    let past : PointsPast c.args.form c.args.input.now c.args.front c.in_ok-points.points =
    points_past (below_of 256 c.args.input.now (λ i. (c.shared_slice_known-1.given i).fits)) c.requires _ _ _ _ c.in_ok-points.ensures in
    (field_order past).0

pub at-requires-in-Err-Outside : goal.at-requires-in-Err-Outside
at-requires-in-Err-Outside c =
    let past : PointsPast c.args.form c.args.input.now c.args.front c.in_ok-points.points =
    points_past (below_of 256 c.args.input.now (λ i. (c.shared_slice_known-1.given i).fits)) c.requires _ _ _ _ c.in_ok-points.ensures in
    let error : c.in-Err-Outside.field-0 ≡ Outside c.in-Err-Outside.i = rw c.in-Err-Outside.is at c.in-Err-Outside.field-0-is in
    let put = put_as past c.args.out.now c.put_moved-moved.new.out c.put_moved-moved.result c.put_moved-moved.ensures (Err (Outside c.in-Err-Outside.i))
    (c.in-Err-Outside.is ∙ ap (λ (e : RecodeError). Err e) error) in
    let low = outside_low past c.args.out.now c.put_moved-moved.new.out c.in-Err-Outside.i put in
    omega arith

pub returns-in-Err-Outside : goal.returns-in-Err-Outside
returns-in-Err-Outside c =
    let past : PointsPast c.args.form c.args.input.now c.args.front c.in_ok-points.points =
    points_past (below_of 256 c.args.input.now (λ i. (c.shared_slice_known-1.given i).fits)) c.requires _ _ _ _ c.in_ok-points.ensures in
    let error : c.in-Err-Outside.field-0 ≡ Outside c.in-Err-Outside.i = rw c.in-Err-Outside.is at c.in-Err-Outside.field-0-is in
    let put = put_as past c.args.out.now c.put_moved-moved.new.out c.put_moved-moved.result c.put_moved-moved.ensures (Err (Outside c.in-Err-Outside.i))
    (c.in-Err-Outside.is ∙ ap (λ (e : RecodeError). Err e) error) in
    moves_at c.args.form c.args.input.now c.args.out.now c.put_moved-moved.new.out 5 _ c.at-in-Err-Outside.ensures (λ z. omega arith)
    (outside_stop past c.args.out.now c.put_moved-moved.new.out c.in-Err-Outside.i put)

pub returns-in-Err-NoRoom : goal.returns-in-Err-NoRoom
returns-in-Err-NoRoom c =
    let past : PointsPast c.args.form c.args.input.now c.args.front c.in_ok-points.points =
    points_past (below_of 256 c.args.input.now (λ i. (c.shared_slice_known-1.given i).fits)) c.requires _ _ _ _ c.in_ok-points.ensures in
    let few = subst (λ (n : ℕ). c.args.front.count ≤ n) c.points_of.ensures c.if-points_of-count.false in
    let error : c.in-Err-NoRoom.field-0 ≡ NoRoom = rw c.in-Err-NoRoom.is at c.in-Err-NoRoom.field-0-is in
    let put = put_as past c.args.out.now c.put_moved-moved.new.out c.put_moved-moved.result c.put_moved-moved.ensures (Err NoRoom)
    (c.in-Err-NoRoom.is ∙ ap (λ (e : RecodeError). Err e) error) in
    moves_at c.args.form c.args.input.now c.args.out.now c.put_moved-moved.new.out 6 0 c.at-in-Err-NoRoom.ensures (λ z. omega arith)
    (move_short past few c.args.out.now c.put_moved-moved.new.out put)

pub returns-in-Ok : goal.returns-in-Ok
returns-in-Ok c =
    let past : PointsPast c.args.form c.args.input.now c.args.front c.in_ok-points.points =
    points_past (below_of 256 c.args.input.now (λ i. (c.shared_slice_known-1.given i).fits)) c.requires _ _ _ _ c.in_ok-points.ensures in
    let few = subst (λ (n : ℕ). c.args.front.count ≤ n) c.points_of.ensures c.if-points_of-count.false in
    move_ends past few c.args.out.now c.put_moved-moved.new.out c.in-Ok.length
    (put_as past c.args.out.now c.put_moved-moved.new.out c.put_moved-moved.result c.put_moved-moved.ensures (Ok c.in-Ok.length) c.in-Ok.is)
