-- `put_points` meets its contract: one more point, and none.
use mathlib.Core.Path.{refl, ap, ◌∙◌}
use native.Mathlib.Omega.{arith}
use lib.ListN.{length, length-append}
use Rattle.std.specs.Prelude.{None, Some}
use Rattle.std.proofs.lemmas.Slice.Zip.{Zip-more}
use Rattle.std.proofs.lemmas.Iterator.{empty_from_Zip}
use Rattle.listing.specs.Lines.{point_line, point_lines}
use Rattle.listing.proofs.Lines.{points_step, points_end}
use Rattle.listing.proofs.put_points.Goals as goal

pub loop-position-preserved : goal.loop-position-preserved
loop-position-preserved c =
    let more = Zip-more c.loop-position.position-iterator c.next.new.self (Some (c.in-Some.position, c.in-Some.ratio)) (c.in-Some.position, c.in-Some.ratio) refl c.in-Some.ensures.steps in
    let before = c.loop-position.invariant in
    let t = c.in-Some.position.now in
    let v = c.in-Some.ratio.now in (
      (tt, tt),
      tt,
      omega (arith, before.2, ap length more.0, ap length more.1),
      points_step c.loop-position.out c.put_point.new.out _ _ t v more.0 more.1 c.put_point.ensures.text ∙ before.3,
      omega (arith, before.4, ap length more.0, ap length c.put_point.ensures.text, c.put_point.ensures.most, length-append c.loop-position.out (point_line t v)),
    )

pub returns-clause-text : goal.returns-clause-text
returns-clause-text c =
    let none = empty_from_Zip c.loop-position.position-iterator c.next.new.self None refl c.in-None.ensures.steps c.loop-position.invariant.2 in
    points_end c.loop-position.out _ _ none.0 ∙ c.loop-position.invariant.3

pub returns-clause-most : goal.returns-clause-most
returns-clause-most c =
    let none = empty_from_Zip c.loop-position.position-iterator c.next.new.self None refl c.in-None.ensures.steps c.loop-position.invariant.2 in
    let text = points_end c.loop-position.out _ _ none.0 ∙ c.loop-position.invariant.3 in
    omega (arith, ap length text, length-append c.args.out.now (point_lines c.args.positions.now c.args.ratios.now), c.loop-position.invariant.4)
