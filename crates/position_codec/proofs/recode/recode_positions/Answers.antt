-- `recode_positions` meets its contract: the goals that the check leaves.
use native.Mathlib.Omega.{arith}
use Rattle.lists.proofs.Below.{below_of}
use Rattle.position_format.specs.Tables.{table_of}
use Rattle.position_format.specs.Positions.{position_bits, coded_positions}
use Rattle.position_format.proofs.Tables.{table_good}
use Rattle.position_format.proofs.Positions.{positions_below}
use Rattle.position_codec.specs.Coded.{positions_of}
use Rattle.position_codec.proofs.Codes.{codable_valid}
use Rattle.position_codec.proofs.Recoding.{recoded_into}
use Rattle.position_codec.proofs.recode.Passing.{short, first_inside, first_passed, place_small, all_codable, all_held, all_placed, body_long, code_left}
use Rattle.position_codec.proofs.recode.Passing.{run_room, three_passed, one_outside, one_room, one_bits, row_there, row_narrow, one_passed}
use Rattle.position_codec.proofs.recode.recode_positions.Goals as goal

pub copy_first-s-requires : goal.copy_first-s-requires
copy_first-s-requires c =
    let a = c.args in (
      omega (arith, c.min-i.ensures),
      first_inside a.coded a.to c.min-i.result (omega (arith, c.min-i.ensures)) (omega (arith, c.min-i.ensures)),
      omega (arith, short a.coded a.to),
    )

pub loop-i-init : goal.loop-i-init
loop-i-init c =
    let a = c.args in
    let s = c.copy_first-s in
    first_passed a.coded a.to c.min-i.result (omega (arith, c.min-i.ensures)) (omega (arith, c.min-i.ensures)) a.out.now s.new.out s.result
    (λ h. omega (arith, c.min-i.ensures)) (omega (arith, s.ensures.0)) s.ensures.1 s.ensures.2

pub get_ahead-w-requires : goal.get_ahead-w-requires
get_ahead-w-requires c =
    let a = c.args in
    let l = c.loop-i in
    (body_long a.coded a.to a.out.now l.out l.i l.at l.s l.invariant c.loop-i-test.true, omega (arith, short a.coded a.to), code_left a.coded a.to a.out.now l.out l.i l.at l.s l.invariant c.loop-i-test.true)

pub put_front-s-requires : goal.put_front-s-requires
put_front-s-requires c =
    let a = c.args in
    let l = c.loop-i in
    (c.in-Some.ensures.0, omega (arith, c.in-Some.ensures.1), omega (arith, place_small a.coded a.to a.out.now l.out l.i l.at l.s l.invariant))

pub overflow_add-at : goal.overflow_add-at
overflow_add-at c =
    let a = c.args in
    let l = c.loop-i in
    record { fits = omega (arith, run_room a.coded a.to a.out.now l.out l.i l.at l.s l.invariant c.loop-i-test.true c.get_ahead-w.result c.get_ahead-w.ensures c.in-Some.k c.in-Some.ensures.1 c.in-Some.ensures.2 (c.in-Some.ensures.3 a.coded.body.now l.at c.get_ahead-w.ensures), short a.coded a.to) }

pub loop-i-preserved-in-Some : goal.loop-i-preserved-in-Some
loop-i-preserved-in-Some c =
    let a = c.args in
    let l = c.loop-i in
    three_passed a.coded a.to a.out.now l.out l.i l.at l.s l.invariant c.loop-i-test.true c.get_ahead-w.result c.get_ahead-w.ensures c.in-Some.k c.in-Some.ensures.1 c.in-Some.ensures.2 (c.in-Some.ensures.3 a.coded.body.now l.at c.get_ahead-w.ensures) c.put_front-s.result c.put_front-s.new.out c.put_front-s.ensures.0 c.put_front-s.ensures.1

pub returns-then-not-has_row : goal.returns-then-not-has_row
returns-then-not-has_row c =
    let a = c.args in
    let l = c.loop-i in
    one_outside a.coded a.to a.out.now l.out l.i l.at l.s l.invariant c.loop-i-test.true c.get_ahead-w.result c.get_ahead-w.ensures c.lead_at-lead.result (c.lead_at-lead.ensures.1 a.coded.body.now l.at) c.has_row.result c.has_row.ensures c.if-not-has_row.true

pub put_code-s-requires : goal.put_code-s-requires
put_code-s-requires c =
    let a = c.args in
    let l = c.loop-i in (
      row_there a.coded a.to a.out.now l.out l.i l.at l.s l.invariant c.loop-i-test.true c.get_ahead-w.result c.get_ahead-w.ensures c.lead_at-lead.result (c.lead_at-lead.ensures.1 a.coded.body.now l.at) c.has_row.result c.has_row.ensures c.if-not-has_row.false,
      row_narrow a.coded a.to a.out.now l.out l.i l.at l.s l.invariant c.loop-i-test.true c.get_ahead-w.result c.get_ahead-w.ensures c.lead_at-lead.result (c.lead_at-lead.ensures.1 a.coded.body.now l.at) c.has_row.result c.has_row.ensures c.if-not-has_row.false,
      one_room a.coded a.to a.out.now l.out l.i l.at l.s l.invariant c.loop-i-test.true c.get_ahead-w.result c.get_ahead-w.ensures c.lead_at-lead.result (c.lead_at-lead.ensures.1 a.coded.body.now l.at) c.has_row.result c.has_row.ensures,
      omega (arith, short a.coded a.to),
      place_small a.coded a.to a.out.now l.out l.i l.at l.s l.invariant,
      c.get_ahead-w.ensures,
      one_bits a.coded a.to a.out.now l.out l.i l.at l.s l.invariant c.loop-i-test.true c.get_ahead-w.result c.get_ahead-w.ensures c.lead_at-lead.result (c.lead_at-lead.ensures.1 a.coded.body.now l.at) c.has_row.result c.has_row.ensures,
    )

pub overflow_add-at-in-loop-i : goal.overflow_add-at-in-loop-i
overflow_add-at-in-loop-i c =
    let a = c.args in
    let l = c.loop-i in
    record { fits = omega (arith, one_room a.coded a.to a.out.now l.out l.i l.at l.s l.invariant c.loop-i-test.true c.get_ahead-w.result c.get_ahead-w.ensures c.lead_at-lead.result (c.lead_at-lead.ensures.1 a.coded.body.now l.at) c.has_row.result c.has_row.ensures, short a.coded a.to) }

pub loop-i-preserved : goal.loop-i-preserved
loop-i-preserved c =
    let a = c.args in
    let l = c.loop-i in
    one_passed a.coded a.to a.out.now l.out l.i l.at l.s l.invariant c.loop-i-test.true c.get_ahead-w.result c.get_ahead-w.ensures c.lead_at-lead.result (c.lead_at-lead.ensures.1 a.coded.body.now l.at) c.has_row.result c.has_row.ensures c.if-not-has_row.false c.put_code-s.result c.put_code-s.new.out c.put_code-s.ensures.0 c.put_code-s.ensures.1

pub put_last-requires : goal.put_last-requires
put_last-requires c =
    let a = c.args in
    let l = c.loop-i in
    omega (arith, place_small a.coded a.to a.out.now l.out l.i l.at l.s l.invariant)

pub returns : goal.returns
unfolding coded_positions
returns c =
    let a = c.args in
    let l = c.loop-i in
    let ts = positions_of a.coded in
    let codable = all_codable a.coded a.to a.out.now l.out l.i l.at l.s l.invariant c.loop-i-test.false in
    recoded_into a.to ts c.put_last.result a.out.now c.put_last.new.out codable
    (c.put_last.ensures a.out.now (position_bits (table_of a.to) ts) (below_of 256 a.out.now (λ j. (c.slice_known-1.given j).fits))
    (positions_below (table_of a.to) (table_good a.to) ts (codable_valid a.to ts codable))
    (all_held a.coded a.to a.out.now l.out l.i l.at l.s l.invariant c.loop-i-test.false)
    (all_placed a.coded a.to a.out.now l.out l.i l.at l.s l.invariant c.loop-i-test.false))
    c.ok_or.result c.ok_or.ensures.value
