-- `walk_positions` meets its contract: the goals that the check leaves.
use mathlib.Core.Bool.{false}
use mathlib.Core.List.{List, []}
use mathlib.Core.Option.{none}
use mathlib.Core.Path.{◌≡◌, refl}
use Prim.Native.Nat.{ℕ, ◌+◌}
use native.Mathlib.Omega.{arith}
use lib.ListN.{length}
use Rattle.lists.proofs.Below.{below_of}
use Rattle.position_format.specs.declared.Form.{Form}
use Rattle.position_format.specs.Tables.{table_of}
use Rattle.position_format.specs.Positions.{read_positions}
use Rattle.position_format.proofs.Tables.{table_good}
use Rattle.position_codec.specs.Found.{FilledPart}
use Rattle.position_codec.proofs.read.State.{body_long, state_start, state_raw, state_far, state-none, state_end, part_none, walked_more, walked_inside}
use Rattle.position_codec.proofs.read.walk_positions.Goals as goal

off : (f : Form) (n : ℕ) (body o p : List ℕ) → read_positions (table_of f) n body ≡ none → FilledPart (read_positions (table_of f) n body) false o p
off f n body o p e = rw e refl

pub returns-then-body-gt-MAX_BYTES : goal.returns-then-body-gt-MAX_BYTES
returns-then-body-gt-MAX_BYTES c = off c.args.form c.args.count c.args.body.now _ _ (body_long c.args.form c.args.count c.args.body.now c.requires c.if-body-gt-MAX_BYTES.true)

pub loop-i-init : goal.loop-i-init
loop-i-init c = record { ts = []; state = state_start (table_of c.args.form) (table_good c.args.form) c.args.count c.args.body.now; output = part_none (length c.args.out.now) c.args.out.now }

pub invariant_of-place : goal.invariant_of-place
invariant_of-place c =
    let a = c.args in
    let l = c.loop-i in
    record { short = omega (arith, c.if-body-gt-MAX_BYTES.false); inside = walked_inside a.form a.count a.body.now a.out.now l.out l.at l.two.0 l.two.1.0 l.i l.invariant }

pub point-requires : goal.point-requires
point-requires c =
    let a = c.args in
    let l = c.loop-i in
    let w = l.invariant in
    let rs = table_of a.form in
    let g = table_good a.form in (
      state_raw rs g a.count a.body.now w.ts l.at l.two.0 l.two.1.0 l.i w.state,
      state_far rs g a.count a.body.now w.ts l.at l.two.0 l.two.1.0 l.i w.state,
    )

pub returns-in_default : goal.returns-in_default
returns-in_default c =
    let a = c.args in
    let l = c.loop-i in
    let w = l.invariant in
    off a.form a.count a.body.now _ _
    (state-none (table_of a.form) (table_good a.form) a.count a.body.now w.ts l.at l.two.0 l.two.1.0 l.i w.state c.loop-i-test.true c.in_default.ensures)

pub overflow_add-at : goal.overflow_add-at
overflow_add-at c =
    let a = c.args in
    let l = c.loop-i in
    let s = c.in-Some in
    let in_body =
    walked_inside a.form a.count a.body.now a.out.now c.keep.new.out (l.at + s.n) l.two.1.0 s.t (l.i + 1)
    (walked_more a.form a.count a.body.now a.out.now l.out l.at l.two.0 l.two.1.0 l.i l.invariant c.loop-i-test.true s.t s.n s.ensures.0 s.ensures.1 c.keep.new.out c.keep.ensures) in
    record { fits = omega (arith, in_body, c.if-body-gt-MAX_BYTES.false) }

pub invariant_of-two : goal.invariant_of-two
invariant_of-two c = record { before_small = c.loop-i.invariant.state.a_small; last_small = c.loop-i.invariant.state.b_small }

pub loop-i-preserved : goal.loop-i-preserved
loop-i-preserved c =
    let a = c.args in
    let l = c.loop-i in
    let s = c.in-Some in
    walked_more a.form a.count a.body.now a.out.now l.out l.at l.two.0 l.two.1.0 l.i l.invariant c.loop-i-test.true s.t s.n s.ensures.0 s.ensures.1 c.keep.new.out c.keep.ensures

pub invariant_of-end : goal.invariant_of-end
invariant_of-end c =
    let a = c.args in
    let l = c.loop-i in
    record { short = omega (arith, c.if-body-gt-MAX_BYTES.false); inside = walked_inside a.form a.count a.body.now a.out.now l.out l.at l.two.0 l.two.1.0 l.i l.invariant }

pub returns : goal.returns
returns c =
    let a = c.args in
    let l = c.loop-i in
    let w = l.invariant in
    state_end (table_of a.form) (table_good a.form) a.count a.body.now w.ts l.at l.two.0 l.two.1.0 l.i w.state c.loop-i-test.false
    (below_of 256 a.body.now (λ j. (c.type_inv.body j).fits)) c.is_fill.result c.is_fill.ensures a.out.now l.out w.output
