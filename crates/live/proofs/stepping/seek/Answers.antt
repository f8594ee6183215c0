-- `live::stepping::seek` meets its contract: the refusal 7, the end or 18 when all are given, and before that what is read.
use Rattle.std.proofs.Common.{◌≡◌, sym, ap, ◌∙◌, arith, false}
use Rattle.outputs.proofs.Outputs.Parts.{rest_is}
use Rattle.ratio_format.specs.Windows.{held}
use Rattle.ratio_format.specs.Open.{strict_one}
use Rattle.ratio_format.specs.Stepping.{bad_cursor, next_read}
use Rattle.ratio_format.proofs.Stepping.{left_bad, left_end, left_over}
use Rattle.live.proofs.States.{seen_all, read_next}
use Rattle.live.proofs.stepping.seek.Goals as goal

pub returns-then-bad_cursor : goal.returns-then-bad_cursor
returns-then-bad_cursor c =
    let left = left_bad c.args.body.now c.args.cursor.now (sym c.bad_cursor.ensures ∙ c.if-bad_cursor.true) in
    rw c.at.ensures (left.0, left.1, λ z. omega arith)

pub returns-then-cursor : goal.returns-then-cursor
returns-then-cursor c =
    let good : bad_cursor c.args.body.now c.args.cursor.now ≡ false = sym c.bad_cursor.ensures ∙ c.if-bad_cursor.false in
    let reads : c.read_one_strict.result ≡ next_read c.args.body.now c.args.cursor.now = c.read_one_strict.ensures ∙ ap (strict_one (held c.args.cursor.now.window)) (rest_is c.args.cursor.now.place c.args.body.now) in
    rw (c.ok_or.ensures.value, c.at-then-cursor.ensures)
    (read_next c.args.body.now c.args.cursor.now good c.if-cursor.true c.read_one_strict.result (sym reads))

pub returns-then-cursor-body : goal.returns-then-cursor-body
returns-then-cursor-body c =
    let good : bad_cursor c.args.body.now c.args.cursor.now ≡ false = sym c.bad_cursor.ensures ∙ c.if-bad_cursor.false in
    let left = left_end c.args.body.now c.args.cursor.now good (seen_all c.args.body.now c.args.cursor.now good c.if-cursor.false) c.if-cursor-body.true in
    rw c.at-then-cursor-body.ensures (left.0, left.1, λ z. omega arith)

pub returns : goal.returns
returns c =
    let good : bad_cursor c.args.body.now c.args.cursor.now ≡ false = sym c.bad_cursor.ensures ∙ c.if-bad_cursor.false in
    let left = left_over c.args.body.now c.args.cursor.now good (seen_all c.args.body.now c.args.cursor.now good c.if-cursor.false) c.if-cursor-body.false in
    rw c.at-2.ensures (left.0, left.1, λ z. omega arith)
