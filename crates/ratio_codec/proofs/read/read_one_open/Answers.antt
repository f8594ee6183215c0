-- `read_one_open` meets its contract: a law for each outcome.
use Rattle.std.proofs.Common.{ap, ◌∙◌, reverse}
use Rattle.std.proofs.lemmas.List.{length-reverse}
use Rattle.ratio_format.specs.Open.{open_xor}
use Rattle.ratio_format.proofs.Open.{open_empty, open_reference, open_far, open_xor_lem, open_away, open_exception, open_cut}
use Rattle.outputs.proofs.Outputs.Parts.{rest_is}
use Rattle.ratio_codec.proofs.read.First.{first_is, first_none}
use Rattle.ratio_codec.proofs.read.read_one_open.Goals as goal

pub returns-in_err-b : goal.returns-in_err-b
returns-in_err-b c = c.from_residual.ensures ∙ open_empty (reverse c.args.window.now) c.args.s.now (first_none c.args.s.now c.in_err-b.ensures.value)

pub returns-in_err-u : goal.returns-in_err-u
returns-in_err-u c =
    let f = first_is c.args.s.now c.in_ok-b.field-0.now c.in_ok-b.ensures.value in
    c.from_residual-in_err-u.ensures
    ∙ open_far (reverse c.args.window.now) c.args.s.now f.0 (rw f.1 at c.if-b-lt-XOR.true) (rw length-reverse (rw f.1 at c.in_err-u.ensures))

pub returns-then-b-lt-XOR : goal.returns-then-b-lt-XOR
returns-then-b-lt-XOR c =
    let f = first_is c.args.s.now c.in_ok-b.field-0.now c.in_ok-b.ensures.value in
    let h = rw f.1 at c.in_ok-u.ensures in
    open_reference (reverse c.args.window.now) c.args.s.now c.in_ok-u.u f.0 (rw f.1 at c.if-b-lt-XOR.true) (rw length-reverse h.0) h.1

pub returns-in_err-u-2 : goal.returns-in_err-u-2
returns-in_err-u-2 c =
    let f = first_is c.args.s.now c.in_ok-b.field-0.now c.in_ok-b.ensures.value in
    c.from_residual-in_err-u-2.ensures
    ∙ open_away (reverse c.args.window.now) c.args.s.now f.0 (rw f.1 at c.if-b-lt-XOR.false) (rw f.1 at c.if-b-lt-EXCEPTION.true)
    (rw length-reverse (rw f.1 at c.in_err-u-2.ensures))

pub returns-then-b-lt-EXCEPTION : goal.returns-then-b-lt-EXCEPTION
returns-then-b-lt-EXCEPTION c =
    let f = first_is c.args.s.now c.in_ok-b.field-0.now c.in_ok-b.ensures.value in
    let h = rw f.1 at c.in_ok-u-2.ensures in
    open_xor_lem (reverse c.args.window.now) c.args.s.now c.in_ok-u-2.u c.read_xor.result f.0 (rw f.1 at c.if-b-lt-XOR.false)
    (rw f.1 at c.if-b-lt-EXCEPTION.true) (rw length-reverse h.0) h.1 (c.read_xor.ensures ∙ ap (open_xor c.in_ok-u-2.u) (rest_is 1 c.args.s.now))

pub returns-then-s-lt9 : goal.returns-then-s-lt9
returns-then-s-lt9 c =
    let f = first_is c.args.s.now c.in_ok-b.field-0.now c.in_ok-b.ensures.value in
    open_cut (reverse c.args.window.now) c.args.s.now f.0 (rw f.1 at c.if-b-lt-EXCEPTION.false) c.if-s-lt9.true

pub returns : goal.returns
returns c =
    let f = first_is c.args.s.now c.in_ok-b.field-0.now c.in_ok-b.ensures.value in
    open_exception (reverse c.args.window.now) c.args.s.now c.get_bytes.result (rw f.1 at c.if-b-lt-EXCEPTION.false) c.if-s-lt9.false c.get_bytes.ensures.0
