-- `read_xor` meets its contract: a law for each outcome.
use Rattle.std.proofs.Common.{ap, ◌∙◌, ℕ, ◌+◌, ◌/◌, ◌%◌, arith}
use lib.Bits.{bit_xor}
use Rattle.ratio_format.specs.Open.{Ratio}
use Rattle.ratio_format.proofs.Zeros.{raised_fits}
use Rattle.ratio_format.proofs.Open.{xor-empty, xor_high, xor_short, xor_good}
use Rattle.ratio_codec.proofs.read.First.{first_is, first_none}
use Rattle.ratio_codec.proofs.read.read_xor.Goals as goal
use Rattle.ratio_codec.proofs.read.read_xor.Goals.{then-trail-len-gt8-via-then-trail-len-gt8, then-trail-len-gt8-via-else-trail-len-gt8+then-s-len}

pub returns-in_err-c : goal.returns-in_err-c
returns-in_err-c c = c.from_residual.ensures ∙ xor-empty c.args.u c.args.s.now (first_none c.args.s.now c.in_err-c.ensures.value)

pub returns-then-trail-len-gt8 : goal.returns-then-trail-len-gt8
returns-then-trail-len-gt8 c =
    let f = first_is c.args.s.now c.in_ok-c.field-0.now c.in_ok-c.ensures.value in
    elim c.then-trail-len-gt8.branch [
      | then-trail-len-gt8-via-then-trail-len-gt8 w ↦ xor_high c.args.u c.args.s.now f.0 (rw f.1 at w.if-trail-len-gt8.true)
      | then-trail-len-gt8-via-else-trail-len-gt8+then-s-len w ↦ xor_short c.args.u c.args.s.now f.0 (rw f.1 at w.if-trail-len-gt8.false) (rw f.1 at w.if-s-len.true)
    ]

pub raised-requires : goal.raised-requires
raised-requires c =
    let b = c.in_ok-c.field-0.now in
    (omega arith, raised_fits c.middle_of-m.result (b % 16) (b / 16) c.middle_of-m.ensures.1 c.if-trail-len-gt8.false)

pub returns : goal.returns
returns c =
    let f = first_is c.args.s.now c.in_ok-c.field-0.now c.in_ok-c.ensures.value in
    ap (λ (b : ℕ). Ratio (bit_xor c.raised.result c.args.u) (b % 16 + 2)) f.1
    ∙ xor_good c.args.u c.args.s.now c.middle_of-m.result c.raised.result f.0 (rw f.1 at c.if-trail-len-gt8.false) (rw f.1 at c.if-s-len.false)
    (rw f.1 at c.middle_of-m.ensures.0) (rw f.1 at c.raised.ensures)
