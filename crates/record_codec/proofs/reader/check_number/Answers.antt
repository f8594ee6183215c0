-- `check_number` meets its contract: what a check answers fits one number.
use mathlib.Core.Path.{sym, subst}
use native.Mathlib.Omega.{arith}
use Rattle.std.specs.Prelude.{Ok, Err}
use Rattle.lists.proofs.Below.{below_of}
use Rattle.record_format.specs.declared.CheckAnswer.{CheckAnswer}
use Rattle.record_format.specs.Answers.{check_answer}
use Rattle.record_format.specs.Checking.{check_number}
use Rattle.record_format.specs.CheckClaims.{TellsAnswer}
use Rattle.record_format.proofs.CheckClaims.Numbers.{number_tells}
use Rattle.record_codec.proofs.reader.check_number.Goals as goal

pub overflow_cast-result : goal.overflow_cast-result
overflow_cast-result c =
    let a = check_answer (Ok c.in-Ok.found) in
    let told : TellsAnswer a (check_number a) = subst (λ (x : CheckAnswer). TellsAnswer x (check_number x)) (sym c.in-Ok.ensures.answer)
    (number_tells c.args.expected c.args.input.now (below_of 256 c.args.input.now (λ i. (c.shared_slice_known-1.given i).fits))) in
    omega (arith, told.fits)

pub overflow_mul-result : goal.overflow_mul-result
overflow_mul-result c =
    let a = check_answer (Err c.in-Err.refusal) in
    let told : TellsAnswer a (check_number a) = subst (λ (x : CheckAnswer). TellsAnswer x (check_number x)) (sym c.in-Err.ensures.answer)
    (number_tells c.args.expected c.args.input.now (below_of 256 c.args.input.now (λ i. (c.shared_slice_known-1.given i).fits))) in
    let n = told.refused c.in-Err.ensures.numbered in
    omega (arith, told.fits, n.1)

pub overflow_add-result : goal.overflow_add-result
overflow_add-result c =
    let a = check_answer (Err c.in-Err.refusal) in
    let told : TellsAnswer a (check_number a) = subst (λ (x : CheckAnswer). TellsAnswer x (check_number x)) (sym c.in-Err.ensures.answer)
    (number_tells c.args.expected c.args.input.now (below_of 256 c.args.input.now (λ i. (c.shared_slice_known-1.given i).fits))) in
    let n = told.refused c.in-Err.ensures.numbered in
    omega (arith, told.fits, n.1, n.2)
