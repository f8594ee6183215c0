-- `inputs::read_input` meets its contract, by what the check answers and the fetch leaves.
use mathlib.Core.Path.{refl, ap, ◌∙◌}
use native.Mathlib.Omega.{arith}
use Rattle.lists.proofs.Below.{below_of}
use Rattle.record_format.specs.Claims.{Bytes}
use Rattle.record_format.specs.declared.FetchAnswer.{FetchAnswer}
use Rattle.inputs.proofs.Readings.{fetched_clear, reading-fetched, reading_err}
use Rattle.inputs.proofs.read_input.Goals as goal

pub returns-in_err-found-clause-read : goal.returns-in_err-found-clause-read
returns-in_err-found-clause-read c =
    let bytes : Bytes c.args.input.now = below_of 256 c.args.input.now (λ i. (c.shared_slice_known-1.given i).fits) in
    reading_err c.from_residual.result bytes c.requires c.from_residual.ensures.1 c.in_err-found.ensures.answer c.in_err-found.ensures.numbered

pub returns-in_err-fetch-clause-read : goal.returns-in_err-fetch-clause-read
returns-in_err-fetch-clause-read c =
    let bytes : Bytes c.args.input.now = below_of 256 c.args.input.now (λ i. (c.shared_slice_known-1.given i).fits) in
    let clear = fetched_clear c.args.input.now bytes c.requires c.in_ok-found.ensures.answer c.args.positions.now c.args.ratios.now refl (omega arith) (omega arith) in
    absurd (c.in_err-fetch.ensures.numbered (ap (λ (a : FetchAnswer). a.number) c.in_err-fetch.ensures.answer ∙ clear))

pub returns-clause-read : goal.returns-clause-read
returns-clause-read c =
    let bytes : Bytes c.args.input.now = below_of 256 c.args.input.now (λ i. (c.shared_slice_known-1.given i).fits) in
    reading-fetched c.args.input.now bytes c.requires c.in_ok-found.ensures.answer c.args.positions.now c.args.ratios.now refl (omega arith) (omega arith)
    c.in_ok-fetch.ensures.points.0 c.in_ok-fetch.ensures.points.1
