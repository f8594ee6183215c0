-- `write_into` meets its contract, by what `check_run` and `put_record` answer.
use mathlib.Core.Path.{ap, sym, ◌∙◌, subst}
use Prim.Native.Nat.{ℕ}
use native.Mathlib.Omega.{arith}
use Rattle.std.specs.Prelude.{Err}
use Rattle.position_codec.proofs.Codes.{valid_codable}
use Rattle.refusals.specs.declared.Refusal.{Refusal}
use Rattle.record_format.specs.declared.WriteAnswer.{WriteAnswer}
use Rattle.record_codec.specs.Given.{run_of}
use Rattle.record_format.proofs.Writing.{accepted_fits, fitting_few, clear_accepts, run_no_room, run-written}
use Rattle.record_codec.specs.Answers.{Writes}
use Rattle.record_codec.proofs.writer.CheckRun.{writes_err}
use Rattle.record_codec.proofs.writer.write_into.Goals as goal

abbrev answer : ℕ → WriteAnswer
answer n = record { number = 0; place = 0; length = n }

pub returns-in_err-check_run : goal.returns-in_err-check_run
returns-in_err-check_run c =
    writes_err (run_of c.args.run.now) c.args.out.now c.args.out.now c.from_residual.result c.from_residual.ensures.1
    c.in_err-check_run.ensures

pub put_record-requires : goal.put_record-requires
put_record-requires c =
    let r = run_of c.args.run.now in
    let fits = accepted_fits r (clear_accepts r (ap (λ (g : Refusal). g.number) c.in_ok-check_run.ensures.0)) in
    let few = fitting_few r fits in
    (valid_codable r.form r.positions fits.valid, few, omega (arith, few, fits.paired))

pub returns-in-None : goal.returns-in-None
returns-in-None c =
    let r = run_of c.args.run.now in
    let h = run_no_room r c.args.out.now (ap (λ (g : Refusal). g.number) c.in_ok-check_run.ensures.0) c.in-None.ensures in
    subst (λ (g : Refusal). Writes r c.args.out.now (Err g) c.put_record.new.out) (sym c.at.ensures) (h.0, h.1, λ z. omega arith)

pub returns-in-Some : goal.returns-in-Some
returns-in-Some c =
    let r = run_of c.args.run.now in
    let g = c.in-Some.ensures in
    let h = run-written r c.args.out.now (ap (λ (g : Refusal). g.number) c.in_ok-check_run.ensures.0) g.1 in
    (ap answer g.0 ∙ h.0, g.2 ∙ h.1)
