-- `check_run` meets its contract: a law of writing answers the test at which it stops.
use mathlib.Core.Bool.{true}
use mathlib.Core.Path.{◌≡◌, refl, sym, ◌∙◌, subst}
use Prim.Native.Nat.{ℕ, ◌≤◌, ◌<◌}
use native.Mathlib.Omega.{arith}
use lib.ListN.{length}
use Rattle.limits.specs.Points.{first_high}
use Rattle.limits.specs.Rates.{is_rate}
use Rattle.position_format.specs.Tables.{points_of}
use Rattle.record_codec.specs.Given.{run_of}
use Rattle.record_format.specs.Writing.{outside_tests, run_tests}
use Rattle.record_format.proofs.Writing.{run_unlisted, run_unpaired, run_many, run_high, run-steps}
use Rattle.record_parts.proofs.Fields.{refused_at, judged_as}
use Rattle.record_codec.proofs.writer.check_run.Goals as goal

pub returns-then-not-is_rate : goal.returns-then-not-is_rate
returns-then-not-is_rate c =
    let r = run_of c.args.run.now in
    refused_at 1 0 c.at.ensures (λ z. omega arith) (run_unlisted r (sym c.is_rate.ensures ∙ c.if-not-is_rate.true))

pub returns-then-run : goal.returns-then-run
returns-then-run c =
    let r = run_of c.args.run.now in
    let listed : is_rate c.args.run.now.rate ≡ true = sym c.is_rate.ensures ∙ c.if-not-is_rate.false in
    refused_at 2 0 c.at-then-run.ensures (λ z. omega arith) (run_unpaired r listed (omega arith) c.if-run.true)

pub returns-then-points_of-run : goal.returns-then-points_of-run
returns-then-points_of-run c =
    let r = run_of c.args.run.now in
    let listed : is_rate c.args.run.now.rate ≡ true = sym c.is_rate.ensures ∙ c.if-not-is_rate.false in
    refused_at 3 0 c.at-then-points_of-run.ensures (λ z. omega arith)
    (run_many r listed (omega arith) c.if-run.false (subst (λ (m : ℕ). m < length r.positions) c.points_of.ensures c.if-points_of-run.true))

pub returns-in-Some : goal.returns-in-Some
returns-in-Some c =
    let r = run_of c.args.run.now in
    let listed : is_rate c.args.run.now.rate ≡ true = sym c.is_rate.ensures ∙ c.if-not-is_rate.false in
    let few : length r.positions ≤ points_of r.form = subst (λ (n : ℕ). length r.positions ≤ n) c.points_of.ensures c.if-points_of-run.false in
    refused_at 4 c.in-Some.high c.at-in-Some.ensures (λ z. omega arith)
    (rw c.in-Some.ensures.0
    (run_high r listed (omega arith) c.if-run.false few (omega (arith, c.in-Some.ensures.0, c.in-Some.ensures.1))))

pub returns : goal.returns
returns c =
    let r = run_of c.args.run.now in
    let listed : is_rate c.args.run.now.rate ≡ true = sym c.is_rate.ensures ∙ c.if-not-is_rate.false in
    let few : length r.positions ≤ points_of r.form = subst (λ (n : ℕ). length r.positions ≤ n) c.points_of.ensures c.if-points_of-run.false in
    let low : length r.positions ≤ first_high r.positions = omega (arith, c.in_default.ensures) in
    judged_as (run_tests r) (outside_tests r.form r.positions) _ c.check_steps.result (sym (run-steps r listed (omega arith) c.if-run.false few low _ refl)) c.check_steps.ensures
