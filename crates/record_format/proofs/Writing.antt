-- Laws of writing: what the acceptance of a run says, what makes a run accepted, and the answer by the test at which a writer stops that
-- makes the tests in turn.
use mathlib.Core.Path.{◌≡◌, ap, ◌∙◌, refl, sym}
use mathlib.Core.Bool.{Bool, true, false, not, cond}
use mathlib.Core.List.{List, [], ◌∷◌, ◌++◌}
use Prim.Native.Nat.{ℕ, ◌≤◌, ◌<◌}
use native.Mathlib.Omega.{arith}
use borrow.Author.Tests.{eqb-true, eq-eqb, ltb-false, le-ltb, leb-true, leb-false, not-false, not-true, ne_eqb, lt-ltb}
use lib.Dec.{ltb, leb, eqb, lit<}
use lib.ListN.{length, drop}
use Rattle.refusals.specs.declared.Refusal.{Refusal}
use Rattle.limits.specs.Rates.{is_rate}
use Rattle.limits.specs.Points.{max_points, too_high, first_high}
use Rattle.limits.specs.Sides.{max_side}
use Rattle.refusals.specs.Tests.{Test, test, refusal, first_of}
use Rattle.lists.proofs.Lists.{first_le}
use Rattle.refusals.proofs.Tests.{numbered, first_of_clear, first_of_skip, first_of_end, first_of_here, first_of-append-none, first_of-append-some}
use Rattle.position_format.specs.declared.Form.{Form}
use Rattle.position_format.specs.declared.Form.TheVariants.{Old, Wide}
use Rattle.position_format.specs.Rows.{rows}
use Rattle.position_format.specs.Steps.{steps, outside, first_outside}
use Rattle.position_format.specs.Positions.{valid_positions}
use Rattle.position_format.specs.Tables.{table_of, points_of}
use Rattle.position_format.proofs.Steps.{length-steps}
use Rattle.position_format.proofs.Positions.Sizes.{points_few}
use Rattle.position_format.proofs.Positions.Valid.{valid_parts, valid_of}
use Rattle.position_format.proofs.Tables.WideRows.{wide_valid}
use Rattle.record_format.specs.Runs.{Run, run, record_of}
use Rattle.record_format.specs.Writing.{outside_tests, run_tests, accepts, write_refusal, write_answer, write_output}
use Rattle.outputs.specs.Outputs.{zeros, over}
use Rattle.record_format.specs.declared.WriteAnswer.{WriteAnswer}

-- ---- acceptance

-- the run's parts in their ranges
pub record Fitting (r : Run) : Type 0 where
  pub listed : is_rate r.rate ≡ true
  pub sided : r.side ≤ max_side
  pub paired : length r.ratios ≡ length r.positions
  pub few : length r.positions ≤ points_of r.form
  pub valid : valid_positions (table_of r.form) r.positions ≡ true

-- the writer's tests of the run refuse nothing exactly where it accepts
pub accepts_clear : (r : Run) → accepts r ≡ true → (first_of (run_tests r)).number ≡ 0
unfolding accepts
accepts_clear r e = let n = (first_of (run_tests r)).number in eqb-true n 0 (not-false (eqb n 0) (not-true (not (eqb n 0)) e))

pub clear_accepts : (r : Run) → (first_of (run_tests r)).number ≡ 0 → accepts r ≡ true
unfolding accepts
clear_accepts r e = rw e

-- a run in the form f is refused by its rate, then by its side, and then by the tests that a run has without one
module _ (f : Form) (r d : ℕ) (ts vs : List ℕ) where
  abbrev sideless_tests : List Test
  sideless_tests =
      test (not (is_rate r)) 1 0
      ∷ test (not (eqb (length vs) (length ts))) 2 0
      ∷ test (ltb (points_of f) (length ts)) 3 0
      ∷ test (ltb (first_high ts) (length ts)) 4 (first_high ts)
      ∷ outside_tests f ts

  pub refuses_by_form : first_of (run_tests (run r d f ts vs)) ≡ cond (is_rate r) (cond (leb d max_side) (first_of sideless_tests) (refusal 21 0)) (refusal 1 0)
  unfolding first_of
  refuses_by_form = go (is_rate r) refl (leb d max_side) refl
    where
      go : (b : Bool) → is_rate r ≡ b → (c : Bool) → leb d max_side ≡ c
          → first_of (run_tests (run r d f ts vs)) ≡ cond (is_rate r) (cond (leb d max_side) (first_of sideless_tests) (refusal 21 0)) (refusal 1 0)
      go false e c q = rw e
      go true e true q = rw (e, q, le-ltb max_side d (leb-true d max_side q))
      go true e false q = rw (e, q, lt-ltb max_side d (leb-false d max_side q))

-- the tests of the steps refuse nothing where the positions are valid in their form: in the wide form there are none, and no step is outside

module _ (ts : List ℕ) (low : length ts ≤ first_high ts) where
  none_high : first_high ts ≡ length ts
  none_high = omega (arith, first_le too_high ts)

  old_valid : length ts ≤ first_outside rows ts → valid_positions rows ts ≡ true
  old_valid h = valid_of rows ts none_high (omega (arith, first_le (outside rows) (steps ts), length-steps ts))

  pub steps_valid : (f : Form) → (first_of (outside_tests f ts)).number ≡ 0 → valid_positions (table_of f) ts ≡ true
  steps_valid Old e = old_valid (ltb-false _ _ (first_of_clear _ _ (lit< tt) e).0)
  steps_valid Wide e = wide_valid ts low

pub valid_steps : (f : Form) (ts : List ℕ) → valid_positions (table_of f) ts ≡ true → first_of (outside_tests f ts) ≡ first_of []
valid_steps Old ts v =
    let p = valid_parts rows ts v in
    let near : length ts ≤ first_outside rows ts = omega (arith, p.1, length-steps ts) in
    first_of_skip _ _ (le-ltb _ _ near)
valid_steps Wide ts v = refl

module _ (r : Run) where
  pub accepted_fits : accepts r ≡ true → Fitting r
  accepted_fits e =
      let c1 = first_of_clear _ _ (lit< tt) (accepts_clear r e) in
      let c21 = first_of_clear _ _ (lit< tt) c1.1 in
      let c2 = first_of_clear _ _ (lit< tt) c21.1 in
      let c3 = first_of_clear _ _ (lit< tt) c2.1 in
      let c4 = first_of_clear _ _ (lit< tt) c3.1 in
      record {
        listed = not-false _ c1.0;
        sided = ltb-false _ _ c21.0;
        paired = eqb-true _ _ (not-false _ c2.0);
        few = ltb-false _ _ c3.0;
        valid = steps_valid r.positions (ltb-false _ _ c4.0) r.form c4.1;
      }

  pub fitting_accepted : Fitting r → accepts r ≡ true
  fitting_accepted f =
      let low : length r.positions ≤ first_high r.positions = omega (arith, (valid_parts (table_of r.form) r.positions f.valid).0) in
      clear_accepts r
      (ap (λ (x : Refusal). x.number)
      (first_of_skip _ _ (ap not f.listed)
      ∙ first_of_skip _ _ (le-ltb _ _ f.sided)
      ∙ first_of_skip _ _ (ap not (eq-eqb _ _ f.paired))
      ∙ first_of_skip _ _ (le-ltb _ _ f.few)
      ∙ first_of_skip _ _ (le-ltb _ _ low)
      ∙ valid_steps r.form r.positions f.valid
      ∙ first_of_end))

  -- in either form a run has no more points than any can have
  pub fitting_few : Fitting r → length r.positions ≤ max_points
  fitting_few f = omega (arith, f.few, points_few r.form)

-- ---- the tests of the run

module _ (r : Run) where
  pub run_unlisted : is_rate r.rate ≡ false → refusal 1 0 ≡ first_of (run_tests r)
  run_unlisted e = sym (first_of_here _ _ (ap not e))

  module _ (listed : is_rate r.rate ≡ true) where
    pub run_side : max_side < r.side → refusal 21 0 ≡ first_of (run_tests r)
    run_side h = sym (first_of_skip _ _ (ap not listed) ∙ first_of_here _ _ (lt-ltb _ _ h))

    module _ (sided : r.side ≤ max_side) where
      past_side : first_of (run_tests r) ≡ first_of (drop 2 (run_tests r))
      past_side = first_of_skip _ _ (ap not listed) ∙ first_of_skip _ _ (le-ltb _ _ sided)

      pub run_unpaired : (length r.ratios ≡ length r.positions → ⊥) → refusal 2 0 ≡ first_of (run_tests r)
      run_unpaired d = sym (past_side ∙ first_of_here _ _ (ap not (ne_eqb _ _ d)))

      module _ (paired : length r.ratios ≡ length r.positions) where
        past_paired : first_of (run_tests r) ≡ first_of (drop 3 (run_tests r))
        past_paired = past_side ∙ first_of_skip _ _ (ap not (eq-eqb _ _ paired))

        pub run_many : points_of r.form < length r.positions → refusal 3 0 ≡ first_of (run_tests r)
        run_many h = sym (past_paired ∙ first_of_here _ _ (lt-ltb _ _ h))

        module _ (few : length r.positions ≤ points_of r.form) where
          past_few : first_of (run_tests r) ≡ first_of (drop 4 (run_tests r))
          past_few = past_paired ∙ first_of_skip _ _ (le-ltb _ _ few)

          pub run_high : first_high r.positions < length r.positions → refusal 4 (first_high r.positions) ≡ first_of (run_tests r)
          run_high h = sym (past_few ∙ first_of_here _ _ (lt-ltb _ _ h))

          module _ (low : length r.positions ≤ first_high r.positions) where
            past_low : first_of (run_tests r) ≡ first_of (drop 5 (run_tests r))
            past_low = past_few ∙ first_of_skip _ _ (le-ltb _ _ low)

            -- the steps decide
            pub run-steps : (f : Refusal) → f ≡ first_of (outside_tests r.form r.positions) → f ≡ first_of (run_tests r)
            run-steps f e = e ∙ sym past_low

-- the test of the steps: in the old form by the first that is outside, in the wide form none
pub steps_far : (ts : List ℕ) → first_outside rows ts < length ts → refusal 5 (first_outside rows ts) ≡ first_of (outside_tests Old ts)
steps_far ts h = sym (first_of_here _ _ (lt-ltb _ _ h))

pub steps_near : (ts : List ℕ) → length ts ≤ first_outside rows ts → refusal 0 0 ≡ first_of (outside_tests Old ts)
steps_near ts h = sym (first_of_skip _ _ (le-ltb _ _ h) ∙ first_of_end)

pub steps-none : (ts : List ℕ) → refusal 0 0 ≡ first_of (outside_tests Wide ts)
steps-none ts = sym first_of_end

-- no test has the number of a success
run-numbered : (r : Run) → numbered (run_tests r) ≡ true
run-numbered r = go r.form
  where
    go : (f : Form) → numbered (test (not (is_rate r.rate)) 1 0 ∷ test (ltb max_side r.side) 21 0 ∷ test (not (eqb (length r.ratios) (length r.positions))) 2 0
        ∷ test (ltb (points_of f) (length r.positions)) 3 0 ∷ test (ltb (first_high r.positions) (length r.positions)) 4 (first_high r.positions) ∷ outside_tests f r.positions) ≡ true
    go Old = refl
    go Wide = refl

-- ---- the whole answer

-- what a refused writing answers
abbrev pub refused_writing : Refusal → WriteAnswer
refused_writing f = record { number = f.number; place = f.place; length = 0 }

module _ (r : Run) (o : List ℕ) where
  answered : (f : Refusal) → write_refusal r o ≡ f → (f.number ≡ 0 → ⊥) → (refused_writing f ≡ write_answer r o) × (zeros o ≡ write_output r o)
  unfolding write_answer write_output
  answered f e d = (rw (e, ne_eqb f.number 0 d), rw (e, ne_eqb f.number 0 d))

  pub run-refused : (f : Refusal) → f ≡ first_of (run_tests r) → (f.number ≡ 0 → ⊥) → (refused_writing f ≡ write_answer r o) × (zeros o ≡ write_output r o)
  unfolding write_refusal
  run-refused f e d =
      answered f (first_of-append-some (run_tests r) _ (λ z. d (ap (λ (g : Refusal). g.number) e ∙ z)) ∙ sym e) d

  module _ (clear : (first_of (run_tests r)).number ≡ 0) where
    pub run_no_room : length o < length (record_of r) → (refused_writing (refusal 6 0) ≡ write_answer r o) × (zeros o ≡ write_output r o)
    unfolding write_refusal
    run_no_room h = answered (refusal 6 0) (first_of-append-none (run_tests r) _ (run-numbered r) clear ∙ first_of_here _ _ (lt-ltb _ _ h)) (λ z. omega arith)

    pub run-written : length (record_of r) ≤ length o
        → (◌≡◌ {A = WriteAnswer} (record { number = 0; place = 0; length = length (record_of r) }) (write_answer r o)) × (over (record_of r) o ≡ write_output r o)
    unfolding write_refusal write_answer write_output
    run-written h =
        let e : first_of (run_tests r ++ (test _ 6 0 ∷ [])) ≡ refusal 0 0 = first_of-append-none (run_tests r) _ (run-numbered r) clear ∙ first_of_skip _ _ (le-ltb (length o) (length (record_of r)) h) ∙ first_of_end in
        (rw e, rw e)
