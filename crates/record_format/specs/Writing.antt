-- Document 01, "Numbers that come back", with 21 of document 02, No. 2, and the form of No. 3: writing a run.
--   outside_tests f ts  the test of the steps of the positions ts: 5, only in the old form
--   run_tests r         the tests of writing on the run alone, in their order: 1, 21, 2 to 5, each over the whole run; 3 and 5 by the form
--   accepts r           none of them applies: the writer accepts the run
--   write_tests r o     all tests, with 6, which asks for room for the whole record
--   write_refusal r o   the refusal of writing, or none
--   write_answer r o    the answer: number, place and the record's length
--   write_output r o    the output o afterwards
use Rattle.std.specs.Prelude.{Bool, not, cond, List, [], ◌∷◌, ◌++◌, ℕ, ltb, eqb, length}
use Rattle.refusals.specs.declared.Refusal.{Refusal}
use Rattle.limits.specs.Rates.{is_rate}
use Rattle.limits.specs.Points.{first_high}
use Rattle.limits.specs.Sides.{max_side}
use Rattle.refusals.specs.Tests.{Test, test, first_of, refused}
use Rattle.outputs.specs.Outputs.{zeros, over}
use Rattle.position_format.specs.declared.Form.{Form}
use Rattle.position_format.specs.declared.Form.TheVariants.{Old, Wide}
use Rattle.position_format.specs.Rows.{rows}
use Rattle.position_format.specs.Steps.{first_outside}
use Rattle.position_format.specs.Tables.{points_of}
use Rattle.record_format.specs.declared.WriteAnswer.{WriteAnswer}
use Rattle.record_format.specs.Runs.{Run, record_of}

-- the wide form has a code for every step between positions in range
abbrev pub outside_tests : Form → List ℕ → List Test
outside_tests Old ts = test (ltb (first_outside rows ts) (length ts)) 5 (first_outside rows ts) ∷ []
outside_tests Wide ts = []

-- the tests that speak of the run
abbrev pub run_tests : Run → List Test
run_tests r =
    test (not (is_rate r.rate)) 1 0
    ∷ test (ltb max_side r.side) 21 0
    ∷ test (not (eqb (length r.ratios) (length r.positions))) 2 0
    ∷ test (ltb (points_of r.form) (length r.positions)) 3 0
    ∷ test (ltb (first_high r.positions) (length r.positions)) 4 (first_high r.positions)
    ∷ outside_tests r.form r.positions

-- "What demand 3 compares": "The writer accepts a run when no test of writing but 6 applies to it."
unfoldable pub accepts : Run → Bool
accepts r = not (refused (first_of (run_tests r)))

-- the tests of writing
abbrev pub write_tests : Run → List ℕ → List Test
write_tests r o = run_tests r ++ (test (ltb (length o) (length (record_of r))) 6 0 ∷ [])

-- the refusal of writing, or none
unfoldable pub write_refusal : Run → List ℕ → Refusal
write_refusal r o = first_of (write_tests r o)

-- the answer
unfoldable pub write_answer : Run → List ℕ → WriteAnswer
write_answer r o =
    let f = write_refusal r o in
    record { number = f.number; place = f.place; length = cond (refused f) 0 (length (record_of r)) }

-- the output afterwards
unfoldable pub write_output : Run → List ℕ → List ℕ
write_output r o = cond (refused (write_refusal r o)) (zeros o) (over (record_of r) o)
