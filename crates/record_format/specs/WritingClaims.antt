-- Document 02, No. 2 and No. 3: the bytes of a record in each form, and the refusals of a run in the wide form, as statements. Each is proved in
-- proofs/WritingClaims.
--   FormNumbers     a form's tag names it, and every number but 5 the old one
--   RecordFields    the fields of a record in each form, with the tags and lengths that the documents give
--   wide_tests r ts vs  the tests of writing, all but 21 and 6, for a run in the wide form: 3 at 3,500, and no 5
--   RefusesWide     a run in the wide form is refused by these, but that 21 stands after 1
--   AcceptsWide     so positions in their range are never refused for a step
--   FormsApart      no record in one form begins one in the other
use Rattle.std.specs.Prelude.{true, not, cond, List, [], ◌∷◌, ◌++◌, ◌≡◌, ℕ, ◌^◌, ◌≤◌, ltb, leb, eqb, length}
use Rattle.lists.specs.Below.{Below}
use Rattle.bits.specs.Digits.{bytes_of}
use Rattle.limits.specs.Rates.{is_rate}
use Rattle.limits.specs.Points.{first_high}
use Rattle.refusals.specs.Tests.{Test, test, first_of}
use Rattle.position_format.specs.declared.Form.TheVariants.{Old, Wide}
use Rattle.position_format.specs.Rows.{rows, wide_rows}
use Rattle.position_format.specs.Positions.{coded_positions}
use Rattle.ratio_format.specs.Bodies.{coded_ratios}
use Rattle.record_format.specs.Fields.{field_of, laid}
use Rattle.record_format.specs.Runs.{Run, run, positions_tag, form_of, record_of}
use Rattle.record_format.specs.Writing.{run_tests}
use Rattle.record_format.specs.Claims.{Accepted, Beginning}

-- ---- the forms' numbers

-- those of a host in C
abbrev pub FormNumbers : Type 0
FormNumbers = (form_of 5 ≡ Wide) × ((t : ℕ) → (t ≡ 5 → ⊥) → form_of t ≡ Old) × (positions_tag Old ≡ 3) × (positions_tag Wide ≡ 5)

-- ---- writing

-- tag 1 the rate, 6 the side unless it is 0, 2 the count, 3 or 5 the coded positions, 4 the coded ratios
abbrev pub RecordFields : Type 0
RecordFields = (r d : ℕ) (ts vs : List ℕ)
    → let sides = cond (eqb d 0) [] (field_of 6 (bytes_of 1 d) ∷ []) in
    (record_of (run r d Old ts vs)
    ≡ laid (field_of 1 (bytes_of 4 r) ∷ (sides ++ (field_of 2 (bytes_of 2 (length ts)) ∷ field_of 3 (coded_positions rows ts) ∷ field_of 4 (coded_ratios vs) ∷ []))))
    × (record_of (run r d Wide ts vs)
    ≡ laid (field_of 1 (bytes_of 4 r) ∷ (sides ++ (field_of 2 (bytes_of 2 (length ts)) ∷ field_of 5 (coded_positions wide_rows ts) ∷ field_of 4 (coded_ratios vs) ∷ []))))

-- 1, 2, 3 and 4
abbrev pub wide_tests : ℕ → List ℕ → List ℕ → List Test
wide_tests r ts vs =
    test (not (is_rate r)) 1 0
    ∷ test (not (eqb (length vs) (length ts))) 2 0
    ∷ test (ltb 3500 (length ts)) 3 0
    ∷ test (ltb (first_high ts) (length ts)) 4 (first_high ts)
    ∷ []

-- the refusal of a run in the wide form
abbrev pub RefusesWide : Type 0
RefusesWide = (r d : ℕ) (ts vs : List ℕ)
    → first_of (run_tests (run r d Wide ts vs)) ≡ cond (is_rate r) (cond (leb d 26) (first_of (wide_tests r ts vs)) (record { number = 21; place = 0 })) (record { number = 1; place = 0 })

-- every list of up to 3,500 positions below 2^62 is taken
abbrev pub AcceptsWide : Type 0
AcceptsWide = (r d : ℕ) (ts vs : List ℕ) → is_rate r ≡ true → d ≤ 26 → length vs ≡ length ts → length ts ≤ 3500
    → Below (2 ^ 62) ts → Below (2 ^ 64) vs → Accepted (run r d Wide ts vs)

-- whatever else the runs have in common
abbrev pub FormsApart : Type 0
FormsApart = (r q : Run) → Accepted r → Accepted q → (r.form ≡ q.form → ⊥)
    → (Beginning (record_of r) (record_of q) → ⊥) × (Beginning (record_of q) (record_of r) → ⊥)
