-- Document 01, "The record": "Four fields in this order, each once". Records in the old form without a side are as they were before document 02,
-- No. 2 and No. 3.
--   four_fields r ts vs  the four fields of document 01, for the rate r, the positions ts and the ratios vs
--   four_tests r ts vs   document 01's tests 1 to 5 of writing
--   SameRecord           the record of the run on side 0, in the old form, is these four fields, laid end to end
--   RefusesBySide        a run in the old form with any side is refused as document 01 says of it without one, but that 21 stands after 1; so on
--                        side 0 it is accepted exactly when it was, and refused by 6 when it was, since its record is the same
--   ReadsAsZero          whatever follows it, a check gives back that run's numbers with side 0 and the old form's tag, or 14, and fetch and open reading
--                        its points, or 14 or 16
-- Each is proved in proofs/FourFields.
use Rattle.std.specs.Prelude.{not, cond, List, [], ◌∷◌, ◌++◌, ◌≡◌, ℕ, ◌^◌, ltb, leb, eqb, length}
use Rattle.lists.specs.Below.{Below}
use Rattle.bits.specs.Digits.{bytes_of}
use Rattle.limits.specs.Rates.{is_rate}
use Rattle.limits.specs.Points.{max_points, first_high}
use Rattle.refusals.specs.Tests.{Test, test, first_of}
use Rattle.position_format.specs.declared.Form.TheVariants.{Old}
use Rattle.position_format.specs.Rows.{rows}
use Rattle.position_format.specs.Steps.{first_outside}
use Rattle.position_format.specs.Positions.{coded_positions}
use Rattle.ratio_format.specs.Bodies.{coded_ratios}
use Rattle.record_format.specs.Fields.{Field, field_of, laid}
use Rattle.record_format.specs.Runs.{run, record_of}
use Rattle.record_format.specs.Writing.{run_tests}
use Rattle.record_format.specs.CheckClaims.{ChecksBack}
use Rattle.record_format.specs.FetchClaims.{FetchesBack}
use Rattle.record_format.specs.OpenReading.{OpensBack}

-- tag 1 the rate, 2 the count, 3 the coded positions, 4 the coded ratios
abbrev pub four_fields : ℕ → List ℕ → List ℕ → List Field
four_fields r ts vs =
    field_of 1 (bytes_of 4 r)
    ∷ field_of 2 (bytes_of 2 (length ts))
    ∷ field_of 3 (coded_positions rows ts)
    ∷ field_of 4 (coded_ratios vs)
    ∷ []

-- "Writing tests 1 to 6 in order": all but 6
abbrev pub four_tests : ℕ → List ℕ → List ℕ → List Test
four_tests r ts vs =
    test (not (is_rate r)) 1 0
    ∷ test (not (eqb (length vs) (length ts))) 2 0
    ∷ test (ltb max_points (length ts)) 3 0
    ∷ test (ltb (first_high ts) (length ts)) 4 (first_high ts)
    ∷ test (ltb (first_outside rows ts) (length ts)) 5 (first_outside rows ts)
    ∷ []

-- the same bytes, for every rate, positions and ratios
abbrev pub SameRecord : Type 0
SameRecord = (r : ℕ) (ts vs : List ℕ) → record_of (run r 0 Old ts vs) ≡ laid (four_fields r ts vs)

-- the refusal of a run: 1, then 21 for a side above 26, then document 01's
abbrev pub RefusesBySide : Type 0
RefusesBySide = (r d : ℕ) (ts vs : List ℕ)
    → first_of (run_tests (run r d Old ts vs)) ≡ cond (is_rate r) (cond (leb d 26) (first_of (four_tests r ts vs)) (record { number = 21; place = 0 })) (record { number = 1; place = 0 })

-- and the same run back, on side 0
abbrev pub ReadsAsZero : Type 0
ReadsAsZero = (r : ℕ) (ts vs : List ℕ) → Below (2 ^ 64) vs → (first_of (four_tests r ts vs)).number ≡ 0 → (e : ℕ) (rest ps qs : List ℕ)
    → let own = run r 0 Old ts vs in
    let s = laid (four_fields r ts vs) ++ rest in ChecksBack own e s × FetchesBack own e s ps qs × OpensBack own e s ps qs
