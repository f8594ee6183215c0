-- Document 02, No. 7, in the numbers that a caller from C sees, as statements. Proved in proofs/NumberClaims.
--   differs w i a b k l    numbers of a difference, each of them written out: what differs, the index, both values and both kinds
--   kindless, no_numbers   those of no kind and of no difference: all of them 0, written out and not by the definitions
--   refused_numbers n p w  those of the refusal n at the place p of the record w, 1 or 2: all else is 0
--   DifferencesApart       no two differences have the same numbers
--   OverallApart           nor have two answers of the differences that are of no index, with the refusal beside them
--   RefusedAlone           where a record was refused, the first before the second, all numbers but the refusal's are 0
use Rattle.std.specs.Prelude.{Option, Result, ◌≡◌, ℕ}
use Rattle.kind.specs.declared.KindAnswer.{KindAnswer}
use Rattle.kind.specs.Claims.{kind_is, float_zero}
use Rattle.record_format.specs.declared.CheckAnswer.{CheckAnswer}
use Rattle.differences.specs.declared.Difference.{Difference}
use Rattle.differences.specs.declared.DifferenceAnswer.{DifferenceAnswer}
use Rattle.differences.specs.declared.OverallDifferences.{OverallDifferences}
use Rattle.differences.specs.declared.RefusedRecord.{RefusedRecord}
use Rattle.differences.specs.declared.OverallAnswer.{OverallAnswer}
use Rattle.differences.specs.Overall.{overall_of}
use Rattle.differences.specs.Numbers.{difference_numbers, overall_numbers}

-- all six
abbrev pub differs : ℕ → ℕ → ℕ → ℕ → KindAnswer → KindAnswer → DifferenceAnswer
differs w i a b k l = record { what = w; index = i; first = a; second = b; first_kind = k; second_kind = l }

-- no kind
abbrev pub kindless : KindAnswer
kindless = kind_is 0 0 float_zero 0

-- no difference
abbrev pub no_numbers : DifferenceAnswer
no_numbers = differs 0 0 0 0 kindless kindless

-- no difference beside the refusal
abbrev pub refused_numbers : ℕ → ℕ → ℕ → OverallAnswer
refused_numbers n p w = record { number = n; place = p; which = w; rate = no_numbers; side = no_numbers; count = no_numbers; form = no_numbers; more = no_numbers }

-- so each case can be told, with all that it carries
abbrev pub DifferencesApart : Type 0
DifferencesApart = (d e : Option Difference) → difference_numbers d ≡ difference_numbers e → d ≡ e

-- and each of the five
abbrev pub OverallApart : Type 0
OverallApart = (h k : Result OverallDifferences RefusedRecord) → overall_numbers h ≡ overall_numbers k → h ≡ k

-- of any two answers
abbrev pub RefusedAlone : Type 0
RefusedAlone = (a b : CheckAnswer)
    → let numbers = overall_numbers (overall_of a b) in
    ((a.number ≡ 0 → ⊥) → numbers ≡ refused_numbers a.number a.place 1)
    × (a.number ≡ 0 → (b.number ≡ 0 → ⊥) → numbers ≡ refused_numbers b.number b.place 2)
