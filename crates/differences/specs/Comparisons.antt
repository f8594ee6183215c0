-- Document 02, No. 7: two records laid side by side.
--   Comparison              the refusal of one of two records (number, place, and which it was, 1 or 2), or 0, 0 and 0 with all differences
--   refused_comparison a w  the refusal that a check of the record w answered, a
--   compared a r b q        the comparison by what a check finds in each: its answers a and b, and the runs r and q in the fields
--   comparison s t          that of the records that the bytes s and t begin with: each is checked, with no rate expected
use Rattle.std.specs.Prelude.{cond, List, [], ℕ, eqb}
use Rattle.record_format.specs.Runs.{Run}
use Rattle.record_format.specs.Checking.{run_in, checked}
use Rattle.record_format.specs.declared.CheckAnswer.{CheckAnswer}
use Rattle.differences.specs.declared.Difference.{Difference}
use Rattle.differences.specs.Differences.{differences}

-- the whole answer
pub record Comparison : Type 0 where
  pub number : ℕ
  pub place : ℕ
  pub which : ℕ
  pub list : List Difference

-- no difference beside it
abbrev pub refused_comparison : CheckAnswer → ℕ → Comparison
refused_comparison a w = record { number = a.number; place = a.place; which = w; list = [] }

-- the first record first
unfoldable pub compared : CheckAnswer → Run → CheckAnswer → Run → Comparison
compared a r b q =
    cond (eqb a.number 0)
    (cond (eqb b.number 0)
    (record { number = 0; place = 0; which = 0; list = differences r q })
    (refused_comparison b 2))
    (refused_comparison a 1)

-- of two strings of bytes
abbrev pub comparison : List ℕ → List ℕ → Comparison
comparison s t = compared (checked 0 s) (run_in s) (checked 0 t) (run_in t)
