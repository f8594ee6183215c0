-- Document 02, No. 7: the differences that are of no index, by what a check answered of each of two records.
--   refused_record a w  the refusal that a check of the record w answered, a
--   overall_sound a b   the differences where neither was refused
--   overall_of a b      the refusal of the first record, else that of the second, else the differences
use Rattle.std.specs.Prelude.{cond, eqb, Result, Ok, Err}
use Rattle.refusals.specs.Tests.{refusal}
use Rattle.record_format.specs.declared.CheckAnswer.{CheckAnswer}
use Rattle.differences.specs.declared.Property.TheVariants.{Rate, Side, Count, Form}
use Rattle.differences.specs.declared.Which.{Which}
use Rattle.differences.specs.declared.Which.TheVariants.{First, Second}
use Rattle.differences.specs.declared.OverallDifferences.{OverallDifferences}
use Rattle.differences.specs.declared.RefusedRecord.{RefusedRecord}
use Rattle.differences.specs.Differences.{property_difference, more_difference}

-- its number and its place
abbrev pub refused_record : CheckAnswer → Which → RefusedRecord
refused_record a w = record { refusal = refusal a.number a.place; which = w }

-- of two sound records
abbrev pub overall_sound : CheckAnswer → CheckAnswer → OverallDifferences
overall_sound a b = record {
  rate = property_difference Rate a.rate b.rate;
  side = property_difference Side a.side b.side;
  count = property_difference Count a.count b.count;
  form = property_difference Form a.form b.form;
  more = more_difference a.count b.count;
}

-- the first record first
unfoldable pub overall_of : CheckAnswer → CheckAnswer → Result OverallDifferences RefusedRecord
overall_of a b =
    cond (eqb a.number 0)
    (cond (eqb b.number 0) (Ok (overall_sound a b)) (Err (refused_record b Second)))
    (Err (refused_record a First))
