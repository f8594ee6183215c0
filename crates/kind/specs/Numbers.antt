-- A ratio's kind as numbers: document 01, "Kinds and span", for each case of the enum.
--   zero_float      0 as a float
--   kind_numbers k  kind 0 with the value of a number, 1 with the sign of an infinity, 2 with the bits of a not-a-number; all else is 0
use Rattle.std.specs.Prelude.{cond, Float}
use Rattle.std.specs.Float.{binary64}
use Rattle.std.specs.Float.Ieee.{of_bits}
use Rattle.kind.specs.declared.Kind.{Kind}
use Rattle.kind.specs.declared.Kind.TheVariants.{Number, Infinity, Nan}
use Rattle.kind.specs.declared.KindAnswer.{KindAnswer}

-- 0 as a float
abbrev pub zero_float : Float
zero_float = of_bits binary64 0

-- the numbers of each case
abbrev pub kind_numbers : Kind → KindAnswer
kind_numbers (Number v) = record { kind = 0; negative = 0; value = v; bits = 0 }
kind_numbers (Infinity s) = record { kind = 1; negative = cond s 1 0; value = zero_float; bits = 0 }
kind_numbers (Nan n) = record { kind = 2; negative = 0; value = zero_float; bits = n }
