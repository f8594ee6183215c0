-- Document 02, No. 7: differences and their numbers, as one table, proved from the definitions by one statement.
--   Example, example   a difference, and its numbers as they should be
--   examples           the rows; examples_hold: each is as it is given
--   first, second, refused_answer  what a check answered of two records, and of one that was refused
--   overall_hold       the numbers of two records that differ in every property and in their counts
--   refused_hold       those of a refusal of the second record
use Rattle.std.specs.Prelude.{true, false, Option, Some, None, List, [], ◌∷◌, map, ◌≡◌, refl, pos, negsuc}
use Rattle.std.specs.Float.{fin}
use Rattle.std.specs.Float.Ieee.{of_bits, of_fields}
use Rattle.kind.specs.Kinds.{kind_of}
use Rattle.kind.specs.Claims.{kind_is, float_zero}
use Rattle.record_format.specs.declared.CheckAnswer.{CheckAnswer}
use Rattle.differences.specs.declared.Property.TheVariants.{Rate, Side, Count, Form}
use Rattle.differences.specs.declared.Difference.{Difference}
use Rattle.differences.specs.declared.Difference.TheVariants.{InProperty, Position, Ratio, More}
use Rattle.differences.specs.declared.DifferenceAnswer.{DifferenceAnswer}
use Rattle.differences.specs.Overall.{overall_of}
use Rattle.differences.specs.Numbers.{difference_numbers, overall_numbers}
use Rattle.differences.specs.NumberClaims.{differs, kindless, no_numbers, refused_numbers}

-- an example: a difference, and its numbers
pub record Example : Type 0 where
  pub difference : Option Difference
  pub expected : DifferenceAnswer

-- such an example
abbrev example : Option Difference → DifferenceAnswer → Example
example d n = record { difference = d; expected = n }

-- each property; a position; ratios of each kind on each side, infinities of both signs among them; the points that only the longer run has; and none
pub examples : List Example
examples =
    example (Some (InProperty Rate 96000 88200)) (differs 1 0 96000 88200 kindless kindless)
    ∷ example (Some (InProperty Side 0 4)) (differs 2 0 0 4 kindless kindless)
    ∷ example (Some (InProperty Count 3 5)) (differs 3 0 3 5 kindless kindless)
    ∷ example (Some (InProperty Form 3 5)) (differs 4 0 3 5 kindless kindless)
    ∷ example (Some (Position 7 960 961)) (differs 5 7 960 961 kindless kindless)
    ∷ example (Some (Ratio 7 0x3FE0000000000000 (kind_of 0x3FE0000000000000) 0x7FF8000000000000 (kind_of 0x7FF8000000000000)))
    (differs 6 7 0x3FE0000000000000 0x7FF8000000000000 (kind_is 0 0 (fin false 1 (negsuc 0)) 0) (kind_is 2 0 float_zero 0x7FF8000000000000))
    ∷ example (Some (Ratio 8 0xFFF0000000000000 (kind_of 0xFFF0000000000000) 0x7FF0000000000000 (kind_of 0x7FF0000000000000)))
    (differs 6 8 0xFFF0000000000000 0x7FF0000000000000 (kind_is 1 1 float_zero 0) (kind_is 1 0 float_zero 0))
    ∷ example (Some (Ratio 9 0xFFF8000000000001 (kind_of 0xFFF8000000000001) 0x8000000000000000 (kind_of 0x8000000000000000)))
    (differs 6 9 0xFFF8000000000001 0x8000000000000000 (kind_is 2 0 float_zero 0xFFF8000000000001) (kind_is 0 0 (fin true 0 (pos 0)) 0))
    ∷ example (Some (More 2)) (differs 7 0 2 0 kindless kindless)
    ∷ example None no_numbers
    ∷ []

-- the numbers, computed from the definitions, are those that are given
pub examples_hold : map (λ e. difference_numbers e.difference) examples ≡ map (λ e. e.expected) examples
unfolding examples of_bits of_fields
examples_hold = refl

-- what a check answered: of a record
abbrev first : CheckAnswer
first = record { number = 0; place = 0; rate = 96000; side = 4; count = 3; form = 3; size = 50 }

-- of another, which differs in all of it
abbrev second : CheckAnswer
second = record { number = 0; place = 0; rate = 88200; side = 0; count = 5; form = 5; size = 62 }

-- of one that was refused by 10 at 7
abbrev refused_answer : CheckAnswer
refused_answer = record { number = 10; place = 7; rate = 0; side = 0; count = 0; form = 0; size = 0 }

-- each difference in its own place
pub overall_hold : overall_numbers (overall_of first second)
    ≡ record {
      number = 0;
      place = 0;
      which = 0;
      rate = differs 1 0 96000 88200 kindless kindless;
      side = differs 2 0 4 0 kindless kindless;
      count = differs 3 0 3 5 kindless kindless;
      form = differs 4 0 3 5 kindless kindless;
      more = differs 7 0 2 0 kindless kindless;
    }
unfolding of_bits of_fields overall_of
overall_hold = refl

-- no difference beside a refusal
pub refused_hold : overall_numbers (overall_of first refused_answer) ≡ refused_numbers 10 7 2
unfolding of_bits of_fields overall_of
refused_hold = refl
