-- Document 02, No. 1: reasons and refusals and their numbers, as one table, proved from the definitions by one statement.
--   Example, example   a reason or a refusal, and its numbers as they should be
--   numbered ..        numbers, each of them written out: reason, place, leading and trailing zero bytes, and sum, with number and place 0
--   examples           the rows; examples_hold: each is as it is given
use Rattle.std.specs.Prelude.{List, [], ◌∷◌, map, ◌≡◌, refl, ℕ, Result, Ok, Err}
use Rattle.refusals.specs.declared.Refusal.{Refusal}
use Rattle.refusals.specs.Tests.{refusal}
use Rattle.reasons.specs.declared.Reason.{Reason}
use Rattle.reasons.specs.declared.Reason.TheVariants.{Reference, Xor, Exception, Empty}
use Rattle.reasons.specs.declared.ExplainAnswer.{ExplainAnswer}
use Rattle.reasons.specs.Numbers.{reason_numbers}
use Rattle.reasons.specs.Claims.{refused_numbers}

-- an example: a reason or a refusal, and its numbers
pub record Example : Type 0 where
  pub reason : Result Reason Refusal
  pub expected : ExplainAnswer

-- such an example
abbrev example : Result Reason Refusal → ExplainAnswer → Example
example r n = record { reason = r; expected = n }

-- no refusal
abbrev numbered : ℕ → ℕ → ℕ → ℕ → ℕ → ExplainAnswer
numbered r p l t s = record { number = 0; place = 0; reason = r; at = p; leading = l; trailing = t; sum = s }

-- each case: 1 with the place; 2 with the place, both counts and their sum; 3 with the best sum; 4; and the refusals
pub examples : List Example
examples =
    example (Ok (Reference 0)) (numbered 1 0 0 0 0)
    ∷ example (Ok (Reference 126)) (numbered 1 126 0 0 0)
    ∷ example (Ok (Xor 3 1 4)) (numbered 2 3 1 4 5)
    ∷ example (Ok (Xor 0 7 0)) (numbered 2 0 7 0 7)
    ∷ example (Ok (Exception 0)) (numbered 3 0 0 0 0)
    ∷ example (Ok (Exception 1)) (numbered 3 0 0 0 1)
    ∷ example (Ok Empty) (numbered 4 0 0 0 0)
    ∷ example (Err (refusal 3 0)) (refused_numbers 3)
    ∷ example (Err (refusal 22 0)) (refused_numbers 22)
    ∷ []

-- the numbers, computed from the definitions, are those that are given
pub examples_hold : map (λ e. reason_numbers e.reason) examples ≡ map (λ e. e.expected) examples
unfolding examples
examples_hold = refl
