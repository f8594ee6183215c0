-- The reason for a ratio's bytes as numbers: document 02, No. 1, for each case of the enum, and the refusal in its place.
--   reason_numbers r  reason 1 with the place of a reference, 2 with the place, both counts and the sum of an xor form, 3 with the best sum of an
--                     exception, 4 for an empty window, 0 with the number and the place of a refusal; all else is 0
use Rattle.std.specs.Prelude.{◌+◌, Result, Ok, Err}
use Rattle.refusals.specs.declared.Refusal.{Refusal}
use Rattle.reasons.specs.declared.Reason.{Reason}
use Rattle.reasons.specs.declared.Reason.TheVariants.{Reference, Xor, Exception, Empty}
use Rattle.reasons.specs.declared.ExplainAnswer.{ExplainAnswer}

-- the numbers of each case
abbrev pub reason_numbers : Result Reason Refusal → ExplainAnswer
reason_numbers (Ok (Reference p)) = record { number = 0; place = 0; reason = 1; at = p; leading = 0; trailing = 0; sum = 0 }
reason_numbers (Ok (Xor p l t)) = record { number = 0; place = 0; reason = 2; at = p; leading = l; trailing = t; sum = l + t }
reason_numbers (Ok (Exception s)) = record { number = 0; place = 0; reason = 3; at = 0; leading = 0; trailing = 0; sum = s }
reason_numbers (Ok Empty) = record { number = 0; place = 0; reason = 4; at = 0; leading = 0; trailing = 0; sum = 0 }
reason_numbers (Err f) = record { number = f.number; place = f.place; reason = 0; at = 0; leading = 0; trailing = 0; sum = 0 }
