-- The numbers of a reason tell it: from them it comes back.
use mathlib.Core.Bool.{cond}
use mathlib.Core.Path.{◌≡◌, refl, sym, ap, ◌∙◌}
use Rattle.std.proofs.Common.{Result, Ok, Err}
use lib.Dec.{eqb}
use Rattle.refusals.specs.declared.Refusal.{Refusal}
use Rattle.refusals.specs.Tests.{refusal}
use Rattle.reasons.specs.declared.Reason.{Reason}
use Rattle.reasons.specs.declared.Reason.TheVariants.{Reference, Xor, Exception, Empty}
use Rattle.reasons.specs.declared.ExplainAnswer.{ExplainAnswer}
use Rattle.reasons.specs.Numbers.{reason_numbers}
use Rattle.reasons.specs.Claims.{ReasonsApart}

-- the reason, or the refusal, that has these numbers
abbrev reason_in : ExplainAnswer → Result Reason Refusal
reason_in x =
    cond (eqb x.reason 1) (Ok (Reference x.at))
    (cond (eqb x.reason 2) (Ok (Xor x.at x.leading x.trailing))
    (cond (eqb x.reason 3) (Ok (Exception x.sum))
    (cond (eqb x.reason 4) (Ok Empty) (Err (refusal x.number x.place)))))

reason_back : (r : Result Reason Refusal) → reason_in (reason_numbers r) ≡ r
reason_back (Ok (Reference p)) = refl
reason_back (Ok (Xor p l t)) = refl
reason_back (Ok (Exception s)) = refl
reason_back (Ok Empty) = refl
reason_back (Err f) = refl

pub reasons_apart : ReasonsApart
reasons_apart r q e = sym (reason_back r) ∙ ap reason_in e ∙ reason_back q
