-- The claims of specs/Claims on a reader that holds its body.
use mathlib.Core.Path.{refl}
use Rattle.ratio_format.specs.SteppingClaims.{step_answers}
use Rattle.ratio_format.proofs.SteppingClaims.{steps}
use Rattle.live.specs.Claims.{NextSteps, TwoSteps}

pub next_steps : NextSteps
next_steps r bytes size cells = (steps r.body.now r.cursor bytes size cells, refl)

pub two_steps : TwoSteps
unfolding step_answers
two_steps b n = (refl, refl)
