-- `live::reader::make` meets its contract: the body by whether the making was refused.
use Rattle.std.proofs.Common.{ap}
use Rattle.live.specs.declared.stepping.Begun.{Begun}
use Rattle.live.proofs.States.{body_kept, body_empty}
use Rattle.live.proofs.reader.make.Goals as goal

pub returns-in-Ok-clause-body : goal.returns-in-Ok-clause-body
returns-in-Ok-clause-body c = body_kept c.args.count c.args.body.now (ap (λ (g : Begun). g.refusal) c.in-Ok.ensures.answer)

pub returns-in-Err-clause-body : goal.returns-in-Err-clause-body
returns-in-Err-clause-body c = body_empty c.args.count c.args.body.now c.in-Err.refusal (ap (λ (g : Begun). g.refusal) c.in-Err.ensures.answer) c.in-Err.ensures.refused
