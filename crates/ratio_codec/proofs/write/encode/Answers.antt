-- `encode` meets its contract: the chosen form is written.
use mathlib.Core.Path.{subst}
use Rattle.outputs.specs.Outputs.{Placed}
use Rattle.ratio_format.specs.declared.RatioForm.{RatioForm}
use Rattle.ratio_format.specs.RatioForms.{written, coded}
use Rattle.ratio_codec.proofs.write.Chosen.{chosen_fit}
use Rattle.ratio_codec.proofs.write.encode.Goals as goal

pub put_ratio_form-requires : goal.put_ratio_form-requires
put_ratio_form-requires c = chosen_fit c.args.window.now c.args.v c.choose-f.result c.choose-f.ensures c.requires

pub returns : goal.returns
unfolding coded
returns c = subst (λ (f : RatioForm). Placed (written c.args.v f) c.put_ratio_form.result c.args.out.now c.put_ratio_form.new.out) c.choose-f.ensures c.put_ratio_form.ensures
