-- `put_nth` meets its contract: a ratio of a known place is a reference to it, any other is written in its form.
use mathlib.Core.Path.{subst}
use native.Mathlib.Omega.{arith}
use lib.ListN.{get_or}
use Rattle.outputs.specs.Outputs.{Placed}
use Rattle.ratio_format.specs.declared.RatioForm.{RatioForm}
use Rattle.ratio_format.specs.RatioForms.{written, coded}
use Rattle.ratio_codec.proofs.write.Chosen.{window_fit}
use Rattle.ratio_bodies.proofs.put_nth.Goals as goal

pub put_ratio_form-requires : goal.put_ratio_form-requires
put_ratio_form-requires c = window_fit c.args.ratios.now c.args.i (get_or c.args.ratios.now c.args.i 0) c.choose_nth-f.result (omega arith) c.choose_nth-f.ensures.form

pub returns-clause-placed : goal.returns-clause-placed
unfolding coded
returns-clause-placed c = subst (λ (x : RatioForm). Placed (written (get_or c.args.ratios.now c.args.i 0) x) c.put_ratio_form.result c.args.out.now c.put_ratio_form.new.out) c.choose_nth-f.ensures.form c.put_ratio_form.ensures
