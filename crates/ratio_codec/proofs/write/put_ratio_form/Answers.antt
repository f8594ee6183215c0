-- `put_ratio_form` meets its contract: each form by the function that writes it.
use mathlib.Core.Path.{◌≡◌, sym, subst}
use mathlib.Core.List.{List}
use Prim.Native.Nat.{ℕ}
use Rattle.std.specs.Prelude.{Option}
use Rattle.outputs.specs.Outputs.{Placed}
use Rattle.ratio_format.specs.declared.RatioForm.{RatioForm}
use Rattle.ratio_format.specs.RatioForms.{written}
use Rattle.ratio_codec.proofs.write.put_ratio_form.Goals as goal

same_form : (v : ℕ) {f g : RatioForm} (r : Option ℕ) (o p : List ℕ) → f ≡ g → Placed (written v g) r o p → Placed (written v f) r o p
same_form v r o p e h = subst (λ (x : RatioForm). Placed (written v x) r o p) (sym e) h

pub returns-in-Reference : goal.returns-in-Reference
unfolding written
returns-in-Reference c = same_form c.args.v c.put_reference.result c.args.out.now c.put_reference.new.out c.in-Reference.is c.put_reference.ensures

pub returns-in-Xor : goal.returns-in-Xor
unfolding written
returns-in-Xor c = same_form c.args.v c.put_xor.result c.args.out.now c.put_xor.new.out c.in-Xor.is c.put_xor.ensures

pub returns-in-Exception : goal.returns-in-Exception
unfolding written
returns-in-Exception c = same_form c.args.v c.put_exception.result c.args.out.now c.put_exception.new.out c.in-Exception.is c.put_exception.ensures
