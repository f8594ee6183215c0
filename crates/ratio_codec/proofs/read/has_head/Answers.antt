-- `has_head` meets its contract: the test is the library's.
use Rattle.std.proofs.Common.{sym, ap, ◌∙◌}
use Rattle.lists.specs.Compare.{begins}
use Rattle.ratio_format.specs.declared.RatioForm.{RatioForm}
use Rattle.ratio_codec.specs.Heads.{ratio_form_head}
use Rattle.ratio_codec.proofs.Heads.{starts_begins}
use Rattle.ratio_codec.proofs.read.has_head.Goals as goal

pub returns-in-Reference : goal.returns-in-Reference
returns-in-Reference c =
    c.starts_with.ensures.value ∙ starts_begins _ c.args.s.now ∙ ap (λ (f : RatioForm). begins (ratio_form_head f) c.args.s.now) (sym c.in-Reference.is)

pub returns-in-Xor : goal.returns-in-Xor
returns-in-Xor c =
    c.starts_with-in-Xor.ensures.value ∙ starts_begins _ c.args.s.now ∙ ap (λ (f : RatioForm). begins (ratio_form_head f) c.args.s.now) (sym c.in-Xor.is)

pub returns-in-Exception : goal.returns-in-Exception
returns-in-Exception c =
    c.starts_with-in-Exception.ensures.value ∙ starts_begins _ c.args.s.now ∙ ap (λ (f : RatioForm). begins (ratio_form_head f) c.args.s.now) (sym c.in-Exception.is)
