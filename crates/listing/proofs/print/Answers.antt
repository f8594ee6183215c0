-- `print` meets its contract: the text is that for what reading the input left.
use mathlib.Core.Path.{refl, ◌∙◌}
use mir.Syntax.{w64}
use mir.Val.{SFits}
use mir.ValLaws.{to_z-of_z}
use Rattle.listing.proofs.Printed.{refused_text_lem, run_text, span_is}
use Rattle.listing.proofs.print.Goals as goal

pub returns-in-Ok-clause-text : goal.returns-in-Ok-clause-text
returns-in-Ok-clause-text c =
    let fits : SFits w64 c.unwrap_or-span.result = record { sfits = c.unwrap_or-span.type_inv } in
    let span = to_z-of_z w64 c.unwrap_or-span.result fits ∙ span_is c.span.result c.span.ensures.answer c.unwrap_or-span.ensures in
    c.put_listing.ensures.text ∙ rw c.requires.1 (run_text c.in-Ok.ensures.read refl _ span)

pub returns-in-Err-clause-text : goal.returns-in-Err-clause-text
returns-in-Err-clause-text c = c.put_refused.ensures.text ∙ rw c.requires.1 (refused_text_lem c.in-Err.ensures.read c.in-Err.ensures.numbered)
