-- `print` meets its contract: what is put is the text of the comparison of what reading the inputs left.
use mathlib.Core.Path.{sym, ◌∙◌}
use Rattle.compare.proofs.Printed.{read_as, refused_text_lem, lines_text, joined}
use Rattle.compare.proofs.print.Goals as goal

pub returns-in-Ok-clause-text : goal.returns-in-Ok-clause-text
returns-in-Ok-clause-text c =
    joined _ _ _ c.requires.2 c.put_properties.ensures.text c.put_points.ensures.text c.put_difference.ensures.text
    (lines_text (read_as c.from-a.ensures c.read_input.ensures.read) (read_as c.from-b.ensures c.read_input-2.ensures.read)
    c.in-Ok.overall (sym c.in-Ok.is ∙ c.overall_of.ensures) c.min.result c.min.ensures
    (c.first-first_points.ensures.positions, c.first-first_points.ensures.ratios) (c.first-second_points.ensures.positions, c.first-second_points.ensures.ratios))

pub returns-in-Err-clause-text : goal.returns-in-Err-clause-text
returns-in-Err-clause-text c =
    c.put_refused_in.ensures.text
    ∙ rw c.requires.2 (refused_text_lem (read_as c.from-a.ensures c.read_input.ensures.read) (read_as c.from-b.ensures c.read_input-2.ensures.read)
    c.in-Err.refused (sym c.in-Err.is ∙ c.overall_of.ensures))
