-- `put_index` meets its contract: both lines, an index that no ratio has, and a text that is none.
use mathlib.Core.Path.{sym, ap, ◌∙◌}
use mathlib.Core.List.{◌++◌}
use Rattle.refusals.specs.declared.Refusal.{Refusal}
use Rattle.text.specs.Lines.{refused_line}
use Rattle.explain.specs.Indexes.{given_index}
use Rattle.explain.proofs.Printed.{index_none, index_past}
use Rattle.explain.proofs.put_index.Goals as goal
use Rattle.explain.proofs.put_index.Goals.{in_default-via-in-Some+else-i-ratios, in_default-via-in_default}

pub returns-in_default-clause-text : goal.returns-in_default-clause-text
returns-in_default-clause-text c =
    c.put_refused.ensures.text ∙ ap (λ (f : Refusal). c.args.out.now ++ refused_line f.number f.place) c.at.ensures ∙ rw c.requires.0 (elim c.in_default.branch [
      | in_default-via-in-Some+else-i-ratios w ↦
          index_past c.args.b c.args.ratios.now c.requires.1 (given_index c.args.index.now) w.in-Some.i (sym w.in-Some.ensures) w.if-i-ratios.false
      | in_default-via-in_default w ↦ index_none c.args.b c.args.ratios.now (given_index c.args.index.now) (sym w.in_default.ensures)
    ])
