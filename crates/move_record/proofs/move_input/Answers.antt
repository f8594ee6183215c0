-- `move_input` meets its contract, by what the move and its line leave.
use mathlib.Core.Path.{refl, sym, ap, ◌∙◌}
use borrow.Author.Tests.{ne_eqb}
use mathlib.Core.Bool.{Bool}
use Rattle.std.specs.Bool.{then_some}
use Rattle.std.specs.Prelude.{Ok, Err, Some, None}
use Rattle.record_format.specs.Answers.{move_answer}
use Rattle.move_record.proofs.Printed.{line_refused, line-moved, move_told}
use Rattle.move_record.proofs.move_input.Goals as goal

pub returns-in-Ok : goal.returns-in-Ok
returns-in-Ok c = move_told c.args.form c.args.input.now c.args.out.now _ _ (move_answer (Ok c.in-Ok.moved)) (Some c.in-Ok.moved.length) c.requires.0 c.requires.1
    c.move_to.auto.out (c.in-Ok.ensures.answer, c.in-Ok.ensures.output) refl (c.put_moved_line.ensures ∙ rw c.requires.2 (line-moved (move_answer (Ok c.in-Ok.moved)) refl))

pub returns-in-Err : goal.returns-in-Err
returns-in-Err c = move_told c.args.form c.args.input.now c.args.out.now _ _ (move_answer (Err c.in-Err.refusal)) None c.requires.0 c.requires.1
    c.move_to.auto.out (c.in-Err.ensures.answer, c.in-Err.ensures.output)
    (sym (ap (λ (b : Bool). then_some b 0) (ne_eqb c.in-Err.refusal.number 0 c.in-Err.ensures.numbered)))
    (c.put_refused.ensures.text ∙ rw c.requires.2 (line_refused (move_answer (Err c.in-Err.refusal)) c.in-Err.ensures.numbered))
