-- `print` meets its contract: the text is that for what reading the input left, and the index.
use mathlib.Core.Path.{refl, ap, ◌∙◌}
use Prim.Native.Nat.{ℕ, ◌-◌}
use native.Mathlib.Omega.{arith}
use lib.Seq.{length-take-le}
use Rattle.explain.proofs.Printed.{refused_text_lem, body_start, run_text}
use Rattle.explain.proofs.print.Goals as goal

pub overflow_sub-body : goal.overflow_sub-body
overflow_sub-body c = omega (arith, c.body_size.ensures, (body_start c.in-Ok.ensures.read c.args.index.now refl).0)

pub put_index-requires : goal.put_index-requires
put_index-requires c =
    let held = c.in-Ok.ensures.read.held refl in (
      c.requires.1,
      omega (arith, length-take-le _ _ held.ratios, held.few),
      omega (arith, (body_start c.in-Ok.ensures.read c.args.index.now refl).2),
    )

pub returns-in-Ok-clause-text : goal.returns-in-Ok-clause-text
returns-in-Ok-clause-text c =
    c.put_index.ensures.text
    ∙ run_text c.in-Ok.ensures.read c.args.index.now refl _ (ap (λ (n : ℕ). c.in-Ok.found.size - n) c.body_size.ensures)

pub returns-in-Err-clause-text : goal.returns-in-Err-clause-text
returns-in-Err-clause-text c =
    c.put_refused.ensures.text ∙ rw c.requires.1 (refused_text_lem c.in-Err.ensures.read c.args.index.now c.in-Err.ensures.numbered)
