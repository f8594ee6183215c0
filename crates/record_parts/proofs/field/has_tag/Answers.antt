-- `has_tag` meets its contract: past the end of the input there is no tag, which counts as 0.
use mathlib.Core.Path.{refl, sym, ap, ◌∙◌}
use Prim.Native.Nat.{ℕ}
use native.Mathlib.Omega.{arith}
use borrow.Author.Tests.{le-ltb, ne_eqb}
use lib.Dec.{eqb}
use lib.ListN.{length, get_or-eq_default}
use Rattle.record_format.specs.Fields.{tag_at}
use Rattle.record_parts.proofs.field.has_tag.Goals as goal

pub returns-then-at-input : goal.returns-then-at-input
unfolding tag_at
returns-then-at-input c = refl

pub returns-else-at-input : goal.returns-else-at-input
unfolding tag_at
returns-else-at-input c = le-ltb c.args.at (length c.args.input.now) c.if-at-input.false
    ∙ sym (ap (λ (t : ℕ). eqb t c.args.tag) (get_or-eq_default c.args.input.now 0 c.if-at-input.false) ∙ ne_eqb 0 c.args.tag (λ e. omega (arith, c.requires)))
