-- `read_one_strict` meets its contract: a place is accepted where it is the smallest that holds its ratio, and the head decides of all else.
use Rattle.std.specs.Prelude.{None}
use Rattle.std.proofs.Common.{◌≡◌, refl, sym, ap, ap₂, ◌∙◌, ◌-◌, ◌≤◌, Bool, arith, reverse, length, get_or, eqb}
use Rattle.std.specs.Bool.{then_some}
use Rattle.std.proofs.lemmas.List.{length-reverse}
use Rattle.ratio_format.specs.Windows.{window_size}
use Rattle.ratio_format.specs.Choice.{find}
use Rattle.ratio_format.proofs.Windows.{reverse-back}
use Rattle.ratio_format.proofs.Open.{open_empty, strict_nothing}
use Rattle.ratio_codec.proofs.read.First.{first_is, first_none}
use Rattle.ratio_codec.proofs.read.References.{Named, named_strict}
use Rattle.ratio_codec.proofs.read.read_one_strict.Goals as goal

pub returns-in_err-b : goal.returns-in_err-b
returns-in_err-b c =
    let w = reverse c.args.window.now in
    c.from_residual.ensures ∙ strict_nothing w c.args.s.now None (open_empty w c.args.s.now (first_none c.args.s.now c.in_err-b.ensures.value)) refl

pub returns-then-b-window : goal.returns-then-b-window
returns-then-b-window c =
    let w = reverse c.args.window.now in
    let s = c.args.s.now in
    let f = first_is s c.in_ok-b.field-0.now c.in_ok-b.ensures.value in
    let v = get_or c.args.window.now (length c.args.window.now - 1 - c.in_ok-b.field-0.now) 0 in
    let held : v ≡ get_or w (get_or s 0 0) 0 = rw f.1 (sym (reverse-back c.args.window.now (get_or s 0 0) (rw f.1 at c.if-b-window.true))) in
    let named : Named w v s = (omega (arith, f.0), rw length-reverse (rw f.1 at c.if-b-window.true), sym held) in
    let small : length w ≤ window_size = rw length-reverse c.requires in
    let found : c.pass_equal.result ≡ find v w = omega (arith, c.pass_equal.ensures) in
    let test : eqb c.pass_equal.result c.in_ok-b.field-0.now ≡ eqb (find v w) (get_or s 0 0) = ap₂ eqb found f.1 in
    c.then_some.ensures ∙ ap (λ (t : Bool). then_some t (v, 1)) test ∙ named_strict w v s named small
