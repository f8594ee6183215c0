-- `Text::put_signed` meets its contract, with a minus sign and without.
use mathlib.Core.List.{List, [], ◌∷◌, ◌++◌, append_assoc}
use mathlib.Core.Path.{sym, ap, ◌∙◌}
use Prim.Native.Nat.{ℕ}
use Rattle.text.specs.Numbers.{decimal}
use Rattle.text.proofs.Numbers.Absolute.{signed_negative, signed-plain}
use Rattle.text.proofs.Numbers.Lengths.{length-signed}
use Rattle.text.proofs.Text.put_signed.Goals as goal
use Rattle.text.proofs.Text.put_signed.Goals.{then-z-lt0, else-z-lt0}

pub returns-clause-text : goal.returns-clause-text
returns-clause-text g c =
    let digits = decimal c.unsigned_abs.result in
    c.put_decimal.ensures.text ∙ elim c.if-z-lt0.branch [
      | then-z-lt0 w ↦
          ap (λ (l : List ℕ). l ++ digits) (w.self-is ∙ w.put.ensures)
          ∙ append_assoc c.args.self.now (45 ∷ []) digits
          ∙ ap (λ (l : List ℕ). c.args.self.now ++ l) (sym (signed_negative c.args.z c.ranges.z c.unsigned_abs.ensures.value w.if-z-lt0.true))
      | else-z-lt0 w ↦
          ap (λ (l : List ℕ). l ++ digits) w.self-is
          ∙ ap (λ (l : List ℕ). c.args.self.now ++ l) (sym (signed-plain c.args.z c.ranges.z c.unsigned_abs.ensures.value w.if-z-lt0.false))
    ]

pub returns-clause-most : goal.returns-clause-most
returns-clause-most g c = length-signed c.args.z
