-- `Text::put_hex` meets its contract: 16 digits hold the number.
use mathlib.Core.Path.{ap, ◌∙◌}
use mathlib.Core.List.{List, ◌++◌}
use Prim.Native.Nat.{ℕ}
use native.Mathlib.Omega.{arith}
use Rattle.text.proofs.Numbers.{hex_fewest}
use Rattle.text.proofs.Numbers.Lengths.{length_hex}
use Rattle.text.proofs.Text.put_hex.Goals as goal

pub returns-clause-text : goal.returns-clause-text
returns-clause-text g c =
    c.put_bytes.ensures
    ∙ ap (λ (l : List ℕ). c.args.self.now ++ l) (c.hex-k.ensures.digits ∙ hex_fewest c.ranges.v.fits c.hex-k.ensures.len)

pub returns-clause-most : goal.returns-clause-most
returns-clause-most g c = omega (arith, length_hex c.args.v)
