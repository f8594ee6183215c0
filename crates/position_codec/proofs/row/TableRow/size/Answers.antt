-- `TableRow::size` meets its contract: a row of at most 57 bits.
use mathlib.Core.Path.{ap, ◌∙◌}
use Prim.Native.Nat.{ℕ, ◌*◌, ◌%◌, ◌^◌}
use native.Mathlib.Omega.{arith}
use lib.Pow.{pow_pos, pow_mono}
use Rattle.bits.proofs.Digits.Word.{mask_pow}
use Rattle.position_codec.specs.Codes.{row_at}
use Rattle.position_codec.proofs.row.TableRow.size.Goals as goal

pub returns : goal.returns
returns c =
    let k = (row_at c.args.self).width in
    let e = ap (λ (n : ℕ). 1 * 2 ^ n % 2 ^ 64) c.width.ensures ∙ mask_pow k (omega (arith, c.requires)) in
    (e, rw e (pow_pos k), rw e (pow_mono c.requires))
