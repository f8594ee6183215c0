-- `modulo` meets its contract: the lower bits of two's complement.
use mathlib.Core.Path.{◌≡◌, ap, ◌∙◌}
use Prim.Native.Nat.{ℕ, ◌%◌, ◌^◌}
use native.Mathlib.Omega.{arith}
use mir.Syntax.{w64}
use mir.Val.{of_z}
use mir.ValLaws.{to_z-of_z}
use Rattle.position_format.specs.Rows.{residue}
use Rattle.bits.proofs.Digits.Word.{mask_pow}
use Rattle.position_codec.proofs.table.Residues.{twos, residue_down}
use Rattle.position_codec.proofs.table.modulo.Goals as goal

pub returns-then-k-lt64 : goal.returns-then-k-lt64
returns-then-k-lt64 c =
    let said = c.cast_unsigned-y.ensures ∙ ap (of_z w64) (to_z-of_z w64 c.args.z c.ranges.z) ∙ twos c.args.z c.ranges.z in
    rw (mask_pow c.args.k c.if-k-lt64.true) (ap (λ (y : ℕ). y % 2 ^ c.args.k) said ∙ residue_down c.args.k c.requires c.args.z)

pub returns : goal.returns
returns c =
    let said = c.cast_unsigned-y.ensures ∙ ap (of_z w64) (to_z-of_z w64 c.args.z c.ranges.z) ∙ twos c.args.z c.ranges.z in
    let all : 64 ≡ c.args.k = omega (arith, c.requires, c.if-k-lt64.false) in
    said ∙ ap (λ (k : ℕ). residue k c.args.z) all
