-- `code_in` meets its contract: the words hold the row's prefix and width.
use mathlib.Core.Path.{sym, ap, ◌∙◌}
use Prim.Native.Nat.{◌<◌}
use native.Mathlib.Omega.{arith}
use lib.ListN.{length}
use mir.Syntax.{w64}
use mir.ValLaws.{to_z-of_z}
use Rattle.position_format.specs.Rows.{residue}
use Rattle.position_format.specs.Tables.{table_of}
use Rattle.position_format.proofs.Rows.Codes.{in_table-row}
use Rattle.position_codec.proofs.Codes.{coded_by}
use Rattle.position_codec.proofs.table.Numbers.{row_fits}
use Rattle.position_codec.proofs.table.code_in.Goals as goal

pub modulo-requires : goal.modulo-requires
modulo-requires c = omega (arith, c.width-width.ensures, (row_fits c.args.row.index c.args.row.known).narrow)

pub returns : goal.returns
returns c =
    let a = c.args in
    let inside : a.row.index < length (table_of a.form) = omega (arith, c.requires.1, in_table-row (table_of a.form) a.z c.requires.0) in
    coded_by a.form a.row a.z c.requires.0 c.requires.1 _ _ c.width-width.result c.modulo.result
    (rw (sym c.byte_of.ensures, sym c.byte_of-2.ensures) at (c.prefixes_of-prefixes.ensures a.row.index inside))
    c.width-width.ensures (c.modulo.ensures ∙ ap (residue c.width-width.result) (to_z-of_z w64 a.z c.ranges.z))
