-- `put_code` meets its contract: the words hold the row's prefix and width.
use mathlib.Core.Path.{sym}
use Prim.Native.Nat.{◌+◌, ◌-◌}
use native.Mathlib.Omega.{arith}
use lib.ListN.{get_or, take, drop}
use Rattle.bits.specs.Packing.{bits}
use Rattle.bits.proofs.Sinks.{laid-laid}
use Rattle.position_format.specs.Rows.{no_row}
use Rattle.position_format.specs.Tables.{table_of}
use Rattle.position_codec.specs.Codes.{row_at}
use Rattle.position_codec.proofs.table.Numbers.{row_fits}
use Rattle.position_codec.proofs.recode.Copying.{one_field, field_fits, field_lt, field_is, row_zero}
use Rattle.position_codec.proofs.recode.put_code.Goals as goal

pub returns-then-row-eq0 : goal.returns-then-row-eq0
returns-then-row-eq0 c = rw c.if-row-eq0.true (omega (arith, c.lay.ensures.0), rw (row_zero c.args.form c.args.at c.args.lead.len c.args.body.now) at c.lay.ensures.1)

pub overflow_add-prefix : goal.overflow_add-prefix
overflow_add-prefix c =
    let p = rw (sym c.byte_of-size.ensures, sym c.byte_of-prefix.ensures) at (c.prefixes_of-prefixes.ensures c.args.lead.row.index c.requires.0) in
    record { fits = field_fits c.args.form c.args.lead c.args.body.now c.args.at c.args.w c.requires.0 c.requires.1 c.requires.2 c.requires.5 c.byte_of-size.result c.byte_of-prefix.result p c.if-len-le57.true c.width-width.result c.field_ahead-rest.result c.width-width.ensures c.field_ahead-rest.ensures }

pub lay-requires-then-len-le57 : goal.lay-requires-then-len-le57
lay-requires-then-len-le57 c =
    let p = rw (sym c.byte_of-size.ensures, sym c.byte_of-prefix.ensures) at (c.prefixes_of-prefixes.ensures c.args.lead.row.index c.requires.0) in
    (omega (arith, c.requires.4), one_field c.args.form c.args.lead c.args.body.now c.args.at c.args.w c.requires.0 c.requires.1 c.requires.2 c.requires.5 c.byte_of-size.result c.byte_of-prefix.result p c.if-len-le57.true c.width-width.result c.field_ahead-rest.result c.width-width.ensures c.field_ahead-rest.ensures, field_lt c.args.form c.args.lead c.args.body.now c.args.at c.args.w c.requires.0 c.requires.1 c.requires.2 c.requires.5 c.byte_of-size.result c.byte_of-prefix.result p c.if-len-le57.true c.width-width.result c.field_ahead-rest.result c.width-width.ensures c.field_ahead-rest.ensures)

pub returns-then-len-le57 : goal.returns-then-len-le57
returns-then-len-le57 c =
    let p = rw (sym c.byte_of-size.ensures, sym c.byte_of-prefix.ensures) at (c.prefixes_of-prefixes.ensures c.args.lead.row.index c.requires.0) in
    (omega (arith, c.lay-then-len-le57.ensures.0), rw (field_is c.args.form c.args.lead c.args.body.now c.args.at c.args.w c.requires.0 c.requires.1 c.requires.2 c.requires.5 c.byte_of-size.result c.byte_of-prefix.result p c.if-len-le57.true c.width-width.result c.field_ahead-rest.result c.width-width.ensures c.field_ahead-rest.ensures) at c.lay-then-len-le57.ensures.1)

pub copy_bits-requires : goal.copy_bits-requires
copy_bits-requires c = (
  omega (arith, c.width-width.ensures, (row_fits c.args.lead.row.index c.args.lead.row.known).narrow),
  omega (arith, c.width-width.ensures, c.requires.1, c.requires.2),
  c.requires.3,
  omega (arith, c.lay-t.ensures.0, c.requires.4),
)

pub returns : goal.returns
returns c =
    let p = rw (sym c.byte_of-size.ensures, sym c.byte_of-prefix.ensures) at (c.prefixes_of-prefixes.ensures c.args.lead.row.index c.requires.0) in
    let a = c.args in
    let k = (row_at a.lead.row).width in (
      omega (arith, c.lay-t.ensures.0, c.copy_bits.ensures.0),
      laid-laid (get_or (table_of a.form) a.lead.row.index no_row).prefix (take k (drop (a.at + (a.lead.len - k)) (bits a.body.now))) a.s c.lay-t.result c.copy_bits.result
          a.out.now c.lay-t.new.out _ (rw p.bits c.lay-t.ensures.1) (rw c.width-width.ensures at c.copy_bits.ensures.1),
    )
