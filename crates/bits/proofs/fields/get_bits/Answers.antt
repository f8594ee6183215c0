-- `fields::get_bits` meets its contract: by one field, or by its first 32 bits and the others.
use Rattle.bits.proofs.Packing.Field.{field_two}
use Rattle.bits.proofs.fields.get_bits.Goals as goal

pub returns : goal.returns
returns c =
    let a = c.args in
    let p = c.requires in
    let x = c.get_few-high in
    let y = c.get_few-rest in
    field_two a.s.now a.at a.k c.if-k-le57.false p.0 p.1 x.result y.result x.ensures.1 y.ensures.1 x.ensures.0 y.ensures.0
