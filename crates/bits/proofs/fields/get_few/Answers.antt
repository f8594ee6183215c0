-- `bits::get_few` meets its contract: the field is read by way of the number of the bytes that hold it.
use Rattle.lists.proofs.Below.{below_of}
use Rattle.bits.proofs.Packing.Field.{field_one}
use Rattle.bits.proofs.fields.get_few.Goals as goal

pub returns : goal.returns
returns c =
    let a = c.args in
    field_one a.s.now a.at a.k c.get_bytes-x.result c.requires.0 c.requires.1 (below_of 256 a.s.now (λ i. (c.type_inv.s i).fits)) c.get_bytes-x.ensures.0
