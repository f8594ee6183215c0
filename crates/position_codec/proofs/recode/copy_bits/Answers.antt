-- `copy_bits` meets its contract: the number of bits, laid in as many, gives these bits.
use Rattle.position_codec.proofs.recode.Copying.{bits_number}
use Rattle.position_codec.proofs.recode.copy_bits.Goals as goal

pub returns : goal.returns
returns c = (c.lay.ensures.0, rw (bits_number c.args.body.now c.args.at c.args.k c.get_bits.result c.requires.1 c.get_bits.ensures.0) at c.lay.ensures.1)
