-- `lead_by` meets its contract: each entry of the small table is a row.
use Rattle.position_codec.proofs.table.Numbers.{lead_small}
use Rattle.position_codec.proofs.table.lead_by.Goals as goal

pub invariant_of-result : goal.invariant_of-result
invariant_of-result c = record { known = rw c.byte_of.ensures (lead_small c.args.five c.requires.1 c.requires.0) }
