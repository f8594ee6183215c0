-- `prefixes_of` meets its contract: each table's prefixes stand in its words.
use Rattle.position_codec.proofs.table.Numbers.{old_prefix, wide_prefix}
use Rattle.position_codec.proofs.table.prefixes_of.Goals as goal

pub returns-in-Old : goal.returns-in-Old
returns-in-Old c = rw c.in-Old.is old_prefix

pub returns-in-Wide : goal.returns-in-Wide
returns-in-Wide c = rw c.in-Wide.is wide_prefix
