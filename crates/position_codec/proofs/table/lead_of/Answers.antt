-- `lead_of` meets its contract, by the form.
use Rattle.position_codec.proofs.table.Numbers.{old_leads}
use Rattle.position_codec.proofs.table.lead_of.Goals as goal

pub returns-in-Old : goal.returns-in-Old
returns-in-Old c = rw (c.in-Old.is, c.lead_by.ensures.0, c.lead_by.ensures.1) (old_leads c.args.five c.requires.1 c.requires.0)
