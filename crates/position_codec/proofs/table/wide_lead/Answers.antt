-- `wide_lead` meets its contract: five bits 1 are the last row's, and else the rows by four bits stand in one word, and the lengths of their
-- codes in another.
use Rattle.position_codec.proofs.table.Numbers.{last_leads, wide_leads}
use Rattle.position_codec.proofs.table.wide_lead.Goals as goal

pub returns-then-five-eq31 : goal.returns-then-five-eq31
returns-then-five-eq31 c = last_leads c.args.five c.requires.1 c.requires.0 c.if-five-eq31.true

pub returns : goal.returns
returns c = rw (c.lead_by.ensures.0, c.lead_by.ensures.1) (wide_leads c.args.five c.requires.1 c.requires.0 c.if-five-eq31.false)
