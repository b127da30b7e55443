use Rattle.ix_catalog.proofs.LeadingShelves.{shelves_lead}
use Rattle.ix_catalog.proofs.changes.shelves_lead.Goals as goal

pub returns : goal.returns
returns c = shelves_lead
