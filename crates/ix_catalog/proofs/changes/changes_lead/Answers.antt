use Rattle.ix_catalog.proofs.LeadingAll.{changes_lead}
use Rattle.ix_catalog.proofs.changes.changes_lead.Goals as goal

pub returns : goal.returns
returns c = changes_lead
