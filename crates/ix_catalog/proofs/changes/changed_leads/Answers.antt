use Rattle.ix_catalog.proofs.Leading.{changed_leads}
use Rattle.ix_catalog.proofs.changes.changed_leads.Goals as goal

pub returns : goal.returns
returns c = changed_leads
