use Rattle.ix_recovery.proofs.Permuted.{items_lead}
use Rattle.ix_recovery.proofs.list_laws.items_lead.Goals as goal

pub returns : goal.returns
returns c = items_lead
