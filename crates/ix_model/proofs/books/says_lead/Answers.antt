use Rattle.ix_model.proofs.Saying.{says_lead, says_join}
use Rattle.ix_model.proofs.books.says_lead.Goals as goal

pub returns-clause-lead : goal.returns-clause-lead
returns-clause-lead c = says_lead

pub returns-clause-join : goal.returns-clause-join
returns-clause-join c = says_join
