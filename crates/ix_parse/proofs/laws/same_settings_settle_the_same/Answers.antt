use Rattle.ix_parse.proofs.SameLemmas.{settle, carry}
use Rattle.ix_parse.proofs.laws.same_settings_settle_the_same.Goals as goal

pub returns-clause-settle : goal.returns-clause-settle
returns-clause-settle c = settle

pub returns-clause-carry : goal.returns-clause-carry
returns-clause-carry c = carry
