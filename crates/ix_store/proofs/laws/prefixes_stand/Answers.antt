use Rattle.ix_store.proofs.Lawful.{stands_from}
use Rattle.ix_store.proofs.laws.prefixes_stand.Goals as goal

pub returns : goal.returns
returns g c = stands_from _
