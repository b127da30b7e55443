use Rattle.ix_store.proofs.Lawful.{stands_before}
use Rattle.ix_store.proofs.laws.fewer_stand.Goals as goal

pub returns : goal.returns
returns g c = stands_before _
