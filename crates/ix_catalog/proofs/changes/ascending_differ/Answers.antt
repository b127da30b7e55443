use Rattle.ix_catalog.proofs.Finding.{ascending_differ}
use Rattle.ix_catalog.proofs.changes.ascending_differ.Goals as goal

pub returns : goal.returns
returns c = ascending_differ
