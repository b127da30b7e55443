use Rattle.std.proofs.Common.{rules}
use Rattle.ix_catalog.proofs.measures.all_bytes.Goals as goal

pub returns : goal.returns
returns c = search rules
