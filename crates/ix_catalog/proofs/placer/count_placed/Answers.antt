use Rattle.std.proofs.Common.{rules}
use Rattle.ix_catalog.proofs.placer.count_placed.Goals as goal

pub returns-then-fresh : goal.returns-then-fresh
returns-then-fresh c = search rules
