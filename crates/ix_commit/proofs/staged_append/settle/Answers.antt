use Rattle.std.proofs.Common.{rules}
use Rattle.ix_disk.proofs.Others.{others}
use Rattle.ix_commit.proofs.staged_append.settle.Goals as goal

pub returns-in_err-append-clause-images : goal.returns-in_err-append-clause-images
returns-in_err-append-clause-images g c = search (rules, others)
