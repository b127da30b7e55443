use Rattle.std.proofs.Common.{rules}
use Rattle.ix_disk.proofs.Others.{others}
use Rattle.ix_archive.proofs.copying.copy.Goals as goal

pub returns-in_err-sync-clause-images : goal.returns-in_err-sync-clause-images
returns-in_err-sync-clause-images g c = search (rules, others)

pub returns-in_err-sync-clause-seen : goal.returns-in_err-sync-clause-seen
returns-in_err-sync-clause-seen g c = search (rules, others)

pub returns-clause-copied : goal.returns-clause-copied
returns-clause-copied g c = search (rules, others)

pub returns-clause-images : goal.returns-clause-images
returns-clause-images g c = search (rules, others)

pub returns-clause-seen : goal.returns-clause-seen
returns-clause-seen g c = search (rules, others)
