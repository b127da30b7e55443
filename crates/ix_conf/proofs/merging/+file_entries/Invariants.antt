use Rattle.std.proofs.Common.{length}
use Rattle.ix_conf.proofs.merging.+file_entries.Given as goal

abbrev pub decreases-file_entries : goal.decreases-file_entries
decreases-file_entries l = length l.file.now
