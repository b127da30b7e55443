use Rattle.ix_time.proofs.ScanLemmas.{first_offset}
use Rattle.ix_time.proofs.laws.first_offset_reads.Goals as goal

pub returns : goal.returns
returns c = first_offset
