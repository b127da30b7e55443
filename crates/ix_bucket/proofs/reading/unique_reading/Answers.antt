use Rattle.ix_bucket.proofs.Records.{one_reading}
use Rattle.ix_bucket.proofs.reading.unique_reading.Goals as goal

pub returns : goal.returns
returns c = one_reading
