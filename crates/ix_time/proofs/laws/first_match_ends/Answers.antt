use Rattle.ix_time.proofs.PlaceLemmas.{match_ends}
use Rattle.ix_time.proofs.laws.first_match_ends.Goals as goal

pub returns : goal.returns
returns c = match_ends
