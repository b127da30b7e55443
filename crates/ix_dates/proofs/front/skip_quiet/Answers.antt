use Rattle.ix_dates.proofs.FrontLemmas.{passes_over}
use Rattle.ix_dates.proofs.front.skip_quiet.Goals as goal

pub returns : goal.returns
returns c = rw c.skip.ensures (passes_over c.args.s.now)
