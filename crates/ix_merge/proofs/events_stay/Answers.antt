use Rattle.ix_merge.proofs.Laws.{events-stay, groups-keep}
use Rattle.ix_merge.proofs.events_stay.Goals as goal

pub returns-clause-stay : goal.returns-clause-stay
returns-clause-stay c = events-stay

pub returns-clause-lines : goal.returns-clause-lines
returns-clause-lines c = groups-keep
