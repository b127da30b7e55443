use Rattle.ix_parse.proofs.StandLemmas.{stays}
use Rattle.ix_parse.proofs.settled_stays.Goals as goal

pub returns : goal.returns
returns c = λ settings sound usable. stays settings (c.lines_stay.ensures.patterns settings.breaker sound usable.takes)
    c.events_stay.ensures.stay
