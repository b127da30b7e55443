use Rattle.ix_parse.proofs.CarryLemmas.{decides}
use Rattle.ix_parse.proofs.outcomes_follow_carry.Goals as goal

pub returns : goal.returns
returns c = λ settings sound usable. decides settings (c.lines_follow_carry.ensures settings.breaker sound usable.takes)
    c.events_follow_carry.ensures
