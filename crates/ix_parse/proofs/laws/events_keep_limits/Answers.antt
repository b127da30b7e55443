use Rattle.ix_parse.proofs.TimeLemmas.{all-small, all-near, all-arrivals}
use Rattle.ix_parse.proofs.laws.events_keep_limits.Goals as goal

pub returns-clause-sizes : goal.returns-clause-sizes
returns-clause-sizes c = all-small

pub returns-clause-times : goal.returns-clause-times
returns-clause-times c = all-near

pub returns-clause-arrivals : goal.returns-clause-arrivals
returns-clause-arrivals c = λ s meta stream closed moments.
    all-arrivals s meta stream closed (c.events_stay.ensures.lines s.merge.max_lines) moments
