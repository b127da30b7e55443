use Rattle.ix_channels.proofs.Briefness.{brief_have_records}
use Rattle.ix_channels.proofs.checks.have_records.Goals as goal

pub returns-then-has_brief_chance-clause-yes : goal.returns-then-has_brief_chance-clause-yes
returns-then-has_brief_chance-clause-yes c = λ t.
    brief_have_records c.args.limits.now c.args.outcomes.now (c.has_brief_chance.ensures.0 c.if-has_brief_chance.true)
    (c.are_brief.ensures.0 t)
