use Rattle.ix_channels.proofs.EndedLemmas.{ended_more}
use Rattle.ix_channels.proofs.endings.Endings.add.Goals as goal

pub returns-clause-added : goal.returns-clause-added
returns-clause-added c = λ ended so_far.
    let e = c.in_ok-ending.ending in
    ended_more c.args.limits.now ended c.args.found.now c.args.self.now c.push.new.self e.outcomes e.item so_far
    c.in_ok-push.ensures.outcomes c.in_ok-push.ensures.items c.in_ok-ending.ensures.settles c.in_ok-ending.ensures.said
    c.in_ok-ending.ensures.proper c.in_ok-ending.ensures.small
