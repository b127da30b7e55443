use Rattle.std.proofs.Common.{sym, ap}
use Rattle.ix_transforms.specs.Changes.{outcome_in}
use Rattle.ix_transforms.proofs.changes.outcome.Goals as goal

pub returns-in-NullQueue : goal.returns-in-NullQueue
returns-in-NullQueue c = sym (ap (outcome_in c.args.queued.event) c.in-NullQueue.is)
