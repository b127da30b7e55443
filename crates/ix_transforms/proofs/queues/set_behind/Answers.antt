use Rattle.std.proofs.Common.{rules}
use Rattle.ix_transforms.proofs.queues.set_behind.Goals as goal

pub returns-then-not-starts_with : goal.returns-then-not-starts_with
returns-then-not-starts_with c = search rules
