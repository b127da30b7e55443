use Rattle.std.proofs.Common.{rules}
use Rattle.ix_replay.proofs.Unnamed.{none_named}
use Rattle.ix_replay.proofs.removed.is_apart.Goals as goal

pub returns-else-may_have : goal.returns-else-may_have
returns-else-may_have c = (
  (λ yes. none_named c.args.files.now c.args.numbers.now c.args.mine c.requires.all
      (c.may_have.ensures c.if-may_have.false)),
  (λ all. search rules),
)
