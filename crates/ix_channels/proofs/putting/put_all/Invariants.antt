use Rattle.ix_channels.specs.Put.{ArePut}
use Rattle.ix_channels.proofs.putting.put_all.Given as goal

abbrev pub invariant-loop-direct : goal.invariant-loop-direct
invariant-loop-direct l = ArePut l.config.limits l.config.props l.fn.moment l.yielded l.outcomes
