use Rattle.ix_bounds.proofs.Ticking.{ticks}
use Rattle.ix_bounds.proofs.tick_laws.ticks_come_first.Goals as goal

pub returns : goal.returns
returns c = λ choose history order. ticks choose history order
