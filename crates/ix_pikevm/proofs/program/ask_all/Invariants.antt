use Rattle.ix_pikevm.specs.Written.{IsCollected}
use Rattle.ix_pikevm.proofs.program.ask_all.Given as goal

abbrev pub invariant-loop-pc : goal.invariant-loop-pc
invariant-loop-pc l = IsCollected l.p.rows l.code l.pc l.asks.items l.inner.items
