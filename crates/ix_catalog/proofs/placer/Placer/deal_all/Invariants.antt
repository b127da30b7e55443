use Rattle.std.proofs.Common.{◌≡◌}
use Rattle.ix_catalog.specs.Dealing as defs
use Rattle.ix_catalog.specs.Numbers.{KeepsNumbers, IsBalanced}
use Rattle.ix_catalog.proofs.placer.Placer.deal_all.Given as goal

abbrev pub invariant-loop-outcome : goal.invariant-loop-outcome
invariant-loop-outcome l = record {
  done : l.work ≡ defs.deal_all l.self.set.now l.self.ledger.now l.self.moment l.fn.work l.yielded;
  numbers : KeepsNumbers l.work.shelves;
  balanced : IsBalanced l.work.shelves;
}
