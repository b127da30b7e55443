use Rattle.std.proofs.Common.{◌≡◌, drop}
use Rattle.std.specs.List.{enumerate_from}
use Rattle.ix_life.specs.Placing as defs
use Rattle.ix_life.proofs.placing.into.Given as goal

abbrev pub invariant-loop-i : goal.invariant-loop-i
invariant-loop-i l =
    defs.lesser (λ (x : defs.Numbered). x.1.id) l.best
    (defs.least (λ (x : defs.Numbered). defs.takes l.limits l.out l.time x.1) (λ (x : defs.Numbered). x.1.id)
    (enumerate_from l.i (drop l.i l.buckets)))
    ≡ defs.into l.limits l.out l.time l.buckets
