use Rattle.std.proofs.Common.{◌≡◌, ◌++◌, map, take, drop}
use Rattle.ix_pikevm.specs.Seeks.{forgotten}
use Rattle.ix_pikevm.proofs.seek.forget.Given as goal

-- those before have forgotten
abbrev pub invariant-loop-i : goal.invariant-loop-i
invariant-loop-i l = l.threads.items ≡ map forgotten (take l.i l.fn.threads.items) ++ drop l.i l.fn.threads.items
