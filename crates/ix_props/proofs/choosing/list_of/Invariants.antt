use Rattle.std.proofs.Common.{◌≡◌, ◌++◌}
use Rattle.ix_props.specs.Ranking.{lent}
use Rattle.ix_props.proofs.FindLemmas.{entries_of}
use Rattle.ix_props.proofs.choosing.list_of.Given as goal

abbrev pub invariant-loop-candidate : goal.invariant-loop-candidate
invariant-loop-candidate l = lent l.list.items ++ entries_of l.candidate-iterator ≡ entries_of l.initial.candidate-iterator
