use Rattle.std.proofs.Common.{◌≡◌, ◌++◌, drop, map}
use Rattle.ix_state.specs.Keeping.{kept_as}
use Rattle.ix_state.proofs.keeping.add_file.Given as goal

abbrev pub invariant-loop-at : goal.invariant-loop-at
invariant-loop-at l = l.list ++ map (kept_as l.file) (drop l.at l.merged) ≡ l.initial.list ++ map (kept_as l.file) l.merged
