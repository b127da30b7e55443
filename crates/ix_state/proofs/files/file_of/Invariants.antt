use Rattle.std.proofs.Common.{◌≡◌, ◌++◌, drop, map}
use Rattle.ix_state.specs.Configs.{said}
use Rattle.ix_state.proofs.files.file_of.Given as goal

abbrev pub invariant-loop-one : goal.invariant-loop-one
invariant-loop-one l = l.file ++ map said (drop l.one-index l.kept) ≡ map said l.kept
