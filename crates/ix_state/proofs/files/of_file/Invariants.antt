use Rattle.std.proofs.Common.{◌≡◌, ◌++◌, drop}
use Rattle.ix_state.specs.Configs.{kept_in}
use Rattle.ix_state.proofs.files.of_file.Given as goal

abbrev pub invariant-loop-one : goal.invariant-loop-one
invariant-loop-one l = l.list ++ kept_in l.file (drop l.one-index l.kept) ≡ kept_in l.file l.kept
