use Rattle.std.proofs.Common.{◌≡◌, drop}
use Rattle.ix_state.specs.Checks.{by_file}
use Rattle.ix_state.proofs.checks.stand_by_file.Given as goal

abbrev pub invariant-loop-one : goal.invariant-loop-one
invariant-loop-one l = by_file l.file (drop l.one-index l.kept) ≡ by_file 1 l.kept
