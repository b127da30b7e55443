use Rattle.std.proofs.Common.{◌≡◌, false, take}
use Rattle.std.specs.List.{list_any}
use Rattle.ix_files.specs.Sought.{is_of}
use Rattle.ix_files.proofs.seeking.is_of_any.Given as goal

abbrev pub invariant-loop-input : goal.invariant-loop-input
invariant-loop-input l = record { none : list_any (is_of l.path) (take l.input-index l.inputs) ≡ false }
