use Rattle.std.proofs.Common.{take}
use Rattle.std.specs.Prelude.{All}
use Rattle.ix_replay.specs.Bounds.{IsFileNumber}
use Rattle.ix_replay.proofs.ranges.are_numbers.Given as goal

abbrev pub invariant-loop-file : goal.invariant-loop-file
invariant-loop-file l = All (IsFileNumber) (take l.file-index l.files)
