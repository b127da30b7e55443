use Rattle.std.proofs.Common.{◌≡◌, map, take}
use Rattle.ix_replay.specs.Amounts.{number_of}
use Rattle.ix_replay.proofs.removed.numbers_of.Given as goal

abbrev pub invariant-loop-file : goal.invariant-loop-file
invariant-loop-file l = l.numbers.items ≡ map number_of (take l.file-index l.files)
