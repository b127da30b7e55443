use Rattle.std.proofs.Common.{◌≡◌, false, take}
use Rattle.std.specs.Prelude.{All}
use Rattle.ix_base.specs.declared.files.File.{File}
use Rattle.ix_replay.specs.Covering.{has}
use Rattle.ix_replay.proofs.file_numbers.FileNumbers.spare.Given as goal

abbrev pub invariant-loop-file : goal.invariant-loop-file
invariant-loop-file l = All (λ (f : File). has l.self.held f.number ≡ false) (take l.file-index l.removed)
