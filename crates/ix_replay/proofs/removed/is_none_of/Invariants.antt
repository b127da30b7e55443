use Rattle.std.proofs.Common.{take}
use Rattle.std.specs.Prelude.{All}
use Rattle.std.proofs.Common.{◌≢◌}
use Rattle.ix_base.specs.declared.files.File.{File}
use Rattle.ix_replay.proofs.removed.is_none_of.Given as goal

abbrev pub invariant-loop-file : goal.invariant-loop-file
invariant-loop-file l = All (λ (file : File). l.mine ≢ file) (take l.file-index l.files)
