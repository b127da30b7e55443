use Rattle.std.proofs.Common.{take}
use Rattle.std.specs.Prelude.{All}
use Rattle.ix_manifest.specs.Root.{IsNoLog}
use Rattle.ix_manifest.proofs.manifest_state.spares_logs.Given as goal

abbrev pub invariant-loop-file : goal.invariant-loop-file
invariant-loop-file l = All (IsNoLog l.current) (take l.file-index l.files)
