use Rattle.std.proofs.Common.{◌≡◌, take}
use Rattle.ix_manifest.specs.Book.{empty, replay, run_in}
use Rattle.ix_manifest.proofs.plain.PlainBookManifestState.run.Given as goal

abbrev pub invariant-loop-item : goal.invariant-loop-item
invariant-loop-item l = l.run ≡ run_in (replay (take l.item-index l.items) empty)
