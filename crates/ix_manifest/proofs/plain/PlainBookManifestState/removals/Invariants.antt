use Rattle.std.proofs.Common.{◌≡◌, take}
use Rattle.ix_manifest.specs.Book.{empty, replay, removals_in}
use Rattle.ix_manifest.proofs.plain.PlainBookManifestState.removals.Given as goal

abbrev pub invariant-loop-item : goal.invariant-loop-item
invariant-loop-item l = l.files ≡ removals_in (replay (take l.item-index l.items) empty)
