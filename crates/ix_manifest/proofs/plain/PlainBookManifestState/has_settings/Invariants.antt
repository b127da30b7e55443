use Rattle.std.proofs.Common.{◌≡◌, take}
use Rattle.ix_manifest.specs.Book.{empty, replay, has_settings}
use Rattle.ix_manifest.proofs.plain.PlainBookManifestState.has_settings.Given as goal

abbrev pub invariant-loop-item : goal.invariant-loop-item
invariant-loop-item l = l.settled ≡ has_settings (replay (take l.item-index l.items) empty)
