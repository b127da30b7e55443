use Rattle.std.proofs.Common.{◌≡◌, take}
use Rattle.ix_manifest.specs.Book.{empty, replay, removals_in}
use Rattle.ix_manifest.specs.Slots.{AreRemovals, items_of}
use Rattle.ix_manifest.proofs.slots.last_removals.Given as goal

abbrev pub invariant-loop-slot : goal.invariant-loop-slot
invariant-loop-slot l = record {
  are : AreRemovals (take l.slot-index l.slots) l.files;
  last : l.files ≡ removals_in (replay (items_of (take l.slot-index l.slots)) empty);
}
