use Rattle.std.proofs.Common.{◌≡◌, take}
use Rattle.std.specs.List.{fold}
use Rattle.ix_catalog.specs.Carried as carrying
use Rattle.ix_catalog.specs.Turning as defs
use Rattle.ix_catalog.proofs.housekeeping_result.turn_all.Given as goal

abbrev pub invariant-loop-i : goal.invariant-loop-i
invariant-loop-i l = record {
  made : l.made ≡ fold (defs.turn_index l.moment) (defs.untouched l.shelves.next_file) (take l.i l.indexes);
  counted : carrying.IsCounted l.made;
}
