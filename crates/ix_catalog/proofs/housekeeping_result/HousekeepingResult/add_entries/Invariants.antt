use Rattle.std.proofs.Common.{◌≡◌, take}
use Rattle.ix_catalog.specs.Carried as carrying
use Rattle.ix_catalog.proofs.housekeeping_result.HousekeepingResult.add_entries.Given as goal

abbrev pub invariant-loop-i : goal.invariant-loop-i
invariant-loop-i l = l.self ≡ carrying.with_entries (carrying.entries_of l.turn l.numbered (take l.i l.frozen)) l.initial.self
