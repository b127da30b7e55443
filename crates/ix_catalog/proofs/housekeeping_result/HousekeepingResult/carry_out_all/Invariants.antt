use Rattle.std.proofs.Common.{◌≡◌, ◌++◌, drop}
use Rattle.ix_catalog.specs.Carried as carrying
use Rattle.ix_catalog.specs.Turning as defs
use Rattle.ix_catalog.proofs.housekeeping_result.HousekeepingResult.carry_out_all.Given as goal

abbrev pub invariant-loop-i : goal.invariant-loop-i
invariant-loop-i l = record {
  stay : l.stay ++ defs.turned l.turn l.self.next_file (drop l.i l.buckets) ≡ defs.turned l.turn l.initial.self.next_file l.buckets;
  numbered : l.numbered.items ++ defs.numbered l.turn l.self.next_file (drop l.i l.buckets) ≡ defs.numbered l.turn l.initial.self.next_file
      l.buckets;
  made : carrying.all_carried l.turn (drop l.i l.buckets) l.self ≡ carrying.all_carried l.turn l.buckets l.initial.self;
  counted : carrying.IsCounted l.self;
}
