use Rattle.std.proofs.Common.{◌≡◌, ◌≤◌, List, ℕ}
use Rattle.ix_disk.specs.Image.{Stays}
use Rattle.ix_disk.specs.Moments.{ImagesStep}
use Rattle.ix_log.specs.Log.{IsReading, IsMounted, file_of}
use Rattle.ix_store.specs.Finding.{name_in, IsFound}
use Rattle.ix_store.proofs.finding.find_last.Given as goal

abbrev pub invariant-loop : goal.invariant-loop
invariant-loop g l = record {
  reading : (bodies : List (List ℕ)) × IsReading g.D.Disk l.log l.disk bodies × IsFound (name_in l.subject) l.found bodies;
  mounted : IsMounted g.D.Disk l.log l.disk;
  file : file_of l.log ≡ file_of l.fn.log;
  same : g.D.Disk.seen l.disk ≡ g.D.Disk.seen l.fn.disk;
  images : ImagesStep g.D.Disk l.fn.disk l.disk Stays;
  later : g.D.Disk.faults l.fn.disk ≤ g.D.Disk.faults l.disk;
}
