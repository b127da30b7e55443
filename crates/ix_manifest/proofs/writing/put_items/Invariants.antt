use Rattle.std.proofs.Common.{◌≡◌, ◌≤◌, ◌+◌, ℕ, List, [], ◌++◌, length}
use Rattle.std.specs.List.{AllByRecursion}
use Rattle.ix_base.specs.Told.{Told}
use Rattle.ix_disk.specs.Image.{Apart}
use Rattle.ix_disk.specs.Moments.{ImagesStep}
use Rattle.ix_items.specs.Spelling.{HasSpelling, body_bytes}
use Rattle.ix_log.specs.Log.{IsUsable, IsReady, HasNoMore, file_of, put_so_far}
use Rattle.ix_manifest.specs.Whole.{HasPut}
use Rattle.ix_manifest.proofs.writing.put_items.Given as goal

abbrev pub invariant-loop : goal.invariant-loop
invariant-loop g l = record {
  usable : IsUsable g.D.Disk l.log l.disk;
  room : put_so_far l.log + length (body_bytes (g.W.Whole.left l.state)) ≡ put_so_far l.fn.log + length
      (body_bytes (g.W.Whole.left l.fn.state));
  put : (body : List ℕ) → IsReady g.D.Disk l.fn.log l.fn.disk [] body →
      HasPut g.D.Disk l.log l.disk body (g.W.Whole.left l.fn.state) (g.W.Whole.left l.state);
  proper : AllByRecursion HasSpelling (g.W.Whole.left l.state) → AllByRecursion HasSpelling (g.W.Whole.left l.fn.state);
  no_more : HasNoMore g.D.Disk l.fn.log l.fn.disk → HasNoMore g.D.Disk l.log l.disk;
  images : ImagesStep g.D.Disk l.fn.disk l.disk (Apart (file_of l.fn.log));
  seen : Told (Apart (file_of l.fn.log)) (g.D.Disk.seen l.fn.disk) (g.D.Disk.seen l.disk);
  file : file_of l.log ≡ file_of l.fn.log;
  later : g.D.Disk.faults l.fn.disk ≤ g.D.Disk.faults l.disk;
}

abbrev pub decreases-loop : goal.decreases-loop
decreases-loop g l = length (g.W.Whole.left l.state)
