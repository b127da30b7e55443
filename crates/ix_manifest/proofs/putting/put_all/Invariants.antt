use Rattle.std.proofs.Common.{◌≡◌, ◌<◌, ◌≤◌, ◌+◌, ℕ, List, ◌++◌, length, take}
use Rattle.ix_base.specs.Told.{Told}
use Rattle.ix_disk.specs.Image.{Apart}
use Rattle.ix_disk.specs.Moments.{ImagesStep, InFile}
use Rattle.ix_log.specs.Log.{IsUsable, IsBegun, IsReady, IsPutting, HasBodies, file_of, put_so_far}
use Rattle.ix_manifest.specs.Slots.{bytes_of}
use Rattle.ix_manifest.proofs.putting.put_all.Given as goal

abbrev pub invariant-loop-slot : goal.invariant-loop-slot
invariant-loop-slot g l = record {
  usable : IsUsable g.D.Disk l.log l.disk;
  counted : put_so_far l.log ≡ put_so_far l.fn.log + length (bytes_of (take l.slot-index l.slots));
  begun : 0 < l.slot-index → IsBegun g.D.Disk l.log l.disk;
  ready : (bodies : List (List ℕ)) (body : List ℕ) → IsReady g.D.Disk l.fn.log l.fn.disk bodies body →
      IsReady g.D.Disk l.log l.disk bodies (body ++ bytes_of (take l.slot-index l.slots));
  putting : (bodies : List (List ℕ)) (body : List ℕ) → IsReady g.D.Disk l.fn.log l.fn.disk bodies body →
      0 < l.slot-index → IsPutting g.D.Disk l.log l.disk bodies (body ++ bytes_of (take l.slot-index l.slots));
  images : (bodies : List (List ℕ)) (body : List ℕ) → IsReady g.D.Disk l.fn.log l.fn.disk bodies body →
      ImagesStep g.D.Disk l.fn.disk l.disk (InFile (file_of l.fn.log) (HasBodies bodies));
  seen : Told (Apart (file_of l.fn.log)) (g.D.Disk.seen l.fn.disk) (g.D.Disk.seen l.disk);
  file : file_of l.log ≡ file_of l.fn.log;
  later : g.D.Disk.faults l.fn.disk ≤ g.D.Disk.faults l.disk;
}
