use Rattle.std.proofs.Common.{◌≡◌, ◌≤◌}
use Rattle.ix_disk.specs.Image.{Stays}
use Rattle.ix_disk.specs.Moments.{ImagesStep}
use Rattle.ix_log.specs.Log.{IsMounted, file_of}
use Rattle.ix_manifest.specs.Root.{Taken}
use Rattle.ix_manifest.specs.Replaying.{IsReplaying}
use Rattle.ix_manifest.proofs.manifest_state.replay_log.Given as goal

abbrev pub invariant-loop-i : goal.invariant-loop-i
invariant-loop-i g l = record {
  replaying : IsReplaying g.D.Disk (Taken g.B.ManifestState.fits l.current) l.log l.disk (g.B.ManifestState.stands l.fn.state)
      (g.B.ManifestState.stands l.state) l.first l.i;
  mounted : IsMounted g.D.Disk l.log l.disk;
  file : file_of l.log ≡ file_of l.fn.log;
  same : g.D.Disk.seen l.disk ≡ g.D.Disk.seen l.fn.disk;
  images : ImagesStep g.D.Disk l.fn.disk l.disk Stays;
  later : g.D.Disk.faults l.fn.disk ≤ g.D.Disk.faults l.disk;
}
