use Rattle.std.proofs.Common.{[], inl, refl}
use Rattle.ix_disk.proofs.Runs.{settles, stay_reads}
use Rattle.ix_disk.proofs.Others.{apart_removing, apart_still}
use Rattle.ix_log.specs.Log.{Gated}
use Rattle.ix_log.proofs.Fresh.{fresh_first, fresh_second, fresh_third, fresh_reads, fresh_seen, fresh_begun}
use Rattle.ix_log.proofs.log.Log.begin.Goals as goal

pub returns-in_err-remove-clause-images : goal.returns-in_err-remove-clause-images
returns-in_err-remove-clause-images g c = fresh_first g.D.Disk _ _ c.args.file c.remove.ensures.images

pub returns-in_err-remove-clause-seen : goal.returns-in_err-remove-clause-seen
returns-in_err-remove-clause-seen g c = apart_removing c.args.file _ _ c.in_err-remove.ensures.begun

pub returns-in_err-write_at-clause-images : goal.returns-in_err-write_at-clause-images
returns-in_err-write_at-clause-images g c = fresh_second g.D.Disk _ _ c.args.file c.remove.ensures.images _ c.write_at.ensures.images

pub returns-in_err-write_at-clause-seen : goal.returns-in_err-write_at-clause-seen
returns-in_err-write_at-clause-seen g c = fresh_begun c.args.file _ _ _ c.in_ok-remove.ensures.removed c.in_err-write_at.ensures.begun

pub returns-in_err-sync-clause-images : goal.returns-in_err-sync-clause-images
returns-in_err-sync-clause-images g c = fresh_third g.D.Disk _ _ c.args.file c.remove.ensures.images _ c.write_at.ensures.images _
    c.sync.ensures.images

pub returns-in_err-sync-clause-seen : goal.returns-in_err-sync-clause-seen
returns-in_err-sync-clause-seen g c = apart_still c.args.file _ _ _
    (fresh_seen c.args.file _ _ _ c.in_ok-remove.ensures.removed c.in_ok-write_at.ensures.written) c.in_err-sync.ensures.same

pub returns-clause-images : goal.returns-clause-images
returns-clause-images g c = fresh_third g.D.Disk _ _ c.args.file c.remove.ensures.images _ c.write_at.ensures.images _ c.sync.ensures.images

pub returns-clause-seen : goal.returns-clause-seen
returns-clause-seen g c = apart_still c.args.file _ _ _
    (fresh_seen c.args.file _ _ _ c.in_ok-remove.ensures.removed c.in_ok-write_at.ensures.written) c.in_ok-sync.ensures.same

pub returns-clause-empty : goal.returns-clause-empty
returns-clause-empty g c =
    let reads = fresh_reads g.D.Disk _ _ c.write_at.new.self c.args.file c.in_ok-remove.ensures.removed c.in_ok-write_at.ensures.written in
    record {
      place = refl;
      idle = refl;
      none_put = refl;
      images = settles g.D.Disk c.sync.new.self c.args.file (Gated []) c.in_ok-sync.ensures.settled
          (stay_reads g.D.Disk _ _ c.args.file (Gated []) c.in_ok-sync.ensures.same reads);
    }

pub returns-clause-usable : goal.returns-clause-usable
returns-clause-usable g c = record {
  bodies = [];
  body = [];
  ready = inl (returns-clause-empty g c, refl);
}
