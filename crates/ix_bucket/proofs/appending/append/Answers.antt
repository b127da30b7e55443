use Rattle.std.proofs.Common.{length}
use Rattle.ix_disk.proofs.Others.{apart_written, apart_begun, apart_still}
use Rattle.ix_bucket.proofs.appending.append.Goals as goal

pub returns-in_err-write_at-clause-seen : goal.returns-in_err-write_at-clause-seen
returns-in_err-write_at-clause-seen g c = apart_begun c.args.file c.args.at (length c.args.bytes.now) _ _ c.in_err-write_at.ensures.begun

pub returns-in_err-sync-clause-seen : goal.returns-in_err-sync-clause-seen
returns-in_err-sync-clause-seen g c = apart_still c.args.file _ _ _
    (apart_written c.args.file c.args.at c.args.bytes.now _ _ c.in_ok-write_at.ensures.written) c.in_err-sync.ensures.same

pub returns-clause-seen : goal.returns-clause-seen
returns-clause-seen g c = apart_still c.args.file _ _ _
    (apart_written c.args.file c.args.at c.args.bytes.now _ _ c.in_ok-write_at.ensures.written) c.in_ok-sync.ensures.same
