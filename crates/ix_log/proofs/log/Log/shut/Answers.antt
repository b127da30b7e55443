use Rattle.std.proofs.Common.{◌≡◌, [], ◌∷◌, length, refl}
use Rattle.ix_disk.proofs.Runs.{stay_reads, settles}
use Rattle.ix_log.specs.Log.{Gated, end_of}
use Rattle.ix_log.proofs.Shut.{shut_first, shut_second, shut_reads, shut_already, shut_room}
use Rattle.ix_disk.proofs.Others.{apart_begun, apart_written, apart_same, apart_still}
use Rattle.ix_log.proofs.Ends.{end_behind, end_within}
use Rattle.ix_log.proofs.log.Log.shut.Goals as goal

pub returns-in_err-write_at-clause-images : goal.returns-in_err-write_at-clause-images
returns-in_err-write_at-clause-images g c = λ bodies h.
    shut_first g.D.Disk _ _ bodies c.args.self.now h c.if-self.false c.write_at.ensures.images

pub returns-in_err-sync-clause-images : goal.returns-in_err-sync-clause-images
returns-in_err-sync-clause-images g c = λ bodies h. shut_second g.D.Disk _ _ bodies c.args.self.now h c.if-self.false
    c.write_at.ensures.images _ c.sync.ensures.images

pub returns-clause-images : goal.returns-clause-images
returns-clause-images g c = λ bodies h. shut_second g.D.Disk _ _ bodies c.args.self.now h c.if-self.false c.write_at.ensures.images _
    c.sync.ensures.images

pub returns-clause-shut : goal.returns-clause-shut
returns-clause-shut g c = λ bodies h.
    let file = c.args.self.now.file in
    let reads = shut_reads g.D.Disk _ _ bodies c.args.self.now h c.if-self.false c.write_at.ensures.images
    (λ image disk is. g.met.D.Disk.seen_may_stay disk image is) c.in_ok-write_at.ensures.written in (
      record {
        place = h.place;
        idle = h.idle;
        none_put = h.none_put;
        images = settles g.D.Disk c.sync.new.self file (Gated bodies) c.in_ok-sync.ensures.settled
            (stay_reads g.D.Disk _ _ file (Gated bodies) c.sync.ensures.same reads);
      },
      refl,
    )

pub returns-then-self-clause-images : goal.returns-then-self-clause-images
returns-then-self-clause-images g c = λ bodies h. shut_already g.D.Disk c.args.disk.now bodies c.args.self.now h

pub returns-then-self-clause-seen : goal.returns-then-self-clause-seen
returns-then-self-clause-seen g c = apart_same c.args.self.now.file (g.D.Disk.seen c.args.disk.now) (g.D.Disk.seen c.args.disk.now) refl

pub write_at-requires : goal.write_at-requires
write_at-requires g c = shut_room g.D.Disk c.args.disk.now c.requires.0 c.args.self.now c.requires.1 c.if-self.false
    (λ image disk is. g.met.D.Disk.seen_may_stay disk image is)

pub returns-clause-no_more : goal.returns-clause-no_more
returns-clause-no_more g c = λ had.
    let log = c.args.self.now in
    stay_reads g.D.Disk _ _ log.file (λ l. length l ≡ end_of log) c.sync.ensures.same
    (end_within g.D.Disk c.args.disk.now c.write_at.new.self log.file log.at (0
    ∷ []) c.in_ok-write_at.ensures.written (end_of log) had (end_behind log))

pub returns-in_err-write_at-clause-seen : goal.returns-in_err-write_at-clause-seen
returns-in_err-write_at-clause-seen g c = apart_begun c.args.self.now.file _ _ _ _ c.in_err-write_at.ensures.begun

pub returns-in_err-sync-clause-seen : goal.returns-in_err-sync-clause-seen
returns-in_err-sync-clause-seen g c = apart_still c.args.self.now.file _ _ _
    (apart_written c.args.self.now.file _ _ _ _ c.in_ok-write_at.ensures.written) c.sync.ensures.same

pub returns-clause-seen : goal.returns-clause-seen
returns-clause-seen g c = apart_still c.args.self.now.file _ _ _
    (apart_written c.args.self.now.file _ _ _ _ c.in_ok-write_at.ensures.written) c.sync.ensures.same
