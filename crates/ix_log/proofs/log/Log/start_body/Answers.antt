use Rattle.ix_log.proofs.Calls.{then_begun, then_written, cause_second, cause_none}
use Rattle.ix_log.proofs.Start.{start_run, start_holds, start_reads, start_room, start_ends}
use Rattle.std.proofs.Common.{refl}
use Rattle.ix_log.proofs.log.Log.start_body.Goals as goal

pub returns-in_err-write_at-clause-images : goal.returns-in_err-write_at-clause-images
returns-in_err-write_at-clause-images g c = λ bodies h.
    let shut = c.in_ok-shut.ensures.shut bodies h in
    start_run g.D.Disk _ _ _ _ bodies c.shut.new.self c.shut.ensures.file shut.0 shut.1 (c.shut.ensures.images bodies h)
    c.write_at.ensures.images

pub returns-clause-images : goal.returns-clause-images
returns-clause-images g c = λ bodies h.
    let shut = c.in_ok-shut.ensures.shut bodies h in
    start_run g.D.Disk _ _ _ _ bodies c.shut.new.self c.shut.ensures.file shut.0 shut.1 (c.shut.ensures.images bodies h)
    c.write_at.ensures.images

pub returns-clause-begun : goal.returns-clause-begun
returns-clause-begun g c = λ bodies h.
    let shut = c.in_ok-shut.ensures.shut bodies h in
    record {
      place = shut.0.place;
      begun = refl;
      closed = shut.1;
      len = shut.0.none_put;
      images = start_holds g.D.Disk _ _ _ _ bodies c.shut.new.self c.shut.ensures.file shut.0 shut.1 (c.shut.ensures.images bodies h)
          c.write_at.ensures.images;
      seen = start_reads g.D.Disk _ _ _ _ bodies c.shut.new.self c.shut.ensures.file shut.0 shut.1 (c.shut.ensures.images bodies h)
          c.write_at.ensures.images
          (λ image disk is. g.met.D.Disk.seen_may_stay disk image is) c.in_ok-write_at.ensures.written;
    }

pub write_at-requires : goal.write_at-requires
write_at-requires g c =
    let shut = c.in_ok-shut.ensures.shut c.requires.0 c.requires.1 in
    start_room g.D.Disk c.shut.new.disk c.requires.0 c.shut.new.self shut.0 shut.1
    (λ image disk is. g.met.D.Disk.seen_may_stay disk image is)

pub returns-clause-no_more : goal.returns-clause-no_more
returns-clause-no_more g c = λ had.
    let shut = c.in_ok-shut.ensures.shut c.requires.0 c.requires.1 in
    start_ends g.D.Disk c.shut.new.disk c.write_at.new.self c.requires.0 c.shut.new.self shut.0 c.in_ok-write_at.ensures.written
    (c.in_ok-shut.ensures.no_more had)

pub returns-in_err-write_at-clause-seen : goal.returns-in_err-write_at-clause-seen
returns-in_err-write_at-clause-seen g c = then_begun c.args.self.now.file _ _ _ _ _ c.shut.ensures.file c.shut.ensures.seen _
    c.in_err-write_at.ensures.begun

pub returns-clause-seen : goal.returns-clause-seen
returns-clause-seen g c = then_written c.args.self.now.file _ _ _ _ _ c.shut.ensures.file c.shut.ensures.seen _
    c.in_ok-write_at.ensures.written

pub returns-in_err-write_at-clause-cause : goal.returns-in_err-write_at-clause-cause
returns-in_err-write_at-clause-cause g c = cause_second _ _ _ _ c.shut.ensures.cause.later c.write_at.ensures.cause.later
    (c.in_err-write_at.ensures.cause.failed refl)

pub returns-clause-cause : goal.returns-clause-cause
returns-clause-cause g c = cause_none _ _ _ _ c.shut.ensures.cause.later c.write_at.ensures.cause.later refl
