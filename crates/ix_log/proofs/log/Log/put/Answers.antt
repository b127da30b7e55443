use Rattle.std.proofs.Common.{arith, length-append, inr, refl, ◌++◌}
use Rattle.ix_log.proofs.Bytes.{staged_long}
use Rattle.ix_log.proofs.Ends.{put_ends}
use Rattle.ix_log.proofs.Put.{put_run, put_holds, put_reads}
use Rattle.ix_log.proofs.Calls.{then_begun, then_written, cause_second, cause_none}
use Rattle.ix_log.proofs.log.Log.put.Goals as goal

pub returns-in_err-write_at-clause-images : goal.returns-in_err-write_at-clause-images
returns-in_err-write_at-clause-images g c = λ bodies body h.
    put_run g.D.Disk _ _ _ _ bodies body c.args.bytes.now c.ready.new.self c.ready.ensures.file (c.in_ok-ready.ensures.begun bodies body h)
    c.write_at.ensures.images (c.ready.ensures.images bodies body h)

pub returns-clause-images : goal.returns-clause-images
returns-clause-images g c = λ bodies body h.
    put_run g.D.Disk _ _ _ _ bodies body c.args.bytes.now c.ready.new.self c.ready.ensures.file (c.in_ok-ready.ensures.begun bodies body h)
    c.write_at.ensures.images (c.ready.ensures.images bodies body h)

pub returns-clause-put : goal.returns-clause-put
returns-clause-put g c = λ bodies body h.
    let putting = c.in_ok-ready.ensures.begun bodies body h in
    record {
      place = putting.place;
      begun = putting.begun;
      closed = putting.closed;
      len = omega (arith, putting.len, length-append body c.args.bytes.now);
      images = put_holds g.D.Disk c.args.disk.now _ _ c.args.self.now.file bodies body c.args.bytes.now c.ready.new.self
          c.ready.ensures.file putting c.write_at.ensures.images;
      seen = put_reads g.D.Disk c.args.disk.now _ _ c.args.self.now.file bodies body c.args.bytes.now c.ready.new.self c.ready.ensures.file
          putting c.write_at.ensures.images c.in_ok-write_at.ensures.written;
    }

pub write_at-requires : goal.write_at-requires
write_at-requires g c = λ image is.
    let u = c.requires.usable in
    let p = c.in_ok-ready.ensures.begun u.bodies u.body u.ready in
    omega (arith, p.place, p.len, staged_long u.bodies u.body _ (p.seen image is))

pub returns-clause-begun : goal.returns-clause-begun
returns-clause-begun g c =
    let u = c.requires.usable in
    record { bodies = u.bodies; body = u.body ++ c.args.bytes.now; putting = returns-clause-put g c u.bodies u.body u.ready }

pub returns-clause-usable_still : goal.returns-clause-usable_still
returns-clause-usable_still g c =
    let u = c.requires.usable in
    record { bodies = u.bodies; body = u.body ++ c.args.bytes.now; ready = inr (returns-clause-put g c u.bodies u.body u.ready) }

pub returns-clause-no_more : goal.returns-clause-no_more
returns-clause-no_more g c = λ had.
    let u = c.requires.usable in
    let putting = c.in_ok-ready.ensures.begun u.bodies u.body u.ready in
    put_ends g.D.Disk _ _ c.ready.new.self c.args.bytes.now putting.begun c.in_ok-write_at.ensures.written
    (c.in_ok-ready.ensures.no_more had)

pub returns-in_err-write_at-clause-seen : goal.returns-in_err-write_at-clause-seen
returns-in_err-write_at-clause-seen g c = then_begun c.args.self.now.file _ _ _ _ _ c.ready.ensures.file c.ready.ensures.seen _
    c.in_err-write_at.ensures.begun

pub returns-clause-seen : goal.returns-clause-seen
returns-clause-seen g c = then_written c.args.self.now.file _ _ _ _ _ c.ready.ensures.file c.ready.ensures.seen _
    c.in_ok-write_at.ensures.written

pub returns-in_err-write_at-clause-cause : goal.returns-in_err-write_at-clause-cause
returns-in_err-write_at-clause-cause g c = cause_second _ _ _ _ c.ready.ensures.cause.later c.write_at.ensures.cause.later
    (c.in_err-write_at.ensures.cause.failed refl)

pub returns-clause-cause : goal.returns-clause-cause
returns-clause-cause g c = cause_none _ _ _ _ c.ready.ensures.cause.later c.write_at.ensures.cause.later refl

pub ready-requires : goal.ready-requires
ready-requires g c = c.requires.usable

pub returns-in_err-write_at-clause-file : goal.returns-in_err-write_at-clause-file
returns-in_err-write_at-clause-file g c = c.ready.ensures.file

pub returns-clause-file : goal.returns-clause-file
returns-clause-file g c = c.ready.ensures.file
