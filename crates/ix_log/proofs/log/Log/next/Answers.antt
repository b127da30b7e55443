use Rattle.std.proofs.Common.{◌≡◌, ◌<◌, ◌+◌, [], ◌∷◌, ◌++◌, take, drop, Some, inl, refl, sym, subst, rules, ◌∙◌, arith}
use Rattle.std.proofs.lemmas.Bool.{false≢true}
use Rattle.std.proofs.lemmas.Result.{err_from_is_err_and}
use Rattle.ix_disk.specs.Image.{bytes_in}
use Rattle.ix_disk.proofs.Runs.{nowhere, rose_later, stays_on}
use Rattle.ix_log.specs.Head.{IsHead}
use Rattle.ix_log.specs.declared.head.Head.{Head}
use Rattle.ix_log.specs.declared.head.Head.TheVariants.{Body, Cut}
use Rattle.ix_log.proofs.Exits.{no_fault, same_fault, disk_no_damage, disk_no_memory, damage_no_disk, damage_no_memory}
use Rattle.ix_log.proofs.Blocks.{length-blocks_push}
use Rattle.ix_log.proofs.Nexts.{as_read_still, left_is, short_end, gated_end, room_for, body_here, cut_here, not_cut, damaged_is}
use Rattle.ix_log.proofs.log.Log.next.Goals as goal

pub returns-then-self-le1 : goal.returns-then-self-le1
returns-then-self-le1 g c = record {
  mounted = λ is. absurd (false≢true is);
  usable = record {
    bodies = c.requires.bodies;
    body = [];
    ready = inl (short_end g.D.Disk c.args.disk.now c.args.self.now c.requires.bodies c.requires.reading c.if-self-le1.true, refl);
  };
  next = λ bodies h. (short_end g.D.Disk c.args.disk.now c.args.self.now bodies h c.if-self-le1.true, refl);
  damaged = λ bodies h at is. absurd (no_fault _ _ is);
  memory = λ bodies h is. absurd (no_fault _ _ is);
  file = refl;
  counted = refl;
  same = refl;
  images = nowhere g.D.Disk c.args.disk.now;
  later = omega arith;
  cause = λ is. absurd (no_fault _ _ is);
}

pub returns-in_err-head_at : goal.returns-in_err-head_at
returns-in_err-head_at g c =
    let p = err_from_is_err_and c.from_residual.result c.from_residual.ensures.1 in
    rw (p.1, p.2) (record {
      mounted = tt;
      usable = tt;
      next = λ bodies h. tt;
      damaged = λ bodies h at is. absurd (disk_no_damage at is);
      memory = λ bodies h is. absurd (disk_no_memory is);
      file = refl;
      counted = refl;
      same = c.head_at.ensures.same;
      images = c.head_at.ensures.images;
      later = c.head_at.ensures.cause.later;
      cause = λ is. c.in_err-head_at.ensures.cause.failed refl;
    })

pub returns-in-End-clause-next : goal.returns-in-End-clause-next
returns-in-End-clause-next g c = λ bodies h.
    let log = c.args.self.now in
    let more : 1 < log.size = omega arith in (
      record {
        place = h.place;
        idle = h.idle;
        none_put = h.none_put;
        images = gated_end g.D.Disk c.args.disk.now c.head_at.new.disk log bodies _ h more c.saturating_sub-left.ensures
            c.head_at.ensures.images c.head_at.ensures.same (λ image told is some.
            subst (λ (x : Head). IsHead x (drop log.at (bytes_in image log.file))) c.in-End.is
            (c.in_ok-head_at.ensures.head h.ahead image told is some));
      },
      refl,
    )

pub returns-in-End-clause-usable : goal.returns-in-End-clause-usable
returns-in-End-clause-usable g c = record {
  bodies = c.requires.bodies;
  body = [];
  ready = inl ((returns-in-End-clause-next g c c.requires.bodies c.requires.reading).0, refl);
}

pub returns-in-End-clause-mounted : goal.returns-in-End-clause-mounted
returns-in-End-clause-mounted g c = λ is. absurd (false≢true is)

pub returns-in-End-clause-damaged : goal.returns-in-End-clause-damaged
returns-in-End-clause-damaged g c = λ bodies h at is. absurd (no_fault _ _ is)

pub returns-in-End-clause-memory : goal.returns-in-End-clause-memory
returns-in-End-clause-memory g c = λ bodies h is. absurd (no_fault _ _ is)

pub returns-in-End-clause-same : goal.returns-in-End-clause-same
returns-in-End-clause-same g c = c.head_at.ensures.same

pub returns-in-End-clause-images : goal.returns-in-End-clause-images
returns-in-End-clause-images g c = c.head_at.ensures.images

pub returns-in-End-clause-later : goal.returns-in-End-clause-later
returns-in-End-clause-later g c = c.head_at.ensures.cause.later

pub returns-in-End-clause-cause : goal.returns-in-End-clause-cause
returns-in-End-clause-cause g c = λ is. absurd (no_fault _ _ is)

pub returns-in-Cut : goal.returns-in-Cut
returns-in-Cut g c = record {
  mounted = tt;
  usable = tt;
  next = λ bodies h. tt;
  damaged = λ bodies h at is image told.
      let log = c.args.self.now in
      let l = bytes_in image log.file in
      let on = h.reads image told in
      let more : 1 < log.size = omega arith in
      let left = left_is bodies log.size log.at l on h.place more _ c.saturating_sub-left.ensures in
      let head : IsHead Cut (drop log.at l) = subst (λ (x : Head). IsHead x (drop log.at l)) c.in-Cut.is
      (c.in_ok-head_at.ensures.head h.ahead image told left.0 left.1) in
      (damaged_is log.at at is ∙ h.place, cut_here bodies log.size log.at l on h.place more head);
  memory = λ bodies h is. absurd (damage_no_memory _ is);
  file = refl;
  counted = refl;
  same = c.head_at.ensures.same;
  images = c.head_at.ensures.images;
  later = c.head_at.ensures.cause.later;
  cause = λ is. absurd (damage_no_disk _ is);
}

pub returns-in_err-body-in-Body : goal.returns-in_err-body-in-Body
returns-in_err-body-in-Body g c =
    let p = err_from_is_err_and c.from_residual-in_err-body-in-Body.result c.from_residual-in_err-body-in-Body.ensures.1 in
    rw (p.1, p.2) (record {
      mounted = tt;
      usable = tt;
      next = λ bodies h. tt;
      damaged = λ bodies h at is image told.
          let len_fits : c.in-Body.len < 4294967296 = search rules in
          let log = c.args.self.now in
          let l = bytes_in image log.file in
          let on = h.reads image told in
          let more : 1 < log.size = omega arith in
          let left = left_is bodies log.size log.at l on h.place more _ c.saturating_sub-left.ensures in
          let head : IsHead (Body c.in-Body.len) (drop log.at l) =
          subst (λ (x : Head). IsHead x (drop log.at l)) c.in-Body.is (c.in_ok-head_at.ensures.head h.ahead image told left.0 left.1) in
          let room = room_for bodies log.size log.at c.in-Body.len l on h.place more head len_fits in
          let less = c.body.ensures.damaged (c.in_ok-head_at.ensures.shows h.ahead) image (c.head_at.ensures.same
          ∙ told) at (c.in_err-body-in-Body.was ∙ same_fault _ _ is) in
          absurd (omega (arith, room, less));
      memory = λ bodies h is image told cut.
          let len_fits : c.in-Body.len < 4294967296 = search rules in
          let log = c.args.self.now in
          let l = bytes_in image log.file in
          let on = h.reads image told in
          let more : 1 < log.size = omega arith in
          let left = left_is bodies log.size log.at l on h.place more _ c.saturating_sub-left.ensures in
          let head : IsHead (Body c.in-Body.len) (drop log.at l) =
          subst (λ (x : Head). IsHead x (drop log.at l)) c.in-Body.is (c.in_ok-head_at.ensures.head h.ahead image told left.0 left.1) in
          let body = take c.in-Body.len (drop (log.at + 5) l) in
          let here = body_here bodies log.size log.at c.in-Body.len l on h.place more head len_fits body refl in
          not_cut bodies body l log.size here.1 more (omega (arith, here.0, len_fits)) cut;
      file = refl;
      counted = refl;
      same = c.body.ensures.same ∙ c.head_at.ensures.same;
      images = stays_on g.D.Disk _ _ _ c.head_at.ensures.images c.body.ensures.images;
      later = omega (arith, c.head_at.ensures.cause.later, c.body.ensures.later);
      cause = λ is. rose_later _ _ _ c.head_at.ensures.cause.later (c.body.ensures.cause (c.in_err-body-in-Body.was ∙ same_fault _ _ is));
    })

pub returns-in_ok-body-in-Body-clause-images : goal.returns-in_ok-body-in-Body-clause-images
returns-in_ok-body-in-Body-clause-images g c = stays_on g.D.Disk _ _ _ c.head_at.ensures.images c.body.ensures.images

pub returns-in_ok-body-in-Body-clause-next : goal.returns-in_ok-body-in-Body-clause-next
returns-in_ok-body-in-Body-clause-next g c = λ bodies h.
    let len_fits : c.in-Body.len < 4294967296 = search rules in
    let log = c.args.self.now in
    let mid = c.head_at.new.disk in
    let shows = c.in_ok-head_at.ensures.shows h.ahead in
    record {
      place = omega (arith, h.place, c.in_ok-body-in-Body.ensures.sized, length-blocks_push bodies c.body.new.out);
      idle = h.idle;
      none_put = h.none_put;
      fresh = h.fresh;
      settled = as_read_still g.D.Disk mid c.body.new.disk log.file c.body.ensures.images c.body.ensures.same
          (as_read_still g.D.Disk c.args.disk.now mid log.file c.head_at.ensures.images c.head_at.ensures.same h.settled);
      reads = λ image is.
          let at_mid : g.D.Disk.seen mid ≡ Some image = sym c.body.ensures.same ∙ is in
          let at_old : g.D.Disk.seen c.args.disk.now ≡ Some image = sym c.head_at.ensures.same ∙ at_mid in
          let l = bytes_in image log.file in
          let on = h.reads image at_old in
          let more : 1 < log.size = omega arith in
          let left = left_is bodies log.size log.at l on h.place more _ c.saturating_sub-left.ensures in
          let head : IsHead (Body c.in-Body.len) (drop log.at l) =
          subst (λ (x : Head). IsHead x (drop log.at l)) c.in-Body.is (c.in_ok-head_at.ensures.head h.ahead image at_old left.0 left.1)
          in
          let read = c.in_ok-body-in-Body.ensures.read shows image at_mid
          (room_for bodies log.size log.at c.in-Body.len l on h.place more head len_fits) in
          (body_here bodies log.size log.at c.in-Body.len l on h.place more head len_fits c.body.new.out read).1;
      ahead = λ image is. shows image (sym c.body.ensures.same ∙ is);
    }

pub returns-in_ok-body-in-Body-clause-mounted : goal.returns-in_ok-body-in-Body-clause-mounted
returns-in_ok-body-in-Body-clause-mounted g c = λ is. record {
  bodies = c.requires.bodies ++ c.body.new.out ∷ [];
  reading = returns-in_ok-body-in-Body-clause-next g c c.requires.bodies c.requires.reading;
}

pub returns-in_ok-body-in-Body-clause-usable : goal.returns-in_ok-body-in-Body-clause-usable
returns-in_ok-body-in-Body-clause-usable g c = tt

pub returns-in_ok-body-in-Body-clause-damaged : goal.returns-in_ok-body-in-Body-clause-damaged
returns-in_ok-body-in-Body-clause-damaged g c = λ bodies h at is. absurd (no_fault _ _ is)

pub returns-in_ok-body-in-Body-clause-memory : goal.returns-in_ok-body-in-Body-clause-memory
returns-in_ok-body-in-Body-clause-memory g c = λ bodies h is. absurd (no_fault _ _ is)

pub returns-in_ok-body-in-Body-clause-file : goal.returns-in_ok-body-in-Body-clause-file
returns-in_ok-body-in-Body-clause-file g c = refl

pub returns-in_ok-body-in-Body-clause-counted : goal.returns-in_ok-body-in-Body-clause-counted
returns-in_ok-body-in-Body-clause-counted g c = refl

pub returns-in_ok-body-in-Body-clause-same : goal.returns-in_ok-body-in-Body-clause-same
returns-in_ok-body-in-Body-clause-same g c = c.body.ensures.same ∙ c.head_at.ensures.same

pub returns-in_ok-body-in-Body-clause-later : goal.returns-in_ok-body-in-Body-clause-later
returns-in_ok-body-in-Body-clause-later g c = omega (arith, c.head_at.ensures.cause.later, c.body.ensures.later)

pub returns-in_ok-body-in-Body-clause-cause : goal.returns-in_ok-body-in-Body-clause-cause
returns-in_ok-body-in-Body-clause-cause g c = λ is. absurd (no_fault _ _ is)
