use Rattle.std.proofs.Common.{rules, ◌≡◌, ◌+◌, ℕ, List, ◌++◌, length, subst, sym, ◌∙◌, arith}
use Rattle.ix_base.specs.declared.files.File.{File}
use Rattle.ix_base.specs.Told.{Told}
use Rattle.ix_disk.specs.Image.{Apart}
use Rattle.ix_disk.specs.Moments.{ImagesStep}
use Rattle.ix_disk.proofs.Others.{apart_on}
use Rattle.ix_log.specs.Log.{file_of}
use Rattle.ix_manifest.proofs.PutItems.{apart_more, put_more, put_all}
use Rattle.ix_manifest.proofs.writing.put_items.Goals as goal

pub loop-preserved : goal.loop-preserved
loop-preserved g c =
    let inv = c.loop.invariant in
    let next = c.in_ok-put_next.ensures in
    let file = file_of c.args.log.now in
    record {
      usable = next.usable_still;
      room = next.counted ∙ inv.room;
      put = λ body ready. let so_far = inv.put body ready in
          put_more g.D.Disk c.put_next.new.log c.put_next.new.disk body so_far.done _ _ _ so_far.all
          (next.put (body ++ so_far.done) so_far.ready);
      proper = λ all. inv.proper (next.proper all);
      no_more = λ had. next.no_more (inv.no_more had);
      images = apart_more g.D.Disk c.args.disk.now c.loop.disk c.put_next.new.disk file inv.images
          (subst (λ (f : File). ImagesStep g.D.Disk c.loop.disk c.put_next.new.disk (Apart f)) inv.file c.put_next.ensures.images);
      seen = apart_on file _ _ _ inv.seen (subst (λ (f : File).
          Told (Apart f) (g.D.Disk.seen c.loop.disk) (g.D.Disk.seen c.put_next.new.disk)) inv.file c.put_next.ensures.seen);
      file = c.put_next.ensures.file ∙ inv.file;
      later = omega (arith, inv.later, c.put_next.ensures.later);
    }

pub returns-in_err-put_next-clause-images : goal.returns-in_err-put_next-clause-images
returns-in_err-put_next-clause-images g c =
    let inv = c.loop.invariant in
    apart_more g.D.Disk c.args.disk.now c.loop.disk c.put_next.new.disk (file_of c.args.log.now) inv.images
    (subst (λ (f : File). ImagesStep g.D.Disk c.loop.disk c.put_next.new.disk (Apart f)) inv.file c.put_next.ensures.images)

pub returns-clause-images : goal.returns-clause-images
returns-clause-images g c =
    let inv = c.loop.invariant in
    apart_more g.D.Disk c.args.disk.now c.loop.disk c.put_next.new.disk (file_of c.args.log.now) inv.images
    (subst (λ (f : File). ImagesStep g.D.Disk c.loop.disk c.put_next.new.disk (Apart f)) inv.file c.put_next.ensures.images)

pub returns-in_err-put_next-clause-seen : goal.returns-in_err-put_next-clause-seen
returns-in_err-put_next-clause-seen g c =
    let inv = c.loop.invariant in
    apart_on (file_of c.args.log.now) _ _ _ inv.seen (subst
    (λ (f : File). Told (Apart f) (g.D.Disk.seen c.loop.disk) (g.D.Disk.seen c.put_next.new.disk)) inv.file c.put_next.ensures.seen)

pub returns-clause-seen : goal.returns-clause-seen
returns-clause-seen g c =
    let inv = c.loop.invariant in
    apart_on (file_of c.args.log.now) _ _ _ inv.seen (subst
    (λ (f : File). Told (Apart f) (g.D.Disk.seen c.loop.disk) (g.D.Disk.seen c.put_next.new.disk)) inv.file c.put_next.ensures.seen)

pub returns-clause-put : goal.returns-clause-put
returns-clause-put g c = λ body ready.
    let so_far = c.loop.invariant.put body ready in
    let next = c.in_ok-put_next.ensures in
    let end = next.end (search) in
    put_all g.D.Disk c.put_next.new.log c.put_next.new.disk body _ _
    (put_more g.D.Disk c.put_next.new.log c.put_next.new.disk body so_far.done _ _ _ so_far.all
    (next.put (body ++ so_far.done) so_far.ready)) end
