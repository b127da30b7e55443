use Rattle.std.proofs.Common.{◌<◌, [], length, refl, subst, inl, arith}
use Rattle.ix_base.specs.declared.files.File.{File}
use Rattle.ix_disk.specs.Moments.{ImagesStep, InFile}
use Rattle.ix_disk.proofs.Runs.{run_on, weaker}
use Rattle.ix_log.specs.Log.{HasBodies, WithOrWithout, file_of}
use Rattle.ix_manifest.specs.Slots.{bytes_of}
use Rattle.ix_manifest.proofs.Bodies.{put_none, without_body, with_body}
use Rattle.ix_manifest.proofs.putting.put_body.Goals as goal

pub returns-then-is_empty-clause-images : goal.returns-then-is_empty-clause-images
returns-then-is_empty-clause-images g c = λ bodies end.
    without_body g.D.Disk c.args.disk.now c.args.disk.now (file_of c.args.log.now) bodies c.args.slots.now
    (put_none g.D.Disk c.args.log.now c.args.disk.now bodies [] (inl (end, refl)))

pub returns-in_err-put_all-clause-images : goal.returns-in_err-put_all-clause-images
returns-in_err-put_all-clause-images g c = λ bodies end.
    without_body g.D.Disk c.args.disk.now c.put_all.new.disk (file_of c.args.log.now) bodies c.args.slots.now
    (c.put_all.ensures.images bodies [] (inl (end, refl)))

pub returns-clause-finished : goal.returns-clause-finished
returns-clause-finished g c = λ bodies end some. c.in_ok-finish.ensures.finished bodies (bytes_of c.args.slots.now)
    (c.in_ok-put_all.ensures.put bodies [] (inl (end, refl)) some)

pub returns-in_err-finish-clause-images : goal.returns-in_err-finish-clause-images
returns-in_err-finish-clause-images g c = λ bodies end.
    let some : 0 < length c.args.slots.now = grind (arith, c.is_empty.ensures, c.if-is_empty.false) in
    let file = file_of c.args.log.now in
    let body = bytes_of c.args.slots.now in
    with_body g.D.Disk c.args.disk.now c.finish.new.disk file bodies c.args.slots.now some
    (run_on g.D.Disk c.args.disk.now c.put_all.new.disk c.finish.new.disk file (WithOrWithout bodies body)
    (weaker g.D.Disk c.args.disk.now c.put_all.new.disk file (HasBodies bodies) (WithOrWithout bodies body) (λ l has. inl has)
    (c.put_all.ensures.images bodies [] (inl (end, refl))))
    (subst (λ (f : File). ImagesStep g.D.Disk c.put_all.new.disk c.finish.new.disk (InFile f (WithOrWithout bodies body)))
    c.put_all.ensures.file
    (c.finish.ensures.images bodies body (c.in_ok-put_all.ensures.put bodies [] (inl (end, refl)) some))))

pub returns-clause-images : goal.returns-clause-images
returns-clause-images g c = λ bodies end.
    let some : 0 < length c.args.slots.now = grind (arith, c.is_empty.ensures, c.if-is_empty.false) in
    let file = file_of c.args.log.now in
    let body = bytes_of c.args.slots.now in
    with_body g.D.Disk c.args.disk.now c.finish.new.disk file bodies c.args.slots.now some
    (run_on g.D.Disk c.args.disk.now c.put_all.new.disk c.finish.new.disk file (WithOrWithout bodies body)
    (weaker g.D.Disk c.args.disk.now c.put_all.new.disk file (HasBodies bodies) (WithOrWithout bodies body) (λ l has. inl has)
    (c.put_all.ensures.images bodies [] (inl (end, refl))))
    (subst (λ (f : File). ImagesStep g.D.Disk c.put_all.new.disk c.finish.new.disk (InFile f (WithOrWithout bodies body)))
    c.put_all.ensures.file
    (c.finish.ensures.images bodies body (c.in_ok-put_all.ensures.put bodies [] (inl (end, refl)) some))))
