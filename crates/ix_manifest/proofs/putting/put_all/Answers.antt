use Rattle.std.proofs.Common.{◌≡◌, ◌+◌, ℕ, List, ◌++◌, length, take, subst, sym, ap, ◌∙◌, inr, arith, append_assoc, length-append}
use Rattle.ix_base.specs.declared.files.File.{File}
use Rattle.ix_base.specs.Told.{Told}
use Rattle.ix_disk.specs.Image.{Apart}
use Rattle.ix_disk.proofs.Others.{apart_on}
use Rattle.ix_disk.specs.Moments.{ImagesStep, InFile}
use Rattle.ix_disk.proofs.Runs.{run_on}
use Rattle.ix_log.specs.Log.{HasBodies, IsPutting, file_of}
use Rattle.ix_manifest.specs.Slots.{bytes_of}
use Rattle.ix_manifest.proofs.Bodies.{bytes_more, bytes_room}
use Rattle.ix_manifest.proofs.putting.put_all.Goals as goal

pub put-requires-clause-short : goal.put-requires-clause-short
put-requires-clause-short g c =
    let slot = c.slot-item.result in
    omega (
      arith,
      c.loop-slot.invariant.counted,
      c.requires.short,
      ap length c.as_slice.ensures,
      bytes_room c.args.slots.now c.loop-slot.slot-index slot c.loop-slot-test.true c.slot-item.is,
    )

pub returns-in_err-put-clause-images : goal.returns-in_err-put-clause-images
returns-in_err-put-clause-images g c = λ bodies body ready.
    let inv = c.loop-slot.invariant in
    run_on g.D.Disk c.args.disk.now c.loop-slot.disk c.put.new.disk (file_of c.args.log.now) (HasBodies bodies)
    (inv.images bodies body ready)
    (subst (λ (f : File). ImagesStep g.D.Disk c.loop-slot.disk c.put.new.disk (InFile f (HasBodies bodies))) inv.file
    (c.put.ensures.images bodies _ (inv.ready bodies body ready)))

pub loop-slot-preserved : goal.loop-slot-preserved
loop-slot-preserved g c =
    let inv = c.loop-slot.invariant in
    let slot = c.slot-item.result in
    let slots = c.args.slots.now in
    let i = c.loop-slot.slot-index in
    let more : bytes_of (take (i + 1) slots) ≡ bytes_of (take i slots) ++ slot.bytes =
    bytes_more slots i slot c.loop-slot-test.true c.slot-item.is in
    let put = λ (bodies : List (List ℕ)) (body : List ℕ) (ready : _).
    subst (λ (b : List ℕ). IsPutting g.D.Disk c.put.new.self c.put.new.disk bodies b)
    (ap (λ (l : List ℕ). body ++ bytes_of (take i slots) ++ l) c.as_slice.ensures ∙ append_assoc body (bytes_of (take i slots)) slot.bytes
    ∙ ap (λ (l : List ℕ). body ++ l) (sym more))
    (c.in_ok-put.ensures.put bodies (body ++ bytes_of (take i slots)) (inv.ready bodies body ready)) in
    record {
      usable = c.in_ok-put.ensures.usable_still;
      counted = omega (
        arith,
        inv.counted,
        c.in_ok-put.ensures.counted,
        ap length c.as_slice.ensures,
        ap length more,
        length-append (bytes_of (take i slots)) slot.bytes,
      );
      begun = λ some. c.in_ok-put.ensures.begun;
      ready = λ bodies body ready. inr (put bodies body ready);
      putting = λ bodies body ready some. put bodies body ready;
      images = λ bodies body ready. run_on g.D.Disk c.args.disk.now c.loop-slot.disk c.put.new.disk (file_of c.args.log.now)
          (HasBodies bodies) (inv.images bodies body ready)
          (subst (λ (f : File). ImagesStep g.D.Disk c.loop-slot.disk c.put.new.disk (InFile f (HasBodies bodies))) inv.file
          (c.put.ensures.images bodies _ (inv.ready bodies body ready)));
      seen = apart_on (file_of c.args.log.now) (g.D.Disk.seen c.args.disk.now) (g.D.Disk.seen c.loop-slot.disk)
          (g.D.Disk.seen c.put.new.disk) inv.seen
          (subst (λ (f : File). Told (Apart f) (g.D.Disk.seen c.loop-slot.disk) (g.D.Disk.seen c.put.new.disk)) inv.file
          c.put.ensures.seen);
      file = c.put.ensures.file ∙ inv.file;
      later = omega (arith, inv.later, c.put.ensures.cause.later);
    }
