use Rattle.std.proofs.Common.{◌≡◌, ◌<◌, ℕ, Some, refl, sym, subst, ◌∙◌, arith}
use Rattle.std.proofs.lemmas.Result.{err_from_is_err_and}
use Rattle.ix_base.proofs.ToldLemmas.{on_err_always}
use Rattle.ix_base.specs.Told.{HasBegun}
use Rattle.ix_base.specs.declared.events.Range.{Range}
use Rattle.ix_base.specs.declared.files.File.{File}
use Rattle.ix_bucket.specs.Ahead.{IsCurrent, HasNoRecord}
use Rattle.ix_disk.proofs.Runs.{nowhere, stays_on, rose_later}
use Rattle.ix_disk.specs.Image.{Image, bytes_in}
use Rattle.ix_export.specs.Lines.{text}
use Rattle.ix_export.specs.Steps.{TakesEvent}
use Rattle.ix_export.specs.Stops.{StopsIn}
use Rattle.ix_export.proofs.Progress.{none_read, read_more, takes, stops_in, stops_in_front, same_fault, on_damaged1, on_damaged3}
use Rattle.ix_export.specs.declared.fault.BucketFault.TheVariants.{Disk, Output}
use Rattle.ix_export.proofs.export.Export.put_bucket.Goals as goal

pub loop-at-init : goal.loop-at-init
loop-at-init g c = record {
  within = omega arith;
  read = λ image told current. none_read c.args.self.now.writer.range (bytes_in image c.args.bucket.now.file) _ _;
  range = refl;
  current = λ current. current;
  same = refl;
  later = omega arith;
  grown = omega arith;
  images = nowhere g.D.Disk c.args.disk.now;
}

pub returns-in_err-at-clause-begun : goal.returns-in_err-at-clause-begun
returns-in_err-at-clause-begun g c =
    let inv = c.loop-at.invariant in
    on_err_always c.from_residual.result (λ image events told current has.
    stops_in_front c.args.self.now.writer.range events c.loop-at.at c.args.bucket.now.bytes (bytes_in image c.args.bucket.now.file) _ _
    (g.W.Sink.given c.put_event.new.out) _ _
    inv.within (inv.read image told current) has
    (λ more there. subst (λ (r : Range). HasBegun (text r more) (g.W.Sink.given c.loop-at.out) (g.W.Sink.given c.put_event.new.out))
    inv.range
    (c.in_err-at.ensures.begun image more (inv.same ∙ told) (inv.current current) there)))

pub returns-in_err-at-clause-images : goal.returns-in_err-at-clause-images
returns-in_err-at-clause-images g c = stays_on g.D.Disk _ _ _ c.loop-at.invariant.images c.put_event.ensures.images

pub returns-in_err-at-clause-cause : goal.returns-in_err-at-clause-cause
returns-in_err-at-clause-cause g c =
    let p = err_from_is_err_and c.from_residual.result c.from_residual.ensures.1 in
    rw (p.1, p.2) (λ is. rose_later _ _ _ c.loop-at.invariant.later
    (c.in_err-at.ensures.cause (same_fault ℕ c.in_err-at.field-0.0 Disk is)))

pub returns-in_err-at-clause-written : goal.returns-in_err-at-clause-written
returns-in_err-at-clause-written g c =
    let p = err_from_is_err_and c.from_residual.result c.from_residual.ensures.1 in
    rw (p.1, p.2) (λ is. rose_later _ _ _ c.loop-at.invariant.grown
    (c.in_err-at.ensures.written (same_fault ℕ c.in_err-at.field-0.0 Output is)))

pub returns-in_err-at-clause-named : goal.returns-in_err-at-clause-named
returns-in_err-at-clause-named g c =
    let p = err_from_is_err_and c.from_residual.result c.from_residual.ensures.1 in
    let file = c.args.bucket.now.file in
    let here : File → ℕ → Type 0 = λ named place. (named ≡ file) × (place ≡ c.loop-at.at) in
    let within : File → ℕ → Type 0 = λ named place. (named ≡ file) × (place < c.args.bucket.now.bytes) in
    rw (p.1, p.2) (on_damaged1 c.in_err-at.field-0.0 here within (λ named place is. (is.0, omega (arith, is.1, c.loop-at-test.true)))
    c.in_err-at.ensures.named)

pub returns-in_err-at-clause-damaged : goal.returns-in_err-at-clause-damaged
returns-in_err-at-clause-damaged g c =
    let p = err_from_is_err_and c.from_residual.result c.from_residual.ensures.1 in
    let inv = c.loop-at.invariant in
    let e = c.in_err-at.ensures in
    let named : File → ℕ → Type 0 = λ file place. (file ≡ c.args.bucket.now.file) × (place ≡ c.loop-at.at) in
    let unwritten : File → ℕ → Type 0 = λ file place. g.W.Sink.given c.put_event.new.out ≡ g.W.Sink.given c.loop-at.out in
    let bad : File → ℕ → Type 0 = λ file place. (image : Image) → g.D.Disk.seen c.loop-at.disk ≡ Some image →
    IsCurrent g.D.Disk c.loop-at.self.reader c.loop-at.disk →
    HasNoRecord c.loop-at.at c.args.bucket.now.bytes (bytes_in image c.args.bucket.now.file) in
    let stops : File → ℕ → Type 0 = λ file place. (image : Image) → g.D.Disk.seen c.args.disk.now ≡ Some image →
    IsCurrent g.D.Disk c.args.self.now.reader c.args.disk.now →
    StopsIn c.args.self.now.writer.range image c.args.bucket.now place (g.W.Sink.given c.args.out.now) (g.W.Sink.given c.put_event.new.out)
    in
    rw (p.1, p.2) (on_damaged3 c.in_err-at.field-0.0 named unwritten bad stops
    (λ file place is same none image told current.
    subst (λ (k : ℕ). StopsIn c.args.self.now.writer.range image c.args.bucket.now k (g.W.Sink.given c.args.out.now)
    (g.W.Sink.given c.put_event.new.out)) (sym is.1)
    (stops_in c.args.self.now.writer.range image c.args.bucket.now c.loop-at.at _ _ _ _ (g.W.Sink.given c.put_event.new.out)
    c.loop-at-test.true (inv.read image told current)
    (none image (inv.same ∙ told) (inv.current current)) same))
    e.named e.unwritten e.bad)

pub loop-at-preserved : goal.loop-at-preserved
loop-at-preserved g c =
    let inv = c.loop-at.invariant in
    let e = c.in_ok-at.ensures in
    record {
      within = e.after.1;
      read = λ image told current.
          read_more c.args.self.now.writer.range c.loop-at.at c.in_ok-at.at (bytes_in image c.args.bucket.now.file) _ _ _ _ _ _
          (inv.read image told current)
          (subst (λ (r : Range). TakesEvent r c.loop-at.at c.in_ok-at.at (bytes_in image c.args.bucket.now.file)
          (g.W.Sink.given c.loop-at.out) c.loop-at.self.writer.count (g.W.Sink.given c.put_event.new.out)
          c.put_event.new.self.writer.count)
          inv.range (e.taken image (inv.same ∙ told) (inv.current current)));
      range = e.range ∙ inv.range;
      current = λ current. e.current (inv.current current);
      same = e.same ∙ inv.same;
      later = omega (arith, e.later, inv.later);
      grown = omega (arith, e.grown, inv.grown);
      images = stays_on g.D.Disk _ _ _ inv.images e.images;
    }

pub returns-clause-taken : goal.returns-clause-taken
returns-clause-taken g c = λ image told current.
    takes c.args.self.now.writer.range image c.args.bucket.now c.loop-at.at _ _ _ _ c.loop-at.invariant.within c.loop-at-test.false
    (c.loop-at.invariant.read image told current)
