use Rattle.std.proofs.Common.{◌≡◌, ◌<◌, ℕ, pos, List, get_or, Some, rules, refl, sym, subst, ◌∙◌, arith}
use Rattle.std.proofs.lemmas.Result.{err_from_is_err_and}
use Rattle.ix_base.proofs.ToldLemmas.{on_err_always}
use Rattle.ix_base.specs.Told.{HasBegun}
use Rattle.ix_base.specs.declared.events.Event.{Event}
use Rattle.ix_base.specs.declared.events.Range.{Range}
use Rattle.ix_base.specs.declared.files.Area.TheVariants.{Meta}
use Rattle.ix_base.specs.declared.files.File.{File}
use Rattle.ix_bucket.proofs.Shown.{nothing_current}
use Rattle.ix_bucket.specs.Ahead.{IsCurrent}
use Rattle.ix_disk.proofs.Runs.{stays_on}
use Rattle.ix_disk.specs.Image.{Image}
use Rattle.ix_export.specs.Lines.{text}
use Rattle.ix_export.specs.Steps.{TakesBucket}
use Rattle.ix_export.specs.Stored.{HaveEvents}
use Rattle.ix_export.specs.Stops.{StopsIn, StopsAt}
use Rattle.ix_export.proofs.Progress.{none_done, done_more, stops_in_bucket, stops_at, not_sound, all_written, all_whole, on_damaged2}
use Rattle.ix_items.specs.declared.items.Bucket.{Bucket}
use Rattle.ix_items.specs.declared.items.State.TheVariants.{Hot}
use Rattle.ix_export.proofs.exporting.export_buckets.Goals as goal

abbrev none : Bucket
none = record {
  id = 0;
  state = Hot;
  file = record { area = Meta; number = 0 };
  bytes = 0;
  count = 0;
  newest = pos 0;
  oldest = pos 0;
  used = 0;
  touched = pos 0;
}

pub loop-bucket-init : goal.loop-bucket-init
loop-bucket-init g c = record {
  done = λ image told. none_done c.args.range.now image (g.W.Sink.given c.args.out.now) c.in_ok-export.export.writer.count
      c.in_ok-export.ensures.count;
  range = c.in_ok-export.ensures.range;
  current = nothing_current g.D.Disk c.in_ok-export.export.reader c.args.disk.now c.in_ok-export.ensures.fresh;
  same = refl;
  later = search rules;
  grown = search rules;
  images = search rules;
}

pub returns-in_err-put_bucket-clause-begun : goal.returns-in_err-put_bucket-clause-begun
returns-in_err-put_bucket-clause-begun g c =
    let inv = c.loop-bucket.invariant in
    on_err_always c.from_residual-in_err-put_bucket.result (λ image all told have.
    stops_in_bucket c.args.range.now image c.args.buckets.now all c.loop-bucket.bucket-index none _ _ (g.W.Sink.given c.put_bucket.new.out)
    _ _ c.loop-bucket-test.true (inv.done image told) have
    (λ events has. subst (λ (r : Range). HasBegun (text r events) (g.W.Sink.given c.loop-bucket.out) (g.W.Sink.given c.put_bucket.new.out))
    inv.range
    (c.in_err-put_bucket.ensures.begun image events (inv.same ∙ told) inv.current has)))

pub returns-in_err-put_bucket-clause-sound : goal.returns-in_err-put_bucket-clause-sound
returns-in_err-put_bucket-clause-sound g c =
    let p = err_from_is_err_and c.from_residual-in_err-put_bucket.result c.from_residual-in_err-put_bucket.ensures.1 in
    let inv = c.loop-bucket.invariant in
    let e = c.in_err-put_bucket.ensures in
    let bucket : Bucket = get_or c.args.buckets.now c.loop-bucket.bucket-index none in
    let named : File → ℕ → Type 0 = λ file place. (file ≡ bucket.file) × (place < bucket.bytes) in
    let damaged : File → ℕ → Type 0 = λ file place. (image : Image) → g.D.Disk.seen c.loop-bucket.disk ≡ Some image →
    IsCurrent g.D.Disk c.loop-bucket.export.reader c.loop-bucket.disk →
    StopsIn c.loop-bucket.export.writer.range image bucket place (g.W.Sink.given c.loop-bucket.out) (g.W.Sink.given c.put_bucket.new.out) in
    let sound : File → ℕ → Type 0 = λ file place. (image : Image) (all : List (List Event)) → g.D.Disk.seen c.args.disk.now ≡ Some image →
    HaveEvents image c.args.buckets.now all → ⊥ in
    rw (p.1, p.2) (on_damaged2 c.in_err-put_bucket.field-0.0 named damaged sound
    (λ file place is stops image all told have.
    not_sound c.loop-bucket.export.writer.range image c.args.buckets.now c.loop-bucket.bucket-index none place _ _ all
    c.loop-bucket-test.true (stops image (inv.same ∙ told) inv.current) have)
    e.named e.damaged)

pub returns-in_err-put_bucket-clause-damaged : goal.returns-in_err-put_bucket-clause-damaged
returns-in_err-put_bucket-clause-damaged g c =
    let p = err_from_is_err_and c.from_residual-in_err-put_bucket.result c.from_residual-in_err-put_bucket.ensures.1 in
    let inv = c.loop-bucket.invariant in
    let e = c.in_err-put_bucket.ensures in
    let bucket : Bucket = get_or c.args.buckets.now c.loop-bucket.bucket-index none in
    let named : File → ℕ → Type 0 = λ file place. (file ≡ bucket.file) × (place < bucket.bytes) in
    let damaged : File → ℕ → Type 0 = λ file place. (image : Image) → g.D.Disk.seen c.loop-bucket.disk ≡ Some image →
    IsCurrent g.D.Disk c.loop-bucket.export.reader c.loop-bucket.disk →
    StopsIn c.loop-bucket.export.writer.range image bucket place (g.W.Sink.given c.loop-bucket.out) (g.W.Sink.given c.put_bucket.new.out) in
    let all : File → ℕ → Type 0 = λ file place. (image : Image) → g.D.Disk.seen c.args.disk.now ≡ Some image →
    StopsAt c.args.range.now image c.args.buckets.now file place (g.W.Sink.given c.args.out.now) (g.W.Sink.given c.put_bucket.new.out) in
    rw (p.1, p.2) (on_damaged2 c.in_err-put_bucket.field-0.0 named damaged all
    (λ file place is stops image told.
    subst (λ (f : File). StopsAt c.args.range.now image c.args.buckets.now f place (g.W.Sink.given c.args.out.now)
    (g.W.Sink.given c.put_bucket.new.out)) (sym is.0)
    (stops_at c.args.range.now image c.args.buckets.now c.loop-bucket.bucket-index none place _ _ _ _ _ c.loop-bucket-test.true
    (inv.done image told)
    (subst (λ (r : Range). StopsIn r image bucket place (g.W.Sink.given c.loop-bucket.out) (g.W.Sink.given c.put_bucket.new.out)) inv.range
    (stops image (inv.same ∙ told) inv.current))))
    e.named e.damaged)

pub loop-bucket-preserved : goal.loop-bucket-preserved
loop-bucket-preserved g c =
    let inv = c.loop-bucket.invariant in
    let e = c.in_ok-put_bucket.ensures in
    let bucket : Bucket = get_or c.args.buckets.now c.loop-bucket.bucket-index none in
    record {
      done = λ image told.
          done_more c.args.range.now image c.args.buckets.now c.loop-bucket.bucket-index none _ _ _ _ _ _ c.loop-bucket-test.true
          (inv.done image told)
          (subst (λ (r : Range). TakesBucket r image bucket (g.W.Sink.given c.loop-bucket.out) c.loop-bucket.export.writer.count
          (g.W.Sink.given c.put_bucket.new.out) c.put_bucket.new.self.writer.count) inv.range
          (e.taken image (inv.same ∙ told) inv.current));
      range = e.range ∙ inv.range;
      current = e.current inv.current;
      same = e.same ∙ inv.same;
      later = omega (arith, e.later, inv.later);
      grown = omega (arith, e.grown, inv.grown);
      images = stays_on g.D.Disk _ _ _ inv.images e.images;
    }

pub returns-clause-lines : goal.returns-clause-lines
returns-clause-lines g c = λ image all told have.
    (all_written c.args.range.now image c.args.buckets.now c.loop-bucket.bucket-index all _ _ _ _ c.loop-bucket-test.false
    (c.loop-bucket.invariant.done image told) have).written

pub returns-clause-counted : goal.returns-clause-counted
returns-clause-counted g c = λ image all told have.
    omega (
      arith,
      (all_written c.args.range.now image c.args.buckets.now c.loop-bucket.bucket-index all _ _ _ _ c.loop-bucket-test.false
          (c.loop-bucket.invariant.done image told) have).counted 0 (omega arith),
    )

pub returns-clause-whole : goal.returns-clause-whole
returns-clause-whole g c = λ image told.
    all_whole c.args.range.now image c.args.buckets.now c.loop-bucket.bucket-index _ _ _ _ c.loop-bucket-test.false
    (c.loop-bucket.invariant.done image told)
