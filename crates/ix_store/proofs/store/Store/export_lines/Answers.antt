use Rattle.std.proofs.Common.{◌≡◌, ℕ, Bool, true, false, List, Some, Ok, Err, refl, sym, ap, subst, ◌∙◌, arith}
use Rattle.std.proofs.lemmas.Bool.{true≢false}
use Rattle.std.specs.Prelude.{IsErrOf, ◌||◌}
use Rattle.std.specs.Option.{option_copied}
use Rattle.ix_base.specs.Told.{HasWritten, HasBegun}
use Rattle.ix_base.specs.declared.events.Event.{Event}
use Rattle.ix_base.specs.declared.files.File.{File}
use Rattle.ix_disk.specs.Image.{Image}
use Rattle.ix_disk.proofs.Runs.{nowhere}
use Rattle.ix_export.specs.Lines.{text, number}
use Rattle.ix_export.specs.Stops.{StopsAt}
use Rattle.ix_export.specs.Stored.{HaveEvents}
use Rattle.ix_export.specs.declared.fault.BucketFault.{BucketFault}
use Rattle.ix_export.specs.declared.fault.BucketFault.TheVariants as buckets
use Rattle.ix_items.specs.declared.items.Bucket.{Bucket}
use Rattle.ix_catalog.specs.Shelves.{buckets_in}
use Rattle.ix_life.specs.declared.views.View.{View}
use Rattle.ix_model.specs.Step.{state_after}
use Rattle.ix_store.specs.Exporting.{HasBadRecord, is_seen}
use Rattle.ix_store.specs.Faults.{export_fault_of}
use Rattle.ix_store.specs.Holding.{is_closed}
use Rattle.ix_store.specs.declared.fault.ExportFault.{ExportFault}
use Rattle.ix_store.specs.declared.fault.ExportFault.TheVariants as exports
use Rattle.ix_store.specs.declared.store.Store.{Store}
use Rattle.ix_store.proofs.Exported.{seen_buckets, seen_not, so_of_exported, export_damaged, bad_stop, unknown_so, unknown_not}
use Rattle.ix_store.proofs.Exported.{count_known, fault_known}
use Rattle.ix_store.proofs.store.Store.export_lines.Goals as goal

-- what an answer is not

no_fault : (count : ℕ) (fault : ExportFault) → IsErrOf (Ok count) fault → ⊥
no_fault count fault is = cc

closed_no_damage : (file : File) (at : ℕ) → IsErrOf {T = ℕ} (Err exports.Closed) (exports.Damaged file at) → ⊥
closed_no_damage file at is = cc

closed_no_disk : IsErrOf {T = ℕ} (Err exports.Closed) exports.Disk → ⊥
closed_no_disk is = cc

closed_no_output : IsErrOf {T = ℕ} (Err exports.Closed) exports.Output → ⊥
closed_no_output is = cc

unknown_no_damage : (file : File) (at : ℕ) → IsErrOf {T = ℕ} (Err exports.UnknownIndex) (exports.Damaged file at) → ⊥
unknown_no_damage file at is = cc

unknown_no_closed : IsErrOf {T = ℕ} (Err exports.UnknownIndex) exports.Closed → ⊥
unknown_no_closed is = cc

unknown_no_disk : IsErrOf {T = ℕ} (Err exports.UnknownIndex) exports.Disk → ⊥
unknown_no_disk is = cc

unknown_no_output : IsErrOf {T = ℕ} (Err exports.UnknownIndex) exports.Output → ⊥
unknown_no_output is = cc

-- and what its cause is

never_closed : (fault : BucketFault) (shown : ExportFault) → shown ≡ export_fault_of fault → IsErrOf {T = ℕ} (Err shown) exports.Closed → ⊥
never_closed buckets.Disk shown same is = cc
never_closed (buckets.Damaged file at) shown same is = cc
never_closed buckets.Output shown same is = cc
never_closed buckets.NoMemory shown same is = cc

of_disk : (fault : BucketFault) (shown : ExportFault) → shown ≡ export_fault_of fault → IsErrOf {T = ℕ} (Err shown) exports.Disk →
    fault ≡ buckets.Disk
of_disk buckets.Disk shown same is = refl
of_disk (buckets.Damaged file at) shown same is = cc
of_disk buckets.Output shown same is = cc
of_disk buckets.NoMemory shown same is = cc

of_output : (fault : BucketFault) (shown : ExportFault) → shown ≡ export_fault_of fault → IsErrOf {T = ℕ} (Err shown) exports.Output →
    fault ≡ buckets.Output
of_output buckets.Disk shown same is = cc
of_output (buckets.Damaged file at) shown same is = cc
of_output buckets.Output shown same is = refl
of_output buckets.NoMemory shown same is = cc

-- a store that holds commands is open
is_open : {M : Type 0} (store : Store M) → store.committer.closed ≡ false → store.closed ≡ false → is_closed store ≡ true → ⊥
is_open store committer own closed = true≢false (sym closed ∙ (ap (λ (b : Bool). b || store.closed) committer ∙ own))

pub returns-then-is_closed : goal.returns-then-is_closed
returns-then-is_closed g c =
    let closed = sym c.is_closed.ensures ∙ c.if-is_closed.true in
    record {
      closed = (λ is. closed, λ is. refl);
      unknown = λ choose h base k old st. absurd (is_open c.args.self.now st.ready.usable st.is_open closed);
      lines = tt;
      counted = tt;
      begun = λ choose h base image chooser taken hold told.
          absurd (is_open c.args.self.now hold.staged.ready.usable hold.staged.is_open closed);
      sound = λ file at is. absurd (closed_no_damage file at is);
      damaged = λ file at is. absurd (closed_no_damage file at is);
      bad = λ file at is. absurd (closed_no_damage file at is);
      later = omega arith;
      cause = λ is. absurd (closed_no_disk is);
      grown = omega arith;
      output = λ is. absurd (closed_no_output is);
      same = refl;
      images = nowhere g.D.Disk c.args.disk.now;
    }

pub returns-in_default-clause-closed : goal.returns-in_default-clause-closed
returns-in_default-clause-closed g c = (
  λ is. absurd (unknown_no_closed is),
  λ closed. absurd (true≢false (sym closed ∙ (sym c.is_closed.ensures ∙ c.if-is_closed.false))),
)

pub returns-in_default-clause-unknown : goal.returns-in_default-clause-unknown
returns-in_default-clause-unknown g c = λ choose h base k old st.
    let seen = c.view.ensures.history choose h st.memory in
    let found = ap (λ o. option_copied o) (sym c.in_default.is) ∙ c.buckets_of.ensures in
    unknown_so (is_seen (state_after choose h) c.args.index.now) _
    (seen_not (state_after choose h) c.view.result.now c.args.index.now seen found) refl

pub returns-in_default-clause-sound : goal.returns-in_default-clause-sound
returns-in_default-clause-sound g c = λ file at is. absurd (unknown_no_damage file at is)

pub returns-in_default-clause-damaged : goal.returns-in_default-clause-damaged
returns-in_default-clause-damaged g c = λ file at is. absurd (unknown_no_damage file at is)

pub returns-in_default-clause-bad : goal.returns-in_default-clause-bad
returns-in_default-clause-bad g c = λ file at is. absurd (unknown_no_damage file at is)

pub returns-in_default-clause-cause : goal.returns-in_default-clause-cause
returns-in_default-clause-cause g c = λ is. absurd (unknown_no_disk is)

pub returns-in_default-clause-output : goal.returns-in_default-clause-output
returns-in_default-clause-output g c = λ is. absurd (unknown_no_output is)

pub returns-in-Ok : goal.returns-in-Ok
returns-in-Ok g c = record {
  closed = (λ is. absurd (no_fault _ _ is), λ closed. absurd (true≢false (sym closed ∙ (sym c.is_closed.ensures ∙ c.if-is_closed.false))));
  unknown = λ choose h base k old st.
      let seen = c.view.ensures.history choose h st.memory in
      let found = ap (λ o. option_copied o) (sym c.in-Some.is) ∙ c.buckets_of.ensures in
      unknown_not (is_seen (state_after choose h) c.args.index.now) _
      (seen_buckets (state_after choose h) c.view.result.now c.args.index.now seen c.in-Some.buckets.now found).1
      (count_known c.in-Ok.count);
  lines = λ choose h base image chooser taken hold told.
      let ranged = g.met.M.StoreMemory.have_records choose h c.args.self.now.memory chooser taken hold.staged.memory in
      let found = ap (λ o. option_copied o) (sym c.in-Some.is) ∙ c.buckets_of.ensures in
      so_of_exported g.D.Disk g.M.Book.ManifestState.fits g.M.StoreMemory.holds choose h base c.args.self.now c.args.disk.now
      c.args.index.now c.view.result.now c.in-Some.buckets.now image
      (λ (events : List Event). HasWritten (text c.args.range.now events) (g.W.Sink.given c.args.out.now)
      (g.W.Sink.given c.export_buckets.new.out))
      hold ranged (g.met.D.Disk.seen_may_stay c.args.disk.now image told) (c.view.ensures.history choose h hold.staged.memory) found
      (λ all have. c.in-Ok.ensures.lines image all told have);
  counted = λ choose h base image chooser taken hold told.
      let ranged = g.met.M.StoreMemory.have_records choose h c.args.self.now.memory chooser taken hold.staged.memory in
      let found = ap (λ o. option_copied o) (sym c.in-Some.is) ∙ c.buckets_of.ensures in
      so_of_exported g.D.Disk g.M.Book.ManifestState.fits g.M.StoreMemory.holds choose h base c.args.self.now c.args.disk.now
      c.args.index.now c.view.result.now c.in-Some.buckets.now image
      (λ (events : List Event). c.in-Ok.count ≡ number c.args.range.now events)
      hold ranged (g.met.D.Disk.seen_may_stay c.args.disk.now image told) (c.view.ensures.history choose h hold.staged.memory) found
      (λ all have. c.in-Ok.ensures.counted image all told have);
  begun = tt;
  sound = λ file at is. absurd (no_fault _ _ is);
  damaged = λ file at is. absurd (no_fault _ _ is);
  bad = λ file at is. absurd (no_fault _ _ is);
  later = c.export_buckets.ensures.later;
  cause = λ is. absurd (no_fault _ _ is);
  grown = c.export_buckets.ensures.grown;
  output = λ is. absurd (no_fault _ _ is);
  same = c.export_buckets.ensures.same;
  images = c.export_buckets.ensures.images;
}

pub returns-in-Err : goal.returns-in-Err
returns-in-Err g c =
    let fault = c.in-Err.fault in
    let shown = c.export_fault_of.result in
    record {
      closed = (
        λ is. absurd (never_closed fault shown c.export_fault_of.ensures is),
        λ closed. absurd (true≢false (sym closed ∙ (sym c.is_closed.ensures ∙ c.if-is_closed.false))),
      );
      unknown = λ choose h base k old st.
          let seen = c.view.ensures.history choose h st.memory in
          let found = ap (λ o. option_copied o) (sym c.in-Some.is) ∙ c.buckets_of.ensures in
          unknown_not (is_seen (state_after choose h) c.args.index.now) _
          (seen_buckets (state_after choose h) c.view.result.now c.args.index.now seen c.in-Some.buckets.now found).1
          (fault_known c.in-Err.fault c.export_fault_of.result c.export_fault_of.ensures);
      lines = tt;
      counted = tt;
      begun = λ choose h base image chooser taken hold told.
          let ranged = g.met.M.StoreMemory.have_records choose h c.args.self.now.memory chooser taken hold.staged.memory in
          let found = ap (λ o. option_copied o) (sym c.in-Some.is) ∙ c.buckets_of.ensures in
          so_of_exported g.D.Disk g.M.Book.ManifestState.fits g.M.StoreMemory.holds choose h base c.args.self.now c.args.disk.now
          c.args.index.now c.view.result.now c.in-Some.buckets.now image
          (λ (events : List Event). HasBegun (text c.args.range.now events) (g.W.Sink.given c.args.out.now)
          (g.W.Sink.given c.export_buckets.new.out))
          hold ranged (g.met.D.Disk.seen_may_stay c.args.disk.now image told) (c.view.ensures.history choose h hold.staged.memory) found
          (λ all have. c.in-Err.ensures.begun image all told have);
      sound = λ file at is choose h base image chooser taken hold told.
          let ranged = g.met.M.StoreMemory.have_records choose h c.args.self.now.memory chooser taken hold.staged.memory in
          let found = ap (λ o. option_copied o) (sym c.in-Some.is) ∙ c.buckets_of.ensures in
          let none = export_damaged c.in-Err.fault (λ (f : File) (a : ℕ). (image : Image) (all : List (List Event)) →
          g.D.Disk.seen c.args.disk.now ≡ Some image → HaveEvents image c.in-Some.buckets.now all → ⊥)
          file at c.export_fault_of.result c.export_fault_of.ensures is c.in-Err.ensures.sound in
          so_of_exported g.D.Disk g.M.Book.ManifestState.fits g.M.StoreMemory.holds choose h base c.args.self.now c.args.disk.now
          c.args.index.now c.view.result.now c.in-Some.buckets.now image
          (λ (events : List Event). ⊥)
          hold ranged (g.met.D.Disk.seen_may_stay c.args.disk.now image told) (c.view.ensures.history choose h hold.staged.memory) found
          (λ all have. none image all told have);
      damaged = λ file at is choose h base k old image st told.
          let found = ap (λ o. option_copied o) (sym c.in-Some.is) ∙ c.buckets_of.ensures in
          let stops = export_damaged c.in-Err.fault (λ (f : File) (a : ℕ). (image : Image) → g.D.Disk.seen c.args.disk.now ≡ Some image →
          StopsAt c.args.range.now image c.in-Some.buckets.now f a (g.W.Sink.given c.args.out.now)
          (g.W.Sink.given c.export_buckets.new.out))
          file at c.export_fault_of.result c.export_fault_of.ensures is c.in-Err.ensures.damaged in
          subst (λ (bs : List Bucket). StopsAt c.args.range.now image bs file at (g.W.Sink.given c.args.out.now)
          (g.W.Sink.given c.export_buckets.new.out))
          (seen_buckets (state_after choose h) c.view.result.now c.args.index.now (c.view.ensures.history choose h st.memory) c.in-Some.buckets.now
          found).0 (stops image told);
      bad = λ file at is image told.
          let stops = export_damaged c.in-Err.fault (λ (f : File) (a : ℕ). (image : Image) → g.D.Disk.seen c.args.disk.now ≡ Some image →
          StopsAt c.args.range.now image c.in-Some.buckets.now f a (g.W.Sink.given c.args.out.now)
          (g.W.Sink.given c.export_buckets.new.out))
          file at c.export_fault_of.result c.export_fault_of.ensures is c.in-Err.ensures.damaged in
          let found = ap (λ o. option_copied o) (sym c.in-Some.is) ∙ c.buckets_of.ensures in
          subst (λ (seen : View). HasBadRecord (buckets_in c.args.index.now seen.indexes) image file at) c.view.ensures.shows
          (bad_stop c.view.result.now c.args.index.now c.args.range.now image c.in-Some.buckets.now file at (g.W.Sink.given c.args.out.now)
          (g.W.Sink.given c.export_buckets.new.out) found (stops image told));
      later = c.export_buckets.ensures.later;
      cause = λ is. c.export_buckets.ensures.disk (c.in-Err.is
          ∙ ap (λ (f : BucketFault). Err f) (of_disk fault shown c.export_fault_of.ensures is));
      grown = c.export_buckets.ensures.grown;
      output = λ is. c.export_buckets.ensures.output (c.in-Err.is
          ∙ ap (λ (f : BucketFault). Err f) (of_output fault shown c.export_fault_of.ensures is));
      same = c.export_buckets.ensures.same;
      images = c.export_buckets.ensures.images;
    }
