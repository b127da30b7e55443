use Rattle.std.proofs.Common.{refl, ap, sym, ◌∙◌, inl, inr, length, ◌+◌, le_trans}
use Rattle.std.specs.Prelude.{Err, None, not}
use Rattle.ix_disk.proofs.Runs.{always_on, always_still, still_all, stays_on, rose_later}
use Rattle.ix_manifest.specs.Book.{has_settings, run_in}
use Rattle.ix_commit.specs.declared.mounting.MountFault.{MountFault as KeptFault}
use Rattle.ix_commit.specs.Snapshot.{Snapshot}
use Rattle.ix_commit.proofs.Beginning.{run_begun}
use Rattle.ix_commit.proofs.Pending.{either, current_leads, pending_leads, pending_now, pending_full, pending_small, pending_begun}
use Rattle.ix_commit.proofs.Reading.{anyhow_same, anyhow_through, begun_has_run, begun_next}
use Rattle.ix_model.specs.Snap.{snapshot_of_prefix}
use Rattle.ix_store.specs.declared.fault.MountFault.TheVariants as faults
use Rattle.ix_store.specs.declared.memory.BookFault.{BookFault}
use Rattle.ix_store.proofs.Said.{bad_item, no_bad_store, same_fault}
use Rattle.ix_store.proofs.Committed.{family_from, holds_mounted, pending_unsound, kept_damaged, kept_full}
use Rattle.ix_store.proofs.Lawful.{later_run}
use Rattle.ix_store.proofs.Recalling.{recalled}
use Rattle.ix_store.proofs.Undamaged.{keeps_undamaged}
use Rattle.ix_store.proofs.store.Store.mount.Goals as goal

-- ---- the logs are not read

pub returns-in-Err-clause-images : goal.returns-in-Err-clause-images
returns-in-Err-clause-images g c = λ choose h run k all.
    always_still g.D.Disk c.args.disk.now c.prepare_mount.new.disk _ c.prepare_mount.ensures.images all

pub returns-in-Err-clause-told : goal.returns-in-Err-clause-told
returns-in-Err-clause-told g c = anyhow_same (g.D.Disk.seen c.args.disk.now) (g.D.Disk.seen c.prepare_mount.new.disk)
    c.prepare_mount.ensures.same

pub returns-in-Err-clause-damaged : goal.returns-in-Err-clause-damaged
returns-in-Err-clause-damaged g c = λ named at is image told.
    inl (c.prepare_mount.ensures.damaged named at (c.in-Err.is ∙ ap (λ (f : KeptFault). Err f)
    (kept_damaged c.in-Err.fault named at c.fault_of.result c.fault_of.ensures is)) image told)

pub returns-in-Err-clause-undamaged : goal.returns-in-Err-clause-undamaged
returns-in-Err-clause-undamaged g c = λ named at is choose h run k chooser given all image told.
    let bad = c.prepare_mount.ensures.damaged named at (c.in-Err.is
    ∙ ap (λ (f : KeptFault). Err f) (kept_damaged c.in-Err.fault named at c.fault_of.result c.fault_of.ensures is)) image told in
    let stands = all image (g.met.D.Disk.seen_may_stay c.args.disk.now image told) in
    keeps_undamaged _ stands.kept image named at stands.keeps bad

pub returns-in-Err-clause-left : goal.returns-in-Err-clause-left
returns-in-Err-clause-left g c = λ named at is. (c.prepare_mount.ensures.same, c.prepare_mount.ensures.images)

pub returns-in-Err-clause-full : goal.returns-in-Err-clause-full
returns-in-Err-clause-full g c = λ is image told.
    absurd (c.prepare_mount.ensures.not_full (c.in-Err.is ∙ ap (λ (f : KeptFault). Err f)
    (kept_full c.in-Err.fault c.fault_of.result c.fault_of.ensures is)))

pub returns-in-Err-clause-sound : goal.returns-in-Err-clause-sound
returns-in-Err-clause-sound g c = λ is image told named at bad.
    c.prepare_mount.ensures.not_full (c.in-Err.is ∙ ap (λ (f : KeptFault). Err f)
    (kept_full c.in-Err.fault c.fault_of.result c.fault_of.ensures is))

-- ---- no state comes of what they say

pub returns-in-Err-Bad-clause-images : goal.returns-in-Err-Bad-clause-images
returns-in-Err-Bad-clause-images g c = λ choose h run k all.
    let first = c.args.disk.now in
    let mid = c.prepare_mount.new.disk in
    always_on g.D.Disk first mid c.blame.new.disk _ (always_still g.D.Disk first mid _ c.prepare_mount.ensures.images all)
    (always_still g.D.Disk mid c.blame.new.disk _ c.blame.ensures.images
    (still_all g.D.Disk first mid _ c.prepare_mount.ensures.images all))

pub returns-in-Err-Bad-clause-told : goal.returns-in-Err-Bad-clause-told
returns-in-Err-Bad-clause-told g c = anyhow_same (g.D.Disk.seen c.args.disk.now) (g.D.Disk.seen c.blame.new.disk)
    (c.blame.ensures.same ∙ c.prepare_mount.ensures.same)

pub returns-in-Err-Bad-clause-damaged : goal.returns-in-Err-Bad-clause-damaged
returns-in-Err-Bad-clause-damaged g c = λ named at err image told.
    let mid = c.prepare_mount.new.disk in
    let is = c.in-Ok.ensures.pending in
    let pending = c.in-Ok.pending in
    let left = g.met.D.Disk.seen_may_stay mid image (c.prepare_mount.ensures.same ∙ told) in
    let subject = c.in-Err-Bad.subject in
    let blamed = same_fault c.blame.result (faults.Damaged named at) err in
    let bad = c.in-Err-Bad.ensures.bad subject (ap (λ (f : BookFault). Err f) c.in-Err-Bad.field-0-is) in
    let file = c.current.ensures ∙ current_leads g.D.Disk _ pending mid _ is image left in
    inr (bad_item _ g.M.StoreMemory.gives_none g.met.M.StoreMemory.none_set_is_good image is.book _
    (pending_leads g.D.Disk _ pending mid _ is image left) (pending_now g.D.Disk _ pending mid _ is (either pending.has_room)) subject bad
    c.current.result file named at
    (λ bodies b item has replays stands.
    c.blame.ensures.damaged named at blamed image (c.prepare_mount.ensures.same ∙ told) bodies b item has replays stands))

pub returns-in-Err-Bad-clause-undamaged : goal.returns-in-Err-Bad-clause-undamaged
returns-in-Err-Bad-clause-undamaged g c = λ named at err choose h run k chooser given all image told.
    let mid = c.prepare_mount.new.disk in
    pending_unsound g.D.Disk _ c.in-Ok.pending mid _ c.in-Ok.ensures.pending choose h run k
    (still_all g.D.Disk c.args.disk.now mid _ c.prepare_mount.ensures.images all) image
    (g.met.D.Disk.seen_may_stay mid image (c.prepare_mount.ensures.same ∙ told))
    g.M.StoreMemory.is_chooser g.M.StoreMemory.takes chooser given
    (c.in-Err-Bad.ensures.sound c.in-Err-Bad.subject (ap (λ (f : BookFault). Err f) c.in-Err-Bad.field-0-is))

pub returns-in-Err-Bad-clause-left : goal.returns-in-Err-Bad-clause-left
returns-in-Err-Bad-clause-left g c = λ named at is. (
  c.blame.ensures.same ∙ c.prepare_mount.ensures.same,
  stays_on g.D.Disk c.args.disk.now c.prepare_mount.new.disk c.blame.new.disk c.prepare_mount.ensures.images c.blame.ensures.images,
)

pub returns-in-Err-Bad-clause-full : goal.returns-in-Err-Bad-clause-full
returns-in-Err-Bad-clause-full g c = λ is image told. absurd (c.blame.ensures.not_full (same_fault c.blame.result faults.Full is))

pub returns-in-Err-Bad-clause-sound : goal.returns-in-Err-Bad-clause-sound
returns-in-Err-Bad-clause-sound g c = λ is image told named at bad. c.blame.ensures.not_full (same_fault c.blame.result faults.Full is)

pub returns-in-Err-Bad-clause-later : goal.returns-in-Err-Bad-clause-later
returns-in-Err-Bad-clause-later g c = le_trans c.prepare_mount.ensures.later c.blame.ensures.later

pub returns-in-Err-Bad-clause-cause : goal.returns-in-Err-Bad-clause-cause
returns-in-Err-Bad-clause-cause g c = λ is. rose_later _ _ _ c.prepare_mount.ensures.later
    (c.blame.ensures.cause (same_fault c.blame.result faults.Disk is))

-- ---- no room for it

pub returns-in-Err-NoMemory-clause-images : goal.returns-in-Err-NoMemory-clause-images
returns-in-Err-NoMemory-clause-images g c = λ choose h run k all.
    always_still g.D.Disk c.args.disk.now c.prepare_mount.new.disk _ c.prepare_mount.ensures.images all

pub returns-in-Err-NoMemory-clause-told : goal.returns-in-Err-NoMemory-clause-told
returns-in-Err-NoMemory-clause-told g c = anyhow_same (g.D.Disk.seen c.args.disk.now) (g.D.Disk.seen c.prepare_mount.new.disk)
    c.prepare_mount.ensures.same

-- ---- the mount goes on, and fails

pub returns-in-Err-finish_mount-clause-images : goal.returns-in-Err-finish_mount-clause-images
returns-in-Err-finish_mount-clause-images g c = λ choose h run k all.
    let first = c.args.disk.now in
    let mid = c.prepare_mount.new.disk in
    always_on g.D.Disk first mid c.finish_mount.new.disk _ (always_still g.D.Disk first mid _ c.prepare_mount.ensures.images all)
    (c.finish_mount.ensures.images _ c.in-Ok.ensures.pending (snapshot_of_prefix choose h) run k (length h) (family_from choose h k)
    (still_all g.D.Disk first mid _ c.prepare_mount.ensures.images all))

pub returns-in-Err-finish_mount-clause-told : goal.returns-in-Err-finish_mount-clause-told
returns-in-Err-finish_mount-clause-told g c =
    let first = g.D.Disk.seen c.args.disk.now in
    let mid = g.D.Disk.seen c.prepare_mount.new.disk in
    anyhow_through first mid (g.D.Disk.seen c.finish_mount.new.disk) (anyhow_same first mid c.prepare_mount.ensures.same)
    c.finish_mount.ensures.told

pub returns-in-Err-finish_mount-clause-damaged : goal.returns-in-Err-finish_mount-clause-damaged
returns-in-Err-finish_mount-clause-damaged g c = λ named at is image told.
    absurd (c.finish_mount.ensures.undamaged _ c.in-Ok.ensures.pending named at (c.in-Err-finish_mount.is ∙ ap (λ (f : KeptFault). Err f)
    (kept_damaged c.in-Err-finish_mount.fault named at c.fault_of-in-Err-finish_mount.result c.fault_of-in-Err-finish_mount.ensures is)))

pub returns-in-Err-finish_mount-clause-undamaged : goal.returns-in-Err-finish_mount-clause-undamaged
returns-in-Err-finish_mount-clause-undamaged g c = λ named at is choose h run k chooser given all image told.
    c.finish_mount.ensures.undamaged _ c.in-Ok.ensures.pending named at (c.in-Err-finish_mount.is ∙ ap (λ (f : KeptFault). Err f)
    (kept_damaged c.in-Err-finish_mount.fault named at c.fault_of-in-Err-finish_mount.result c.fault_of-in-Err-finish_mount.ensures is))

pub returns-in-Err-finish_mount-clause-left : goal.returns-in-Err-finish_mount-clause-left
returns-in-Err-finish_mount-clause-left g c = λ named at is.
    absurd (c.finish_mount.ensures.undamaged _ c.in-Ok.ensures.pending named at (c.in-Err-finish_mount.is ∙ ap (λ (f : KeptFault). Err f)
    (kept_damaged c.in-Err-finish_mount.fault named at c.fault_of-in-Err-finish_mount.result c.fault_of-in-Err-finish_mount.ensures is)))

pub returns-in-Err-finish_mount-clause-full : goal.returns-in-Err-finish_mount-clause-full
returns-in-Err-finish_mount-clause-full g c = λ full image told.
    let is = c.in-Ok.ensures.pending in
    let mid = c.prepare_mount.new.disk in
    let none = c.finish_mount.ensures.full (c.in-Err-finish_mount.is ∙ ap (λ (f : KeptFault). Err f)
    (kept_full c.in-Err-finish_mount.fault c.fault_of-in-Err-finish_mount.result c.fault_of-in-Err-finish_mount.ensures full)) in
    pending_full g.D.Disk _ c.in-Ok.pending mid _ is (is.none none) image
    (g.met.D.Disk.seen_may_stay mid image (c.prepare_mount.ensures.same ∙ told))

pub returns-in-Err-finish_mount-clause-sound : goal.returns-in-Err-finish_mount-clause-sound
returns-in-Err-finish_mount-clause-sound g c = λ full image told.
    let is = c.in-Ok.ensures.pending in
    let pending = c.in-Ok.pending in
    let mid = c.prepare_mount.new.disk in
    no_bad_store _ g.M.StoreMemory.gives_none image is.book _
    (pending_leads g.D.Disk _ pending mid _ is image (g.met.D.Disk.seen_may_stay mid image (c.prepare_mount.ensures.same ∙ told)))
    (pending_now g.D.Disk _ pending mid _ is (either pending.has_room)) c.in-Ok-from_book.ensures.good

pub returns-in-Err-finish_mount-clause-later : goal.returns-in-Err-finish_mount-clause-later
returns-in-Err-finish_mount-clause-later g c = le_trans c.prepare_mount.ensures.later c.finish_mount.ensures.later

-- ---- and ends

pub returns-in-Ok-finish_mount-clause-images : goal.returns-in-Ok-finish_mount-clause-images
returns-in-Ok-finish_mount-clause-images g c = λ choose h run k all.
    let first = c.args.disk.now in
    let mid = c.prepare_mount.new.disk in
    always_on g.D.Disk first mid c.finish_mount.new.disk _ (always_still g.D.Disk first mid _ c.prepare_mount.ensures.images all)
    (c.finish_mount.ensures.images _ c.in-Ok.ensures.pending (snapshot_of_prefix choose h) run k (length h) (family_from choose h k)
    (still_all g.D.Disk first mid _ c.prepare_mount.ensures.images all))

pub returns-in-Ok-finish_mount-clause-told : goal.returns-in-Ok-finish_mount-clause-told
returns-in-Ok-finish_mount-clause-told g c =
    let first = g.D.Disk.seen c.args.disk.now in
    let mid = g.D.Disk.seen c.prepare_mount.new.disk in
    anyhow_through first mid (g.D.Disk.seen c.finish_mount.new.disk) (anyhow_same first mid c.prepare_mount.ensures.same)
    c.finish_mount.ensures.told

pub returns-in-Ok-finish_mount-clause-mounted : goal.returns-in-Ok-finish_mount-clause-mounted
returns-in-Ok-finish_mount-clause-mounted g c = λ choose h run k chooser given all image told.
    let mid = c.prepare_mount.new.disk in
    let is = c.in-Ok.ensures.pending in
    let made = c.in-Ok-finish_mount.ensures in
    let none = c.none.ensures in
    holds_mounted g.D.Disk _ g.M.StoreMemory.holds g.M.StoreMemory.is_chooser g.M.StoreMemory.takes choose h k image _
    c.finish_mount.new.disk _ chooser given
    (made.mounted _ is (snapshot_of_prefix choose h) run k (length h) (family_from choose h k)
    (still_all g.D.Disk c.args.disk.now mid _ c.prepare_mount.ensures.images all) image (c.prepare_mount.ensures.same ∙ told))
    c.in-Ok-from_book.ensures.held c.run-run.ensures
    (pending_small g.D.Disk _ c.in-Ok.pending mid _ is (is.room made.begun)) made.idle refl refl refl none.done none.weight none.turned
    none.waiting

pub returns-in-Ok-finish_mount-clause-measured : goal.returns-in-Ok-finish_mount-clause-measured
returns-in-Ok-finish_mount-clause-measured g c = c.in-Ok-finish_mount.ensures.measured _ c.in-Ok.ensures.pending

pub returns-in-Ok-finish_mount-clause-begun : goal.returns-in-Ok-finish_mount-clause-begun
returns-in-Ok-finish_mount-clause-begun g c = λ image told none.
    let mid = c.prepare_mount.new.disk in
    let is = c.in-Ok.ensures.pending in
    begun_has_run _ image _
    (pending_begun g.D.Disk _ c.in-Ok.pending mid _ is (is.room c.in-Ok-finish_mount.ensures.begun) image
    (g.met.D.Disk.seen_may_stay mid image (c.prepare_mount.ensures.same ∙ told)))
    none

pub returns-in-Ok-finish_mount-clause-number : goal.returns-in-Ok-finish_mount-clause-number
returns-in-Ok-finish_mount-clause-number g c = λ image told.
    let mid = c.prepare_mount.new.disk in
    let is = c.in-Ok.ensures.pending in
    let begins = is.room c.in-Ok-finish_mount.ensures.begun in
    let s : Snapshot = record { book = is.book; contents = λ file. None } in
    let fresh = not (has_settings is.book) in
    let next = begun_next is.book (run_in is.book + 1) s refl refl in
    record {
      found = is.book;
      leads = pending_leads g.D.Disk _ c.in-Ok.pending mid _ is image
          (g.met.D.Disk.seen_may_stay mid image (c.prepare_mount.ensures.same ∙ told));
      is = c.run-run.ensures ∙ (ap run_in begins.is ∙ (sym (ap run_in next) ∙ run_begun fresh (run_in is.book + 1) s));
    }

pub returns-in-Ok-finish_mount-clause-above : goal.returns-in-Ok-finish_mount-clause-above
returns-in-Ok-finish_mount-clause-above g c = λ choose h run k all image told.
    later_run _ run _ choose h k image (all image (g.met.D.Disk.seen_may_stay c.args.disk.now image told))
    (returns-in-Ok-finish_mount-clause-number g c image told)

pub returns-in-Ok-finish_mount-clause-recalled : goal.returns-in-Ok-finish_mount-clause-recalled
returns-in-Ok-finish_mount-clause-recalled g c = λ choose h image chooser given told says.
    let mid = c.prepare_mount.new.disk in
    let is = c.in-Ok.ensures.pending in
    let begun = pending_begun g.D.Disk _ c.in-Ok.pending mid _ is (is.room c.in-Ok-finish_mount.ensures.begun) image
    (g.met.D.Disk.seen_may_stay mid image (c.prepare_mount.ensures.same ∙ told)) in
    c.in-Ok-from_book.ensures.held choose h (says.run + 1) says.removed chooser given begun.taken (recalled _ choose h image _ says begun)

pub returns-in-Ok-finish_mount-clause-later : goal.returns-in-Ok-finish_mount-clause-later
returns-in-Ok-finish_mount-clause-later g c = le_trans c.prepare_mount.ensures.later c.finish_mount.ensures.later
