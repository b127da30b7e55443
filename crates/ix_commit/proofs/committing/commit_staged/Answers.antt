use Rattle.std.proofs.lemmas.Result.{err_from_is_err_and, IfOk-from_err}
use Rattle.std.proofs.Common.{◌≡◌, ◌≢◌, Option, Err, ap, ℕ, ◌<◌, List, [], ◌∷◌, ◌++◌, length, refl, subst, sym, ◌∙◌, inl, le_trans, lit<}
use Rattle.std.specs.Prelude.{All}
use Rattle.std.specs.Result.{is_err}
use Rattle.ix_base.specs.declared.files.File.{File}
use Rattle.ix_base.specs.Told.{Told}
use Rattle.ix_disk.specs.Image.{Image, Apart}
use Rattle.ix_disk.specs.Moments.{ImagesStep, InFile}
use Rattle.ix_disk.proofs.Runs.{rose_later}
use Rattle.ix_log.specs.Log.{IsAtEnd, file_of}
use Rattle.ix_manifest.specs.Root.{log_file}
use Rattle.ix_manifest.specs.Book.{empty, replay, removals_in}
use Rattle.ix_manifest.specs.Slots.{bytes_of, items_of, WithBody, AreRemovals}
use Rattle.ix_manifest.specs.declared.staged_item.StagedItem.{StagedItem}
use Rattle.ix_commit.specs.Contents.{Spares, Keeping, KeepsLogs, IsFree, HoldsFilling, filling}
use Rattle.ix_commit.specs.Committing.{IsShort}
use Rattle.ix_commit.specs.Parts.{AreParts}
use Rattle.ix_commit.specs.Snapshot.{AreOver}
use Rattle.ix_commit.specs.Copies.{AreCopies, after_copies}
use Rattle.ix_commit.specs.Reads.{OrGone, IsElsewhere, IsGone, Removing}
use Rattle.ix_commit.specs.declared.fault.CommitFault.TheVariants as faults
use Rattle.ix_commit.specs.declared.staged_append.StagedAppend.{StagedAppend}
use Rattle.ix_commit.specs.declared.file_copy.FileCopy.{FileCopy}
use Rattle.ix_commit.proofs.Failing.{on_failure, no_failure, no_damage, same_fault, room_stays}
use Rattle.ix_commit.proofs.Reading.{told_through, told_as, told_on, root_elsewhere, gone_behind}
use Rattle.ix_commit.proofs.Settling.{loosely, loosely_on, anyhow_on}
use Rattle.ix_log.proofs.Elsewhere.{at_end_stays}
use Rattle.ix_commit.proofs.Holding.{over_meta, meta, commit_first, commit_end, commit_put, commit_images, commit_done, removals_free}
use Rattle.ix_commit.proofs.Holding.{over_end, over_after}
use Rattle.ix_commit.proofs.committing.commit_staged.Goals as goal

pub returns-in_err-fill-clause-images : goal.returns-in_err-fill-clause-images
returns-in_err-fill-clause-images g c = λ old new held.
    let committer = c.args.committer.now in
    let first = c.args.disk.now in
    let m = meta g.D.Disk g.B.ManifestState.fits committer first old new held in
    let parts = subst (AreParts (filling old.contents) held.stages.grown) (sym c.as_slice.ensures) held.stages.parts in
    let copies = subst (AreCopies (filling old.contents) held.stages.grown) (sym c.as_slice-2.ensures) held.stages.copies in
    let run = c.fill.ensures.images (file_of committer.log) (filling old.contents) held.stages.grown m parts copies in
    commit_first g.D.Disk g.B.ManifestState.fits committer first old new held c.fill.new.disk run

pub returns-in_err-fill-clause-comes : goal.returns-in_err-fill-clause-comes
returns-in_err-fill-clause-comes g c = loosely g.D.Disk c.args.disk.now c.fill.new.disk _ (c.fill.ensures.logs (log_file 0) refl)

pub put_body-requires-clause-usable : goal.put_body-requires-clause-usable
put_body-requires-clause-usable g c = record {
  bodies = c.requires.bodies;
  body = [];
  ready = inl (over_end g.D.Disk c.args.committer.now c.args.disk.now c.fill.new.disk c.requires c.fill.ensures.logs, refl);
}

pub returns-in_err-put_body-clause-images : goal.returns-in_err-put_body-clause-images
returns-in_err-put_body-clause-images g c = λ old new held.
    let committer = c.args.committer.now in
    let first = c.args.disk.now in
    let mid = c.fill.new.disk in
    let last = c.put_body.new.disk in
    let m = meta g.D.Disk g.B.ManifestState.fits committer first old new held in
    let parts = subst (AreParts (filling old.contents) held.stages.grown) (sym c.as_slice.ensures) held.stages.parts in
    let copies = subst (AreCopies (filling old.contents) held.stages.grown) (sym c.as_slice-2.ensures) held.stages.copies in
    let run = c.fill.ensures.images (file_of committer.log) (filling old.contents) held.stages.grown m parts copies in
    let filled = subst (λ (xs : List FileCopy). HoldsFilling g.D.Disk mid (after_copies xs held.stages.grown)) c.as_slice-2.ensures
    (c.in_ok-fill.ensures.filled (file_of committer.log) (filling old.contents) held.stages.grown m parts copies held.committed.contents) in
    let end = commit_end g.D.Disk g.B.ManifestState.fits committer first old new held mid run in
    let put = subst (λ (s : List StagedItem). ImagesStep g.D.Disk mid last
    (InFile (file_of committer.log) (WithBody held.committed.bodies s)))
    c.as_slice-3.ensures (c.put_body.ensures.images held.committed.bodies end) in
    commit_put g.D.Disk g.B.ManifestState.fits committer first old new held mid run last filled put

pub returns-in_err-put_body-clause-comes : goal.returns-in_err-put_body-clause-comes
returns-in_err-put_body-clause-comes g c =
    let committer = c.args.committer.now in
    let first = c.args.disk.now in
    let mid = c.fill.new.disk in
    let last = c.put_body.new.disk in
    let over = c.requires in
    let end = over_end g.D.Disk committer first mid over c.fill.ensures.logs in
    loosely_on g.D.Disk first mid last _ _ (c.fill.ensures.logs (log_file 0) refl) (c.put_body.ensures.images over.bodies end)

pub returns-in_err-remove_all-clause-images : goal.returns-in_err-remove_all-clause-images
returns-in_err-remove_all-clause-images g c = λ old new held.
    let committer = c.args.committer.now in
    let first = c.args.disk.now in
    let mid = c.fill.new.disk in
    let last = c.put_body.new.disk in
    let m = meta g.D.Disk g.B.ManifestState.fits committer first old new held in
    let parts = subst (AreParts (filling old.contents) held.stages.grown) (sym c.as_slice.ensures) held.stages.parts in
    let copies = subst (AreCopies (filling old.contents) held.stages.grown) (sym c.as_slice-2.ensures) held.stages.copies in
    let run = c.fill.ensures.images (file_of committer.log) (filling old.contents) held.stages.grown m parts copies in
    let filled = subst (λ (xs : List FileCopy). HoldsFilling g.D.Disk mid (after_copies xs held.stages.grown)) c.as_slice-2.ensures
    (c.in_ok-fill.ensures.filled (file_of committer.log) (filling old.contents) held.stages.grown m parts copies held.committed.contents) in
    let end = commit_end g.D.Disk g.B.ManifestState.fits committer first old new held mid run in
    let put = subst (λ (s : List StagedItem). ImagesStep g.D.Disk mid last
    (InFile (file_of committer.log) (WithBody held.committed.bodies s)))
    c.as_slice-3.ensures (c.put_body.ensures.images held.committed.bodies end) in
    let gone = c.remove_all.new.disk in
    let some = subst (λ (s : List StagedItem). 0 < length s →
    IsAtEnd g.D.Disk c.put_body.new.log last (held.committed.bodies ++ bytes_of s ∷ [])) c.as_slice-3.ensures
    (c.in_ok-put_body.ensures.finished held.committed.bodies end) in
    let none = subst (λ (s : List StagedItem). length s ≡ 0 →
    IsAtEnd g.D.Disk c.put_body.new.log last held.committed.bodies) c.as_slice-3.ensures
    (c.in_ok-put_body.ensures.none held.committed.bodies end) in
    let are = subst (λ (s : List StagedItem). AreRemovals s c.last_removals.result.now) c.as_slice-4.ensures c.last_removals.ensures.are in
    let free = removals_free (file_of committer.log) committer new old.book c.last_removals.result.now are held.stages.items held.free in
    let named : c.log_file.result ≡ file_of committer.log = c.log_file.ensures ∙ sym c.requires.file in
    let removed = subst (λ (f : File). ImagesStep g.D.Disk last gone (Spares f (filling new.contents))) named
    (c.remove_all.ensures.images new.contents (subst (λ (f : File). All (IsFree f new.contents) c.last_removals.result.now) (sym named)
    free)) in
    commit_images g.D.Disk g.B.ManifestState.fits committer first old new held mid run last filled put c.put_body.new.log
    c.put_body.ensures.file some none gone removed

pub returns-in_err-remove_all-clause-comes : goal.returns-in_err-remove_all-clause-comes
returns-in_err-remove_all-clause-comes g c =
    let committer = c.args.committer.now in
    let first = c.args.disk.now in
    let mid = c.fill.new.disk in
    let last = c.put_body.new.disk in
    let over = c.requires in
    let end = over_end g.D.Disk committer first mid over c.fill.ensures.logs in
    anyhow_on g.D.Disk first last c.remove_all.new.disk
    (loosely_on g.D.Disk first mid last _ _ (c.fill.ensures.logs (log_file 0) refl) (c.put_body.ensures.images over.bodies end))
    (loosely g.D.Disk last c.remove_all.new.disk _ c.remove_all.ensures.logs)

pub returns-clause-images : goal.returns-clause-images
returns-clause-images g c = λ old new held.
    let committer = c.args.committer.now in
    let first = c.args.disk.now in
    let mid = c.fill.new.disk in
    let last = c.put_body.new.disk in
    let m = meta g.D.Disk g.B.ManifestState.fits committer first old new held in
    let parts = subst (AreParts (filling old.contents) held.stages.grown) (sym c.as_slice.ensures) held.stages.parts in
    let copies = subst (AreCopies (filling old.contents) held.stages.grown) (sym c.as_slice-2.ensures) held.stages.copies in
    let run = c.fill.ensures.images (file_of committer.log) (filling old.contents) held.stages.grown m parts copies in
    let filled = subst (λ (xs : List FileCopy). HoldsFilling g.D.Disk mid (after_copies xs held.stages.grown)) c.as_slice-2.ensures
    (c.in_ok-fill.ensures.filled (file_of committer.log) (filling old.contents) held.stages.grown m parts copies held.committed.contents) in
    let end = commit_end g.D.Disk g.B.ManifestState.fits committer first old new held mid run in
    let put = subst (λ (s : List StagedItem). ImagesStep g.D.Disk mid last
    (InFile (file_of committer.log) (WithBody held.committed.bodies s)))
    c.as_slice-3.ensures (c.put_body.ensures.images held.committed.bodies end) in
    let gone = c.remove_all.new.disk in
    let some = subst (λ (s : List StagedItem). 0 < length s →
    IsAtEnd g.D.Disk c.put_body.new.log last (held.committed.bodies ++ bytes_of s ∷ [])) c.as_slice-3.ensures
    (c.in_ok-put_body.ensures.finished held.committed.bodies end) in
    let none = subst (λ (s : List StagedItem). length s ≡ 0 →
    IsAtEnd g.D.Disk c.put_body.new.log last held.committed.bodies) c.as_slice-3.ensures
    (c.in_ok-put_body.ensures.none held.committed.bodies end) in
    let are = subst (λ (s : List StagedItem). AreRemovals s c.last_removals.result.now) c.as_slice-4.ensures c.last_removals.ensures.are in
    let free = removals_free (file_of committer.log) committer new old.book c.last_removals.result.now are held.stages.items held.free in
    let named : c.log_file.result ≡ file_of committer.log = c.log_file.ensures ∙ sym c.requires.file in
    let removed = subst (λ (f : File). ImagesStep g.D.Disk last gone (Spares f (filling new.contents))) named
    (c.remove_all.ensures.images new.contents (subst (λ (f : File). All (IsFree f new.contents) c.last_removals.result.now) (sym named)
    free)) in
    commit_images g.D.Disk g.B.ManifestState.fits committer first old new held mid run last filled put c.put_body.new.log
    c.put_body.ensures.file some none gone removed

pub returns-clause-comes : goal.returns-clause-comes
returns-clause-comes g c =
    let committer = c.args.committer.now in
    let first = c.args.disk.now in
    let mid = c.fill.new.disk in
    let last = c.put_body.new.disk in
    let over = c.requires in
    let end = over_end g.D.Disk committer first mid over c.fill.ensures.logs in
    anyhow_on g.D.Disk first last c.remove_all.new.disk
    (loosely_on g.D.Disk first mid last _ _ (c.fill.ensures.logs (log_file 0) refl) (c.put_body.ensures.images over.bodies end))
    (loosely g.D.Disk last c.remove_all.new.disk _ c.remove_all.ensures.logs)

pub returns-clause-done : goal.returns-clause-done
returns-clause-done g c = λ old new held.
    let committer = c.args.committer.now in
    let first = c.args.disk.now in
    let mid = c.fill.new.disk in
    let last = c.put_body.new.disk in
    let m = meta g.D.Disk g.B.ManifestState.fits committer first old new held in
    let parts = subst (AreParts (filling old.contents) held.stages.grown) (sym c.as_slice.ensures) held.stages.parts in
    let copies = subst (AreCopies (filling old.contents) held.stages.grown) (sym c.as_slice-2.ensures) held.stages.copies in
    let run = c.fill.ensures.images (file_of committer.log) (filling old.contents) held.stages.grown m parts copies in
    let filled = subst (λ (xs : List FileCopy). HoldsFilling g.D.Disk mid (after_copies xs held.stages.grown)) c.as_slice-2.ensures
    (c.in_ok-fill.ensures.filled (file_of committer.log) (filling old.contents) held.stages.grown m parts copies held.committed.contents) in
    let end = commit_end g.D.Disk g.B.ManifestState.fits committer first old new held mid run in
    let put = subst (λ (s : List StagedItem). ImagesStep g.D.Disk mid last
    (InFile (file_of committer.log) (WithBody held.committed.bodies s)))
    c.as_slice-3.ensures (c.put_body.ensures.images held.committed.bodies end) in
    let gone = c.remove_all.new.disk in
    let some = subst (λ (s : List StagedItem). 0 < length s →
    IsAtEnd g.D.Disk c.put_body.new.log last (held.committed.bodies ++ bytes_of s ∷ [])) c.as_slice-3.ensures
    (c.in_ok-put_body.ensures.finished held.committed.bodies end) in
    let none = subst (λ (s : List StagedItem). length s ≡ 0 →
    IsAtEnd g.D.Disk c.put_body.new.log last held.committed.bodies) c.as_slice-3.ensures
    (c.in_ok-put_body.ensures.none held.committed.bodies end) in
    let are = subst (λ (s : List StagedItem). AreRemovals s c.last_removals.result.now) c.as_slice-4.ensures c.last_removals.ensures.are in
    let free = removals_free (file_of committer.log) committer new old.book c.last_removals.result.now are held.stages.items held.free in
    let named : c.log_file.result ≡ file_of committer.log = c.log_file.ensures ∙ sym c.requires.file in
    let removed = subst (λ (f : File). ImagesStep g.D.Disk last gone (Spares f (filling new.contents))) named
    (c.remove_all.ensures.images new.contents (subst (λ (f : File). All (IsFree f new.contents) c.last_removals.result.now) (sym named)
    free)) in
    commit_done g.D.Disk g.B.ManifestState.fits committer first old new held mid run last filled put c.put_body.new.log
    c.put_body.ensures.file
    some none gone removed _ refl refl refl refl c.clear.ensures c.clear-2.ensures c.clear-3.ensures

pub returns-clause-over : goal.returns-clause-over
returns-clause-over g c =
    let committer = c.args.committer.now in
    let first = c.args.disk.now in
    let mid = c.fill.new.disk in
    let last = c.put_body.new.disk in
    let over = c.requires in
    let end = over_end g.D.Disk committer first mid over c.fill.ensures.logs in
    let put = subst (λ (s : List StagedItem). ImagesStep g.D.Disk mid last (InFile (file_of committer.log) (WithBody over.bodies s)))
    c.as_slice-3.ensures (c.put_body.ensures.images over.bodies end) in
    let some = subst (λ (s : List StagedItem). 0 < length s →
    IsAtEnd g.D.Disk c.put_body.new.log last (over.bodies ++ bytes_of s ∷ [])) c.as_slice-3.ensures
    (c.in_ok-put_body.ensures.finished over.bodies end) in
    let none = subst (λ (s : List StagedItem). length s ≡ 0 →
    IsAtEnd g.D.Disk c.put_body.new.log last over.bodies) c.as_slice-3.ensures (c.in_ok-put_body.ensures.none over.bodies end) in
    let removed = subst (λ (f : File). ImagesStep g.D.Disk last c.remove_all.new.disk (KeepsLogs f)) c.log_file.ensures
    c.remove_all.ensures.logs in
    subst (λ (n : ℕ). AreOver g.D.Disk committer.root c.put_body.new.log committer.number n c.remove_all.new.disk)
    (sym c.first_of-committer.ensures)
    (over_after g.D.Disk committer first mid over c.fill.ensures.logs last c.remove_all.new.disk put c.put_body.new.log
    c.put_body.ensures.file
    some none removed)

pub returns-in_err-fill-clause-seen : goal.returns-in_err-fill-clause-seen
returns-in_err-fill-clause-seen g c = λ other apart ne.
    let committer = c.args.committer.now in
    let first = g.D.Disk.seen c.args.disk.now in
    let mid = g.D.Disk.seen c.fill.new.disk in
    let there = subst (λ (p : List StagedAppend). IsElsewhere p c.as_slice-2.result.now other) (sym c.as_slice.ensures)
    (subst (λ (x : List FileCopy). IsElsewhere committer.parts x other) (sym c.as_slice-2.ensures) apart) in
    let filled = c.fill.ensures.seen other there in
    told_as (Keeping other) (OrGone other) (λ a b same. inl same) first mid filled

pub returns-in_err-put_body-clause-seen : goal.returns-in_err-put_body-clause-seen
returns-in_err-put_body-clause-seen g c = λ other apart ne.
    let committer = c.args.committer.now in
    let first = g.D.Disk.seen c.args.disk.now in
    let mid = g.D.Disk.seen c.fill.new.disk in
    let last = g.D.Disk.seen c.put_body.new.disk in
    let there = subst (λ (p : List StagedAppend). IsElsewhere p c.as_slice-2.result.now other) (sym c.as_slice.ensures)
    (subst (λ (x : List FileCopy). IsElsewhere committer.parts x other) (sym c.as_slice-2.ensures) apart) in
    let filled = c.fill.ensures.seen other there in
    let put = told_through (Keeping other) (Apart (file_of committer.log)) (Keeping other) (λ a b c same leaves. leaves other ne
    ∙ same) first mid last filled c.put_body.ensures.seen in
    told_as (Keeping other) (OrGone other) (λ a b same. inl same) first last put

pub returns-in_err-remove_all-clause-seen : goal.returns-in_err-remove_all-clause-seen
returns-in_err-remove_all-clause-seen g c = λ other apart ne.
    let committer = c.args.committer.now in
    let first = g.D.Disk.seen c.args.disk.now in
    let mid = g.D.Disk.seen c.fill.new.disk in
    let last = g.D.Disk.seen c.put_body.new.disk in
    let there = subst (λ (p : List StagedAppend). IsElsewhere p c.as_slice-2.result.now other) (sym c.as_slice.ensures)
    (subst (λ (x : List FileCopy). IsElsewhere committer.parts x other) (sym c.as_slice-2.ensures) apart) in
    let filled = c.fill.ensures.seen other there in
    let put = told_through (Keeping other) (Apart (file_of committer.log)) (Keeping other) (λ a b c same leaves. leaves other ne
    ∙ same) first mid last filled c.put_body.ensures.seen in
    told_through (Keeping other) Removing (OrGone other) (λ a b c same gone. gone_behind other a b c same (gone other)) first last
    (g.D.Disk.seen c.remove_all.new.disk) put c.remove_all.ensures.seen

pub returns-clause-seen : goal.returns-clause-seen
returns-clause-seen g c = λ other apart ne.
    let committer = c.args.committer.now in
    let first = g.D.Disk.seen c.args.disk.now in
    let mid = g.D.Disk.seen c.fill.new.disk in
    let last = g.D.Disk.seen c.put_body.new.disk in
    let there = subst (λ (p : List StagedAppend). IsElsewhere p c.as_slice-2.result.now other) (sym c.as_slice.ensures)
    (subst (λ (x : List FileCopy). IsElsewhere committer.parts x other) (sym c.as_slice-2.ensures) apart) in
    let filled = c.fill.ensures.seen other there in
    let put = told_through (Keeping other) (Apart (file_of committer.log)) (Keeping other) (λ a b c same leaves. leaves other ne
    ∙ same) first mid last filled c.put_body.ensures.seen in
    told_through (Keeping other) Removing (OrGone other) (λ a b c same gone. gone_behind other a b c same (gone other)) first last
    (g.D.Disk.seen c.remove_all.new.disk) put c.remove_all.ensures.seen

pub returns-clause-removed : goal.returns-clause-removed
returns-clause-removed g c = λ image told.
    let committer = c.args.committer.now in
    let named : c.log_file.result ≡ file_of committer.log = c.log_file.ensures ∙ sym c.requires.file in
    let files : c.last_removals.result.now ≡ removals_in (replay (items_of committer.slots) empty) = c.last_removals.ensures.last
    ∙ ap (λ (s : List StagedItem). removals_in (replay (items_of s) empty)) c.as_slice-4.ensures in
    subst (λ (l : List File). All (IsGone (file_of committer.log) image) l) files
    (subst (λ (f : File). All (IsGone f image) c.last_removals.result.now) named (c.in_ok-remove_all.ensures.removed image told))

pub returns-in_err-fill-clause-sound : goal.returns-in_err-fill-clause-sound
returns-in_err-fill-clause-sound g c = λ old new held image told file at is.
    let committer = c.args.committer.now in
    let first = c.args.disk.now in
    let m = meta g.D.Disk g.B.ManifestState.fits committer first old new held in
    let parts = subst (AreParts (filling old.contents) held.stages.grown) (sym c.as_slice.ensures) held.stages.parts in
    let copies = subst (AreCopies (filling old.contents) held.stages.grown) (sym c.as_slice-2.ensures) held.stages.copies in
    let p = err_from_is_err_and c.from_residual.result c.from_residual.ensures.1 in
    let p1 = p.1 in
    let p2 = p.2 in
    let w : c.fill.result ≡ Err c.in_err-fill.field-0.0 = c.in_err-fill.was in
    let was : c.fill.result ≡ Err (faults.Damaged file at) = cc in
    c.fill.ensures.sound (file_of committer.log) (filling old.contents) held.stages.grown m parts copies held.committed.contents image told
    file at was

pub returns-clause-body : goal.returns-clause-body
returns-clause-body g c = λ bodies end some.
    let committer = c.args.committer.now in
    let first = c.args.disk.now in
    let mid = c.fill.new.disk in
    let last = c.put_body.new.disk in
    let log = c.put_body.new.log in
    let filled = at_end_stays g.D.Disk first mid committer.log bodies (Keeping (file_of committer.log)) (λ a b same. same)
    (c.fill.ensures.logs (file_of committer.log) (over_meta g.D.Disk committer first c.requires)) end in
    let put = subst (λ (s : List StagedItem). 0 < length s →
    IsAtEnd g.D.Disk log last (bodies ++ bytes_of s ∷ [])) c.as_slice-3.ensures (c.in_ok-put_body.ensures.finished bodies filled) in
    let kept = subst (λ (f : File). ImagesStep g.D.Disk last c.remove_all.new.disk (KeepsLogs f)) c.log_file.ensures
    c.remove_all.ensures.logs in
    at_end_stays g.D.Disk last c.remove_all.new.disk log (bodies ++ bytes_of committer.slots ∷ []) (KeepsLogs (log_file committer.number))
    (λ a b same. subst (λ (f : File). b f ≡ a f) (sym (c.put_body.ensures.file ∙ c.requires.file)) same.log_stays) kept (put some)

pub returns-in_err-fill-clause-done : goal.returns-in_err-fill-clause-done
returns-in_err-fill-clause-done g c = λ old new held. IfOk-from_err c.from_residual.result _ c.from_residual.ensures.0

pub returns-in_err-fill-clause-over : goal.returns-in_err-fill-clause-over
returns-in_err-fill-clause-over g c = IfOk-from_err c.from_residual.result _ c.from_residual.ensures.0

pub returns-in_err-fill-clause-idle : goal.returns-in_err-fill-clause-idle
returns-in_err-fill-clause-idle g c = IfOk-from_err c.from_residual.result _ c.from_residual.ensures.0

pub returns-in_err-fill-clause-body : goal.returns-in_err-fill-clause-body
returns-in_err-fill-clause-body g c = λ bodies end some. IfOk-from_err c.from_residual.result _ c.from_residual.ensures.0

pub returns-in_err-fill-clause-number : goal.returns-in_err-fill-clause-number
returns-in_err-fill-clause-number g c = IfOk-from_err c.from_residual.result _ c.from_residual.ensures.0

pub returns-in_err-fill-clause-removed : goal.returns-in_err-fill-clause-removed
returns-in_err-fill-clause-removed g c = IfOk-from_err c.from_residual.result _ c.from_residual.ensures.0

pub returns-in_err-fill-clause-closed : goal.returns-in_err-fill-clause-closed
returns-in_err-fill-clause-closed g c = on_failure c.from_residual.result refl

pub returns-in_err-fill-clause-file : goal.returns-in_err-fill-clause-file
returns-in_err-fill-clause-file g c = refl

pub returns-in_err-put_body-clause-done : goal.returns-in_err-put_body-clause-done
returns-in_err-put_body-clause-done g c = λ old new held.
    IfOk-from_err c.from_residual-in_err-put_body.result _ c.from_residual-in_err-put_body.ensures.0

pub returns-in_err-put_body-clause-over : goal.returns-in_err-put_body-clause-over
returns-in_err-put_body-clause-over g c = IfOk-from_err c.from_residual-in_err-put_body.result _ c.from_residual-in_err-put_body.ensures.0

pub returns-in_err-put_body-clause-idle : goal.returns-in_err-put_body-clause-idle
returns-in_err-put_body-clause-idle g c = IfOk-from_err c.from_residual-in_err-put_body.result _ c.from_residual-in_err-put_body.ensures.0

pub returns-in_err-put_body-clause-body : goal.returns-in_err-put_body-clause-body
returns-in_err-put_body-clause-body g c = λ bodies end some.
    IfOk-from_err c.from_residual-in_err-put_body.result _ c.from_residual-in_err-put_body.ensures.0

pub returns-in_err-put_body-clause-number : goal.returns-in_err-put_body-clause-number
returns-in_err-put_body-clause-number g c = IfOk-from_err c.from_residual-in_err-put_body.result _ c.from_residual-in_err-put_body.ensures.0

pub returns-in_err-put_body-clause-removed : goal.returns-in_err-put_body-clause-removed
returns-in_err-put_body-clause-removed g c = IfOk-from_err c.from_residual-in_err-put_body.result _
    c.from_residual-in_err-put_body.ensures.0

pub returns-in_err-put_body-clause-closed : goal.returns-in_err-put_body-clause-closed
returns-in_err-put_body-clause-closed g c = on_failure c.from_residual-in_err-put_body.result refl

pub returns-in_err-put_body-clause-file : goal.returns-in_err-put_body-clause-file
returns-in_err-put_body-clause-file g c = c.put_body.ensures.file

pub returns-in_err-remove_all-clause-done : goal.returns-in_err-remove_all-clause-done
returns-in_err-remove_all-clause-done g c = λ old new held.
    IfOk-from_err c.from_residual-in_err-remove_all.result _ c.from_residual-in_err-remove_all.ensures.0

pub returns-in_err-remove_all-clause-over : goal.returns-in_err-remove_all-clause-over
returns-in_err-remove_all-clause-over g c = IfOk-from_err c.from_residual-in_err-remove_all.result _
    c.from_residual-in_err-remove_all.ensures.0

pub returns-in_err-remove_all-clause-idle : goal.returns-in_err-remove_all-clause-idle
returns-in_err-remove_all-clause-idle g c = IfOk-from_err c.from_residual-in_err-remove_all.result _
    c.from_residual-in_err-remove_all.ensures.0

pub returns-in_err-remove_all-clause-body : goal.returns-in_err-remove_all-clause-body
returns-in_err-remove_all-clause-body g c = λ bodies end some.
    IfOk-from_err c.from_residual-in_err-remove_all.result _ c.from_residual-in_err-remove_all.ensures.0

pub returns-in_err-remove_all-clause-number : goal.returns-in_err-remove_all-clause-number
returns-in_err-remove_all-clause-number g c = IfOk-from_err c.from_residual-in_err-remove_all.result _
    c.from_residual-in_err-remove_all.ensures.0

pub returns-in_err-remove_all-clause-removed : goal.returns-in_err-remove_all-clause-removed
returns-in_err-remove_all-clause-removed g c = IfOk-from_err c.from_residual-in_err-remove_all.result _
    c.from_residual-in_err-remove_all.ensures.0

pub returns-in_err-remove_all-clause-closed : goal.returns-in_err-remove_all-clause-closed
returns-in_err-remove_all-clause-closed g c = on_failure c.from_residual-in_err-remove_all.result refl

pub returns-in_err-remove_all-clause-file : goal.returns-in_err-remove_all-clause-file
returns-in_err-remove_all-clause-file g c = c.put_body.ensures.file

pub returns-in_err-fill-clause-damaged : goal.returns-in_err-fill-clause-damaged
returns-in_err-fill-clause-damaged g c =
    λ file at is.
    let told = c.fill.ensures.damaged file at (same_fault c.fill.result c.from_residual.result c.in_err-fill.field-0.0
    (faults.Damaged file at) c.in_err-fill.was c.from_residual.ensures.1 is) in (
      subst (λ (x : List FileCopy). IsShort c.args.committer.now.parts x file at) c.as_slice-2.ensures
          (subst (λ (p : List StagedAppend). IsShort p c.as_slice-2.result.now file at) c.as_slice.ensures told.0),
      told.1,
    )

pub returns-in_err-fill-clause-later : goal.returns-in_err-fill-clause-later
returns-in_err-fill-clause-later g c = c.fill.ensures.later

pub returns-in_err-fill-clause-cause : goal.returns-in_err-fill-clause-cause
returns-in_err-fill-clause-cause g c = λ is.
    c.fill.ensures.cause (same_fault c.fill.result c.from_residual.result c.in_err-fill.field-0.0 faults.Disk c.in_err-fill.was
    c.from_residual.ensures.1 is)

pub returns-in_err-put_body-clause-sound : goal.returns-in_err-put_body-clause-sound
returns-in_err-put_body-clause-sound g c = λ old new held image told file at is.
    no_damage c.from_residual-in_err-put_body.result file at c.from_residual-in_err-put_body.ensures.1 is

pub returns-in_err-put_body-clause-damaged : goal.returns-in_err-put_body-clause-damaged
returns-in_err-put_body-clause-damaged g c = λ file at is.
    absurd (no_damage c.from_residual-in_err-put_body.result file at c.from_residual-in_err-put_body.ensures.1 is)

pub returns-in_err-remove_all-clause-sound : goal.returns-in_err-remove_all-clause-sound
returns-in_err-remove_all-clause-sound g c = λ old new held image told file at is.
    no_damage c.from_residual-in_err-remove_all.result file at c.from_residual-in_err-remove_all.ensures.1 is

pub returns-in_err-remove_all-clause-damaged : goal.returns-in_err-remove_all-clause-damaged
returns-in_err-remove_all-clause-damaged g c = λ file at is.
    absurd (no_damage c.from_residual-in_err-remove_all.result file at c.from_residual-in_err-remove_all.ensures.1 is)

pub returns-in_err-put_body-clause-later : goal.returns-in_err-put_body-clause-later
returns-in_err-put_body-clause-later g c = le_trans c.fill.ensures.later c.put_body.ensures.cause.later

pub returns-in_err-remove_all-clause-later : goal.returns-in_err-remove_all-clause-later
returns-in_err-remove_all-clause-later g c = le_trans (le_trans c.fill.ensures.later c.put_body.ensures.cause.later)
    c.remove_all.ensures.cause.later

pub returns-in_err-put_body-clause-cause : goal.returns-in_err-put_body-clause-cause
returns-in_err-put_body-clause-cause g c = λ is. rose_later _ _ _ c.fill.ensures.later
    (c.put_body.ensures.cause.failed (ap is_err c.in_err-put_body.was))

pub returns-in_err-remove_all-clause-cause : goal.returns-in_err-remove_all-clause-cause
returns-in_err-remove_all-clause-cause g c = λ is. rose_later _ _ _ (le_trans c.fill.ensures.later c.put_body.ensures.cause.later)
    (c.remove_all.ensures.cause.failed (ap is_err c.in_err-remove_all.was))

pub returns-clause-idle : goal.returns-clause-idle
returns-clause-idle g c = (c.clear.ensures, (c.clear-2.ensures, c.clear-3.ensures))

pub returns-clause-closed : goal.returns-clause-closed
returns-clause-closed g c = tt

pub returns-clause-file : goal.returns-clause-file
returns-clause-file g c = c.put_body.ensures.file

pub returns-clause-number : goal.returns-clause-number
returns-clause-number g c = refl

pub returns-clause-sound : goal.returns-clause-sound
returns-clause-sound g c = λ old new held image told file at is. no_failure _ _ is

pub returns-clause-damaged : goal.returns-clause-damaged
returns-clause-damaged g c = λ file at is. absurd (no_failure _ _ is)

pub returns-clause-later : goal.returns-clause-later
returns-clause-later g c = le_trans (le_trans c.fill.ensures.later c.put_body.ensures.cause.later) c.remove_all.ensures.cause.later

pub returns-clause-cause : goal.returns-clause-cause
returns-clause-cause g c = λ is. absurd (no_failure _ _ is)

pub invariant_of-committer : goal.invariant_of-committer
invariant_of-committer g c = record {
  sized = c.args.committer.now.sized;
  short = c.args.committer.now.short;
  room = room_stays c.args.committer.now.buffer c.fill.new.buf c.args.committer.now.room;
}

pub invariant_of-committer-in-Break-branch-2 : goal.invariant_of-committer-in-Break-branch-2
invariant_of-committer-in-Break-branch-2 g c = record {
  sized = c.args.committer.now.sized;
  short = c.args.committer.now.short;
  room = room_stays c.args.committer.now.buffer c.fill.new.buf c.args.committer.now.room;
}

pub invariant_of-committer-in-Break-branch-3 : goal.invariant_of-committer-in-Break-branch-3
invariant_of-committer-in-Break-branch-3 g c = record {
  sized = c.args.committer.now.sized;
  short = c.args.committer.now.short;
  room = room_stays c.args.committer.now.buffer c.fill.new.buf c.args.committer.now.room;
}

pub invariant_of-committer-2 : goal.invariant_of-committer-2
invariant_of-committer-2 g c = record {
  sized = sym (ap (λ (s : List StagedItem). length (bytes_of s)) c.clear-3.ensures);
  short = lit< tt;
  room = room_stays c.args.committer.now.buffer c.fill.new.buf c.args.committer.now.room;
}
