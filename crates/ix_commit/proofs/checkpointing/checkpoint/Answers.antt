use Rattle.std.proofs.Common.{rules, ◌≡◌, ◌≢◌, ◌+◌, ◌-◌, ◌<◌, ◌^◌, ℕ, List, [], ◌∷◌, length, refl, ap, subst, sym, ◌∙◌, None, Err, inl}
use Rattle.std.proofs.Common.{arith, le_trans}
use Rattle.ix_commit.specs.declared.committer.Committer.{Committer}
use Rattle.std.proofs.lemmas.Result.{IfOk-from_err}
use Rattle.std.specs.Result.{is_err}
use Rattle.ix_base.specs.Told.{Told}
use Rattle.ix_base.specs.declared.files.File.{File}
use Rattle.ix_disk.specs.Image.{Apart, MayRemove, bytes_in}
use Rattle.ix_disk.proofs.Others.{apart_removed}
use Rattle.ix_disk.proofs.Runs.{rose_later}
use Rattle.ix_disk.specs.Moments.{ImagesStep}
use Rattle.ix_log.specs.Log.{IsAtEnd, file_of}
use Rattle.ix_manifest.specs.Book.{IsBody}
use Rattle.ix_manifest.specs.Root.{log_file, roots}
use Rattle.ix_manifest.specs.declared.fault.CheckpointFault.TheVariants as faults
use Rattle.ix_manifest.specs.Whole.{whole, whole_body}
use Rattle.ix_commit.specs.Snapshot.{log_of, Held, LogsAtEnd, KnowsLogLength}
use Rattle.ix_commit.specs.Shortening.{HasOneBody}
use Rattle.ix_commit.proofs.Failing.{no_failure, no_want, handed_on}
use Rattle.ix_commit.proofs.Settling.{anyhow_on, loosely}
use Rattle.ix_commit.proofs.Shorter.{number_room, apart_comes, over_still, over_root, measured_still, end_gone, root_gone, over_new}
use Rattle.ix_commit.proofs.Shorter.{root_mid, written_images, numbered_images, removed_images, shortened_held, place_one, new_file}
use Rattle.ix_commit.proofs.Shorter.{new_file_other, held_mid}
use Rattle.ix_commit.proofs.Reading.{told_anyhow, anyhow_through, gone_done}
use Rattle.ix_commit.proofs.checkpointing.checkpoint.Goals as goal

pub returns-in-Err-clause-images : goal.returns-in-Err-clause-images
returns-in-Err-clause-images g c = λ s held tells fit.
    let fits = g.B.ManifestState.fits in
    let committer = c.args.committer.now in
    let first = c.args.disk.now in
    let mid = c.write_log.new.disk in
    let next = c.log_file.ensures ∙ ap (λ (m : ℕ). log_file (m + 1)) held.committed.number in
    let written = subst (λ (f : File). ImagesStep g.D.Disk first mid (Apart f)) next c.write_log.ensures.images in
    written_images g.D.Disk fits committer first s held mid written

pub returns-in_err-put_number-clause-images : goal.returns-in_err-put_number-clause-images
returns-in_err-put_number-clause-images g c = λ s held tells fit.
    let fits = g.B.ManifestState.fits in
    let committer = c.args.committer.now in
    let first = c.args.disk.now in
    let mid = c.write_log.new.disk in
    let next = c.log_file.ensures ∙ ap (λ (m : ℕ). log_file (m + 1)) held.committed.number in
    let written = subst (λ (f : File). ImagesStep g.D.Disk first mid (Apart f)) next c.write_log.ensures.images in
    let last = c.put_number.new.disk in
    let told = g.W.Whole.left c.args.state.now in
    let old : c.log_file-old.result ≡ log_of committer = c.log_file-old.ensures ∙ sym c.requires.over.file in
    let body = subst (λ (f : File). IsBody (whole told f) (whole_body told f)) old c.in-Ok.ensures.body in
    let end = subst (λ (f : File). IsAtEnd g.D.Disk c.in-Ok.log mid (whole_body told f ∷ [])) old c.in-Ok.ensures.written in
    let root_now = root_mid g.D.Disk fits committer first s held mid written in
    let k = held.committed.checkpoints in
    let number : committer.number + 1 ≡ k + 2 = omega (arith, held.committed.number) in
    let numbered = c.put_number.ensures.images k number root_now in
    numbered_images g.D.Disk fits committer first s held mid written told tells fit body c.in-Ok.log (c.in-Ok.ensures.file
    ∙ next) end last numbered

pub returns-in_err-remove-clause-images : goal.returns-in_err-remove-clause-images
returns-in_err-remove-clause-images g c = λ s held tells fit.
    let fits = g.B.ManifestState.fits in
    let committer = c.args.committer.now in
    let first = c.args.disk.now in
    let mid = c.write_log.new.disk in
    let next = c.log_file.ensures ∙ ap (λ (m : ℕ). log_file (m + 1)) held.committed.number in
    let written = subst (λ (f : File). ImagesStep g.D.Disk first mid (Apart f)) next c.write_log.ensures.images in
    let last = c.put_number.new.disk in
    let told = g.W.Whole.left c.args.state.now in
    let old : c.log_file-old.result ≡ log_of committer = c.log_file-old.ensures ∙ sym c.requires.over.file in
    let body = subst (λ (f : File). IsBody (whole told f) (whole_body told f)) old c.in-Ok.ensures.body in
    let end = subst (λ (f : File). IsAtEnd g.D.Disk c.in-Ok.log mid (whole_body told f ∷ [])) old c.in-Ok.ensures.written in
    let root_now = root_mid g.D.Disk fits committer first s held mid written in
    let k = held.committed.checkpoints in
    let number : committer.number + 1 ≡ k + 2 = omega (arith, held.committed.number) in
    let numbered = c.put_number.ensures.images k number root_now in
    let root_end = c.in_ok-put_number.ensures.finished k number root_now in
    let removed = subst (λ (f : File). ImagesStep g.D.Disk last c.remove.new.self (MayRemove f)) old c.remove.ensures.images in
    removed_images g.D.Disk fits committer first s held mid written told tells fit body c.in-Ok.log (c.in-Ok.ensures.file
    ∙ next) end last numbered c.put_number.new.root c.put_number.ensures.file root_end c.remove.new.self removed

pub returns-clause-images : goal.returns-clause-images
returns-clause-images g c = λ s held tells fit.
    let fits = g.B.ManifestState.fits in
    let committer = c.args.committer.now in
    let first = c.args.disk.now in
    let mid = c.write_log.new.disk in
    let next = c.log_file.ensures ∙ ap (λ (m : ℕ). log_file (m + 1)) held.committed.number in
    let written = subst (λ (f : File). ImagesStep g.D.Disk first mid (Apart f)) next c.write_log.ensures.images in
    let last = c.put_number.new.disk in
    let told = g.W.Whole.left c.args.state.now in
    let old : c.log_file-old.result ≡ log_of committer = c.log_file-old.ensures ∙ sym c.requires.over.file in
    let body = subst (λ (f : File). IsBody (whole told f) (whole_body told f)) old c.in-Ok.ensures.body in
    let end = subst (λ (f : File). IsAtEnd g.D.Disk c.in-Ok.log mid (whole_body told f ∷ [])) old c.in-Ok.ensures.written in
    let root_now = root_mid g.D.Disk fits committer first s held mid written in
    let k = held.committed.checkpoints in
    let number : committer.number + 1 ≡ k + 2 = omega (arith, held.committed.number) in
    let numbered = c.put_number.ensures.images k number root_now in
    let root_end = c.in_ok-put_number.ensures.finished k number root_now in
    let removed = subst (λ (f : File). ImagesStep g.D.Disk last c.remove.new.self (MayRemove f)) old c.remove.ensures.images in
    removed_images g.D.Disk fits committer first s held mid written told tells fit body c.in-Ok.log (c.in-Ok.ensures.file
    ∙ next) end last numbered c.put_number.new.root c.put_number.ensures.file root_end c.remove.new.self removed

pub returns-clause-over : goal.returns-clause-over
returns-clause-over g c =
    let committer = c.args.committer.now in
    let first = c.args.disk.now in
    let mid = c.write_log.new.disk in
    let last = c.put_number.new.disk in
    let gone = c.remove.new.self in
    let over = c.requires.over in
    let told = g.W.Whole.left c.args.state.now in
    let body = whole_body told c.log_file-old.result in
    let written = subst (λ (f : File). ImagesStep g.D.Disk first mid (Apart f)) c.log_file.ensures c.write_log.ensures.images in
    let file = c.in-Ok.ensures.file ∙ c.log_file.ensures in
    let k = over.checkpoints in
    let number : committer.number + 1 ≡ k + 2 = omega (arith, over.counted) in
    let root_over = over_root g.D.Disk committer first mid over written in
    let numbered = c.put_number.ensures.images k number root_over in
    let removed = subst (λ (f : File). ImagesStep g.D.Disk last gone (MayRemove f)) c.log_file-old.ensures c.remove.ensures.images in
    let root_end = c.in_ok-put_number.ensures.finished k number root_over in
    let place = c.in-Ok.ensures.written.place ∙ place_one body in
    over_new g.D.Disk committer first mid over written last gone c.in-Ok.log body file c.in-Ok.ensures.written numbered removed
    c.put_number.new.root c.put_number.ensures.file root_end c.go_over.new.committer
    c.go_over.ensures.root c.go_over.ensures.log c.go_over.ensures.number (omega (arith, c.go_over.ensures.first, place))
    c.in-Ok.ensures.body.some

pub returns-clause-done : goal.returns-clause-done
returns-clause-done g c = λ s held tells fit.
    let fits = g.B.ManifestState.fits in
    let committer = c.args.committer.now in
    let first = c.args.disk.now in
    let mid = c.write_log.new.disk in
    let next = c.log_file.ensures ∙ ap (λ (m : ℕ). log_file (m + 1)) held.committed.number in
    let written = subst (λ (f : File). ImagesStep g.D.Disk first mid (Apart f)) next c.write_log.ensures.images in
    let last = c.put_number.new.disk in
    let told = g.W.Whole.left c.args.state.now in
    let old : c.log_file-old.result ≡ log_of committer = c.log_file-old.ensures ∙ sym c.requires.over.file in
    let body = subst (λ (f : File). IsBody (whole told f) (whole_body told f)) old c.in-Ok.ensures.body in
    let end = subst (λ (f : File). IsAtEnd g.D.Disk c.in-Ok.log mid (whole_body told f ∷ [])) old c.in-Ok.ensures.written in
    let root_now = root_mid g.D.Disk fits committer first s held mid written in
    let k = held.committed.checkpoints in
    let number : committer.number + 1 ≡ k + 2 = omega (arith, held.committed.number) in
    let numbered = c.put_number.ensures.images k number root_now in
    let root_end = c.in_ok-put_number.ensures.finished k number root_now in
    let removed = subst (λ (f : File). ImagesStep g.D.Disk last c.remove.new.self (MayRemove f)) old c.remove.ensures.images in
    let over_written = subst (λ (f : File). ImagesStep g.D.Disk first mid (Apart f)) c.log_file.ensures c.write_log.ensures.images in
    let over = c.requires.over in
    let file = c.in-Ok.ensures.file ∙ c.log_file.ensures in
    let gone = c.remove.new.self in
    let over_removed = subst (λ (f : File). ImagesStep g.D.Disk last gone (MayRemove f)) c.log_file-old.ensures c.remove.ensures.images in
    let over_number : committer.number + 1 ≡ over.checkpoints + 2 = omega (arith, over.counted) in
    let root_over = over_root g.D.Disk committer first mid over over_written in
    let over_numbered = c.put_number.ensures.images over.checkpoints over_number root_over in
    let over_root_end = c.in_ok-put_number.ensures.finished over.checkpoints over_number root_over in
    let same : over.checkpoints ≡ k = omega (arith, over.counted, held.committed.number) in
    let root_last = subst (λ (n : ℕ). IsAtEnd g.D.Disk c.put_number.new.root gone (roots (n + 1))) same
    (root_gone g.D.Disk committer first mid over over_written last gone c.in-Ok.log (whole_body told c.log_file-old.result) file
    c.in-Ok.ensures.written over_numbered over_removed c.put_number.new.root c.put_number.ensures.file over_root_end) in
    let now_last = subst (λ (f : File). IsAtEnd g.D.Disk c.in-Ok.log gone (whole_body told f ∷ [])) old
    (end_gone g.D.Disk committer first mid over over_written last gone c.in-Ok.log (whole_body told c.log_file-old.result) file
    c.in-Ok.ensures.written over_numbered over_removed c.put_number.new.root c.put_number.ensures.file over_root_end) in
    shortened_held g.D.Disk fits committer first s held mid written told tells fit body c.in-Ok.log (c.in-Ok.ensures.file
    ∙ next) end last numbered c.put_number.new.root c.put_number.ensures.file root_end gone removed
    c.go_over.new.committer c.go_over.ensures.root c.go_over.ensures.log c.go_over.ensures.number c.go_over.ensures.closed
    (c.go_over.ensures.parts ∙ c.requires.idle.0) (c.go_over.ensures.copies ∙ c.requires.idle.1.0) (c.go_over.ensures.slots
    ∙ c.requires.idle.1.1) root_last now_last

pub go_over-requires-clause-number : goal.go_over-requires-clause-number
go_over-requires-clause-number g c = number_room g.D.Disk c.args.committer.now c.args.disk.now c.requires.over

pub overflow_add-committer : goal.overflow_add-committer
overflow_add-committer g c = omega (arith, number_room g.D.Disk c.args.committer.now c.args.disk.now c.requires.over)

pub returns-in_err-put_number-clause-comes : goal.returns-in_err-put_number-clause-comes
returns-in_err-put_number-clause-comes g c =
    let committer = c.args.committer.now in
    let first = c.args.disk.now in
    let mid = c.write_log.new.disk in
    let last = c.put_number.new.disk in
    let over = c.requires.over in
    let written = subst (λ (f : File). ImagesStep g.D.Disk first mid (Apart f)) c.log_file.ensures c.write_log.ensures.images in
    let numbered = c.put_number.ensures.images over.checkpoints (omega (arith, over.counted))
    (over_root g.D.Disk committer first mid over written) in
    let so_far = anyhow_on g.D.Disk first mid last (apart_comes g.D.Disk first mid _ c.write_log.ensures.images)
    (loosely g.D.Disk mid last _ numbered) in
    so_far

pub returns-in_err-remove-clause-comes : goal.returns-in_err-remove-clause-comes
returns-in_err-remove-clause-comes g c =
    let committer = c.args.committer.now in
    let first = c.args.disk.now in
    let mid = c.write_log.new.disk in
    let last = c.put_number.new.disk in
    let over = c.requires.over in
    let written = subst (λ (f : File). ImagesStep g.D.Disk first mid (Apart f)) c.log_file.ensures c.write_log.ensures.images in
    let numbered = c.put_number.ensures.images over.checkpoints (omega (arith, over.counted))
    (over_root g.D.Disk committer first mid over written) in
    let so_far = anyhow_on g.D.Disk first mid last (apart_comes g.D.Disk first mid _ c.write_log.ensures.images)
    (loosely g.D.Disk mid last _ numbered) in
    anyhow_on g.D.Disk first last c.remove.new.self so_far (loosely g.D.Disk last c.remove.new.self _ c.remove.ensures.images)

pub returns-clause-comes : goal.returns-clause-comes
returns-clause-comes g c =
    let committer = c.args.committer.now in
    let first = c.args.disk.now in
    let mid = c.write_log.new.disk in
    let last = c.put_number.new.disk in
    let over = c.requires.over in
    let written = subst (λ (f : File). ImagesStep g.D.Disk first mid (Apart f)) c.log_file.ensures c.write_log.ensures.images in
    let numbered = c.put_number.ensures.images over.checkpoints (omega (arith, over.counted))
    (over_root g.D.Disk committer first mid over written) in
    let so_far = anyhow_on g.D.Disk first mid last (apart_comes g.D.Disk first mid _ c.write_log.ensures.images)
    (loosely g.D.Disk mid last _ numbered) in
    anyhow_on g.D.Disk first last c.remove.new.self so_far (loosely g.D.Disk last c.remove.new.self _ c.remove.ensures.images)

pub returns-clause-shortest : goal.returns-clause-shortest
returns-clause-shortest g c = λ image told.
    let committer = c.args.committer.now in
    let first = c.args.disk.now in
    let mid = c.write_log.new.disk in
    let last = c.put_number.new.disk in
    let gone = c.remove.new.self in
    let body = whole_body (g.W.Whole.left c.args.state.now) c.log_file-old.result in
    let other = new_file_other g.D.Disk committer first c.requires.over c.in-Ok.log (c.in-Ok.ensures.file ∙ c.log_file.ensures) in
    let removed = apart_removed c.log_file-old.result (g.D.Disk.seen last) (g.D.Disk.seen gone) c.in_ok-remove.ensures.removed in
    let found = new_file g.D.Disk (λ image disk told. g.met.D.Disk.seen_may_stay disk image told) mid last gone c.in-Ok.log body
    (file_of committer.root) c.log_file-old.result other.0
    (λ same. other.1 (same ∙ c.log_file-old.ensures)) c.put_number.ensures.seen removed c.in-Ok.ensures.written c.in-Ok.ensures.no_more
    image told in
    subst (λ (f : File). HasOneBody (bytes_in image f)) (sym (ap file_of c.go_over.ensures.log)) found.0

pub returns-clause-measured : goal.returns-clause-measured
returns-clause-measured g c = λ image told.
    let committer = c.args.committer.now in
    let first = c.args.disk.now in
    let mid = c.write_log.new.disk in
    let last = c.put_number.new.disk in
    let gone = c.remove.new.self in
    let body = whole_body (g.W.Whole.left c.args.state.now) c.log_file-old.result in
    let other = new_file_other g.D.Disk committer first c.requires.over c.in-Ok.log (c.in-Ok.ensures.file ∙ c.log_file.ensures) in
    let removed = apart_removed c.log_file-old.result (g.D.Disk.seen last) (g.D.Disk.seen gone) c.in_ok-remove.ensures.removed in
    let found = new_file g.D.Disk (λ image disk told. g.met.D.Disk.seen_may_stay disk image told) mid last gone c.in-Ok.log body
    (file_of committer.root) c.log_file-old.result other.0
    (λ same. other.1 (same ∙ c.log_file-old.ensures)) c.put_number.ensures.seen removed c.in-Ok.ensures.written c.in-Ok.ensures.no_more
    image told in
    c.go_over.ensures.bytes ∙ sym found.1 ∙ ap (λ (f : File). length (bytes_in image f)) (sym (ap file_of c.go_over.ensures.log))

pub returns-clause-gone : goal.returns-clause-gone
returns-clause-gone g c = λ image told.
    let old : c.log_file-old.result ≡ log_of c.args.committer.now = c.log_file-old.ensures ∙ sym c.requires.over.file in
    subst (λ (f : File). image f ≡ None) old (gone_done c.log_file-old.result (g.D.Disk.seen c.put_number.new.disk)
    (g.D.Disk.seen c.remove.new.self) c.in_ok-remove.ensures.removed image told)

pub returns-in-Err-clause-told : goal.returns-in-Err-clause-told
returns-in-Err-clause-told g c = told_anyhow _ (g.D.Disk.seen c.args.disk.now) (g.D.Disk.seen c.write_log.new.disk) c.write_log.ensures.seen

pub returns-in_err-put_number-clause-told : goal.returns-in_err-put_number-clause-told
returns-in_err-put_number-clause-told g c =
    let first = g.D.Disk.seen c.args.disk.now in
    let mid = g.D.Disk.seen c.write_log.new.disk in
    let last = g.D.Disk.seen c.put_number.new.disk in
    anyhow_through first mid last (told_anyhow _ first mid c.write_log.ensures.seen) (told_anyhow _ mid last c.put_number.ensures.seen)

pub returns-in_err-remove-clause-told : goal.returns-in_err-remove-clause-told
returns-in_err-remove-clause-told g c =
    let first = g.D.Disk.seen c.args.disk.now in
    let mid = g.D.Disk.seen c.write_log.new.disk in
    let last = g.D.Disk.seen c.put_number.new.disk in
    let gone = g.D.Disk.seen c.remove.new.self in
    anyhow_through first last gone (anyhow_through first mid last (told_anyhow _ first mid c.write_log.ensures.seen)
    (told_anyhow _ mid last c.put_number.ensures.seen)) (told_anyhow _ last gone c.in_err-remove.ensures.begun)

pub returns-clause-told : goal.returns-clause-told
returns-clause-told g c =
    let first = g.D.Disk.seen c.args.disk.now in
    let mid = g.D.Disk.seen c.write_log.new.disk in
    let last = g.D.Disk.seen c.put_number.new.disk in
    let gone = g.D.Disk.seen c.remove.new.self in
    anyhow_through first last gone (anyhow_through first mid last (told_anyhow _ first mid c.write_log.ensures.seen)
    (told_anyhow _ mid last c.put_number.ensures.seen)) (told_anyhow _ last gone c.in_ok-remove.ensures.removed)

pub returns-in-Err-clause-comes : goal.returns-in-Err-clause-comes
returns-in-Err-clause-comes g c = apart_comes g.D.Disk c.args.disk.now c.write_log.new.disk _ c.write_log.ensures.images

pub returns-in-Err-clause-later : goal.returns-in-Err-clause-later
returns-in-Err-clause-later g c = c.write_log.ensures.later

pub returns-in-Err-clause-cause : goal.returns-in-Err-clause-cause
returns-in-Err-clause-cause g c = λ is. c.write_log.ensures.cause (c.in-Err.is
    ∙ ap (λ e. Err e) (handed_on c.give_up.result c.in-Err.fault faults.Disk c.give_up.ensures.fault is))

pub returns-in-Err-clause-memory : goal.returns-in-Err-clause-memory
returns-in-Err-clause-memory g c = λ is. c.give_up.ensures.same
    (handed_on c.give_up.result c.in-Err.fault faults.NoMemory c.give_up.ensures.fault is)

pub returns-in-Err-clause-closed : goal.returns-in-Err-clause-closed
returns-in-Err-clause-closed g c = λ is. c.give_up.ensures.closed
    (handed_on c.give_up.result c.in-Err.fault faults.Disk c.give_up.ensures.fault is)

pub returns-in_err-put_number-clause-done : goal.returns-in_err-put_number-clause-done
returns-in_err-put_number-clause-done g c = λ s held tells fit. IfOk-from_err c.from_residual.result _ c.from_residual.ensures.0

pub returns-in_err-put_number-clause-over : goal.returns-in_err-put_number-clause-over
returns-in_err-put_number-clause-over g c = IfOk-from_err c.from_residual.result _ c.from_residual.ensures.0

pub returns-in_err-put_number-clause-idle : goal.returns-in_err-put_number-clause-idle
returns-in_err-put_number-clause-idle g c = IfOk-from_err c.from_residual.result _ c.from_residual.ensures.0

pub returns-in_err-put_number-clause-shortest : goal.returns-in_err-put_number-clause-shortest
returns-in_err-put_number-clause-shortest g c = IfOk-from_err c.from_residual.result _ c.from_residual.ensures.0

pub returns-in_err-put_number-clause-measured : goal.returns-in_err-put_number-clause-measured
returns-in_err-put_number-clause-measured g c = IfOk-from_err c.from_residual.result _ c.from_residual.ensures.0

pub returns-in_err-put_number-clause-number : goal.returns-in_err-put_number-clause-number
returns-in_err-put_number-clause-number g c = IfOk-from_err c.from_residual.result _ c.from_residual.ensures.0

pub returns-in_err-put_number-clause-gone : goal.returns-in_err-put_number-clause-gone
returns-in_err-put_number-clause-gone g c = IfOk-from_err c.from_residual.result _ c.from_residual.ensures.0

pub returns-in_err-put_number-clause-memory : goal.returns-in_err-put_number-clause-memory
returns-in_err-put_number-clause-memory g c = λ is. absurd (no_want c.from_residual.result c.from_residual.ensures.1 is)

pub returns-in_err-put_number-clause-held_still : goal.returns-in_err-put_number-clause-held_still
returns-in_err-put_number-clause-held_still g c = λ is s held. absurd (no_want c.from_residual.result c.from_residual.ensures.1 is)

pub returns-in_err-put_number-clause-over_still : goal.returns-in_err-put_number-clause-over_still
returns-in_err-put_number-clause-over_still g c = λ is. absurd (no_want c.from_residual.result c.from_residual.ensures.1 is)

pub returns-in_err-put_number-clause-measured_still : goal.returns-in_err-put_number-clause-measured_still
returns-in_err-put_number-clause-measured_still g c = λ is measured. absurd (no_want c.from_residual.result c.from_residual.ensures.1 is)

pub returns-in_err-put_number-clause-closed : goal.returns-in_err-put_number-clause-closed
returns-in_err-put_number-clause-closed g c = λ is. refl

pub returns-in_err-put_number-clause-later : goal.returns-in_err-put_number-clause-later
returns-in_err-put_number-clause-later g c = le_trans c.write_log.ensures.later c.put_number.ensures.cause.later

pub returns-in_err-put_number-clause-cause : goal.returns-in_err-put_number-clause-cause
returns-in_err-put_number-clause-cause g c = λ is. rose_later _ _ _ (c.write_log.ensures.later)
    (c.put_number.ensures.cause.failed (ap is_err c.in_err-put_number.was))

pub returns-in_err-remove-clause-done : goal.returns-in_err-remove-clause-done
returns-in_err-remove-clause-done g c = λ s held tells fit.
    IfOk-from_err c.from_residual-in_err-remove.result _ c.from_residual-in_err-remove.ensures.0

pub returns-in_err-remove-clause-over : goal.returns-in_err-remove-clause-over
returns-in_err-remove-clause-over g c = IfOk-from_err c.from_residual-in_err-remove.result _ c.from_residual-in_err-remove.ensures.0

pub returns-in_err-remove-clause-idle : goal.returns-in_err-remove-clause-idle
returns-in_err-remove-clause-idle g c = IfOk-from_err c.from_residual-in_err-remove.result _ c.from_residual-in_err-remove.ensures.0

pub returns-in_err-remove-clause-shortest : goal.returns-in_err-remove-clause-shortest
returns-in_err-remove-clause-shortest g c = IfOk-from_err c.from_residual-in_err-remove.result _ c.from_residual-in_err-remove.ensures.0

pub returns-in_err-remove-clause-measured : goal.returns-in_err-remove-clause-measured
returns-in_err-remove-clause-measured g c = IfOk-from_err c.from_residual-in_err-remove.result _ c.from_residual-in_err-remove.ensures.0

pub returns-in_err-remove-clause-number : goal.returns-in_err-remove-clause-number
returns-in_err-remove-clause-number g c = IfOk-from_err c.from_residual-in_err-remove.result _ c.from_residual-in_err-remove.ensures.0

pub returns-in_err-remove-clause-gone : goal.returns-in_err-remove-clause-gone
returns-in_err-remove-clause-gone g c = IfOk-from_err c.from_residual-in_err-remove.result _ c.from_residual-in_err-remove.ensures.0

pub returns-in_err-remove-clause-memory : goal.returns-in_err-remove-clause-memory
returns-in_err-remove-clause-memory g c = λ is. absurd (no_want c.from_residual-in_err-remove.result c.from_residual-in_err-remove.ensures.1
    is)

pub returns-in_err-remove-clause-held_still : goal.returns-in_err-remove-clause-held_still
returns-in_err-remove-clause-held_still g c = λ is s held.
    absurd (no_want c.from_residual-in_err-remove.result c.from_residual-in_err-remove.ensures.1 is)

pub returns-in_err-remove-clause-over_still : goal.returns-in_err-remove-clause-over_still
returns-in_err-remove-clause-over_still g c = λ is. absurd
    (no_want c.from_residual-in_err-remove.result c.from_residual-in_err-remove.ensures.1 is)

pub returns-in_err-remove-clause-measured_still : goal.returns-in_err-remove-clause-measured_still
returns-in_err-remove-clause-measured_still g c = λ is measured.
    absurd (no_want c.from_residual-in_err-remove.result c.from_residual-in_err-remove.ensures.1 is)

pub returns-in_err-remove-clause-closed : goal.returns-in_err-remove-clause-closed
returns-in_err-remove-clause-closed g c = λ is. refl

pub returns-in_err-remove-clause-later : goal.returns-in_err-remove-clause-later
returns-in_err-remove-clause-later g c = le_trans (le_trans c.write_log.ensures.later c.put_number.ensures.cause.later)
    c.remove.ensures.cause.later

pub returns-in_err-remove-clause-cause : goal.returns-in_err-remove-clause-cause
returns-in_err-remove-clause-cause g c = λ is. rose_later _ _ _ (le_trans c.write_log.ensures.later c.put_number.ensures.cause.later)
    (c.remove.ensures.cause.failed (ap is_err c.in_err-remove.was))

pub returns-clause-memory : goal.returns-clause-memory
returns-clause-memory g c = λ is. absurd (no_failure _ _ is)

pub returns-clause-held_still : goal.returns-clause-held_still
returns-clause-held_still g c = λ is s held. absurd (no_failure _ _ is)

pub returns-clause-over_still : goal.returns-clause-over_still
returns-clause-over_still g c = λ is. absurd (no_failure _ _ is)

pub returns-clause-measured_still : goal.returns-clause-measured_still
returns-clause-measured_still g c = λ is measured. absurd (no_failure _ _ is)

pub returns-clause-closed : goal.returns-clause-closed
returns-clause-closed g c = λ is. absurd (no_failure _ _ is)

pub returns-clause-cause : goal.returns-clause-cause
returns-clause-cause g c = λ is. absurd (no_failure _ _ is)

pub returns-clause-idle : goal.returns-clause-idle
returns-clause-idle g c = (
  c.go_over.ensures.parts ∙ c.requires.idle.0,
  (c.go_over.ensures.copies ∙ c.requires.idle.1.0, c.go_over.ensures.slots ∙ c.requires.idle.1.1),
)

pub returns-clause-number : goal.returns-clause-number
returns-clause-number g c = c.go_over.ensures.number

pub returns-clause-later : goal.returns-clause-later
returns-clause-later g c = le_trans (le_trans c.write_log.ensures.later c.put_number.ensures.cause.later) c.remove.ensures.cause.later

pub put_number-requires : goal.put_number-requires
put_number-requires g c =
    let over = c.requires.over in
    let written = subst (λ (f : File). ImagesStep g.D.Disk c.args.disk.now c.write_log.new.disk (Apart f)) c.log_file.ensures
    c.write_log.ensures.images in (
      over.checkpoints,
      omega (arith, over.counted),
      over_root g.D.Disk c.args.committer.now c.args.disk.now c.write_log.new.disk over
          written,
    )

pub returns-in-Err-clause-held_still : goal.returns-in-Err-clause-held_still
returns-in-Err-clause-held_still g c =
    λ is s held.
    let fits = g.B.ManifestState.fits in
    let committer = c.args.committer.now in
    let first = c.args.disk.now in
    let mid = c.write_log.new.disk in
    let next = c.log_file.ensures ∙ ap (λ (m : ℕ). log_file (m + 1)) held.committed.number in
    let written = subst (λ (f : File). ImagesStep g.D.Disk first mid (Apart f)) next c.write_log.ensures.images in
    subst (λ (k : Committer). Held g.D.Disk fits k mid s s)
    (sym (c.give_up.ensures.same (handed_on c.give_up.result c.in-Err.fault faults.NoMemory c.give_up.ensures.fault is)))
    (held_mid g.D.Disk fits committer first s held mid written)

pub returns-in-Err-clause-over_still : goal.returns-in-Err-clause-over_still
returns-in-Err-clause-over_still g c =
    λ is.
    let first = c.args.disk.now in
    let mid = c.write_log.new.disk in
    let written = subst (λ (f : File). ImagesStep g.D.Disk first mid (Apart f)) c.log_file.ensures c.write_log.ensures.images in
    subst (λ (k : Committer). LogsAtEnd g.D.Disk k mid)
    (sym (c.give_up.ensures.same (handed_on c.give_up.result c.in-Err.fault faults.NoMemory c.give_up.ensures.fault is)))
    (over_still g.D.Disk c.args.committer.now first mid c.requires.over written)

pub returns-in-Err-clause-measured_still : goal.returns-in-Err-clause-measured_still
returns-in-Err-clause-measured_still g c =
    λ is measured.
    let first = c.args.disk.now in
    let mid = c.write_log.new.disk in
    let written = subst (λ (f : File). ImagesStep g.D.Disk first mid (Apart f)) c.log_file.ensures c.write_log.ensures.images in
    let told = subst (λ (f : File). Told (Apart f) (g.D.Disk.seen first) (g.D.Disk.seen mid)) c.log_file.ensures c.write_log.ensures.seen in
    subst (λ (k : Committer). KnowsLogLength g.D.Disk k mid)
    (sym (c.give_up.ensures.same (handed_on c.give_up.result c.in-Err.fault faults.NoMemory c.give_up.ensures.fault is)))
    (measured_still g.D.Disk c.args.committer.now first mid c.requires.over written told measured)
