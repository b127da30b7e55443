use Rattle.std.proofs.Common.{rules, ◌≡◌, ◌≢◌, ◌+◌, ℕ, Err, Bool, true, subst, sym, ◌∙◌, inl}
use Rattle.std.specs.Int.{to_be_bytes, w64}
use Rattle.std.proofs.lemmas.Result.{err_from_is_err_and}
use Rattle.ix_base.specs.declared.files.File.{File}
use Rattle.ix_disk.specs.Image.{bytes_in}
use Rattle.ix_log.specs.declared.log.LogFault.TheVariants as logs
use Rattle.ix_manifest.specs.Root.{IsBadRoot}
use Rattle.ix_manifest.specs.Replaying.{IsDamaged, as_replay}
use Rattle.ix_manifest.specs.declared.manifest_state.ReplayFault.TheVariants as faults
use Rattle.ix_manifest.proofs.Replays.{on_true, log_damaged}
use Rattle.ix_manifest.proofs.Numbers.{reading_more, bad_number, told_same, told_other}
use Rattle.ix_manifest.proofs.root.next_number.Goals as goal

gate_is : (a b : ℕ) → IsDamaged {T = Bool} (Err (faults.Damaged b)) a → a ≡ b
gate_is a b is = cc

pub returns-in_err-more-clause-damaged : goal.returns-in_err-more-clause-damaged
returns-in_err-more-clause-damaged g c = λ k number reading at is image told.
    let p = err_from_is_err_and c.from_residual.result c.from_residual.ensures.1 in
    let p1 = p.1 in
    let p2 = p.2 in
    let fault : as_replay c.in_err-more.field-0.0 ≡ faults.Damaged at = cc in
    let named = log_damaged c.in_err-more.field-0.0 at fault in
    let w : c.next.result ≡ Err c.in_err-more.field-0.0 = c.in_err-more.was in
    let was : c.next.result ≡ Err (logs.Damaged at) = cc in
    let cut = c.next.ensures.damaged _ reading at was image told in
    record { checkpoints = k; place = cut.0; bad = inl cut.1 }

pub returns-then-ne-clause-damaged : goal.returns-then-ne-clause-damaged
returns-then-ne-clause-damaged g c = λ k number reading at is image told.
    let more : c.in_ok-more.more ≡ true = search rules in
    let read = on_true c.in_ok-more.more _ _ more (c.in_ok-more.ensures.next _ reading) in
    let named : at ≡ c.place-at.result = gate_is at c.place-at.result is in
    let differ = told_other c.ne.result c.as_slice.result.now c.as_slice-2.result.now c.ne.ensures c.if-ne.true in
    let ne : c.next.new.out ≢ to_be_bytes w64 (c.args.number + 1) =
    λ same. differ (c.as_slice.ensures ∙ same ∙ sym (c.as_slice-2.ensures ∙ c.to_be_bytes-next.ensures)) in
    subst (λ (f : File). IsBadRoot at (bytes_in image f)) c.next.ensures.file
    (bad_number g.D.Disk c.next.new.self c.next.new.disk image (c.next.ensures.same
    ∙ told) k c.args.number at c.next.new.out number ne (named ∙ c.place-at.ensures ∙ reading.place) read)

pub returns-clause-more : goal.returns-clause-more
returns-clause-more g c = λ k number reading.
    let more : c.in_ok-more.more ≡ true = search rules in
    let read = on_true c.in_ok-more.more _ _ more (c.in_ok-more.ensures.next _ reading) in
    let same = told_same c.ne.result c.as_slice.result.now c.as_slice-2.result.now c.ne.ensures c.if-ne.false in
    let is : c.next.new.out ≡ to_be_bytes w64 (c.args.number + 1) = sym c.as_slice.ensures ∙ same ∙ c.as_slice-2.ensures
    ∙ c.to_be_bytes-next.ensures in
    reading_more g.D.Disk c.next.new.self c.next.new.disk k c.args.number c.next.new.out number is read
