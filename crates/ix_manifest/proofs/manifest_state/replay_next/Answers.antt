use Rattle.std.proofs.Common.{rules, ◌≡◌, ◌<◌, ℕ, List, length, Err, Bool, true, subst, sym, ◌∙◌, inl, inr}
use Rattle.std.proofs.lemmas.Result.{err_from_is_err_and}
use Rattle.ix_items.specs.declared.items.ItemFault.TheVariants as items
use Rattle.ix_base.specs.declared.files.File.{File}
use Rattle.ix_disk.specs.Image.{bytes_in}
use Rattle.ix_log.specs.declared.log.LogFault.TheVariants as logs
use Rattle.ix_manifest.specs.Book.{IsBody}
use Rattle.ix_manifest.specs.Root.{Taken}
use Rattle.ix_manifest.specs.Replaying.{HasApplied, HasBadBody, IsDamaged, as_replay}
use Rattle.ix_manifest.specs.declared.manifest_state.ReplayFault.TheVariants as faults
use Rattle.ix_manifest.proofs.Replays.{on_true, log_damaged, read_bad, replaying_more}
use Rattle.ix_manifest.proofs.manifest_state.replay_next.Goals as goal

gate_is : (a b : ℕ) → IsDamaged {T = Bool} (Err (faults.Damaged b)) a → a ≡ b
gate_is a b is = cc

pub returns-in_err-more-clause-damaged : goal.returns-in_err-more-clause-damaged
returns-in_err-more-clause-damaged g c = λ start first count replaying at is image told.
    let p = err_from_is_err_and c.from_residual.result c.from_residual.ensures.1 in
    let p1 = p.1 in
    let p2 = p.2 in
    let fault : as_replay c.in_err-more.field-0.0 ≡ faults.Damaged at = cc in
    let named = log_damaged c.in_err-more.field-0.0 at fault in
    let w : c.next.result ≡ Err c.in_err-more.field-0.0 = c.in_err-more.was in
    let was : c.next.result ≡ Err (logs.Damaged at) = cc in
    let cut = c.next.ensures.damaged replaying.bodies replaying.reading at was image told in
    record {
      bodies = replaying.bodies;
      mid = g.B.ManifestState.stands c.args.state.now;
      place = cut.0;
      fit = (replaying.reading.reads image told).fit;
      replayed = replaying.replayed;
      bad = inl cut.1;
    }

pub returns-in-Ok-clause-more : goal.returns-in-Ok-clause-more
returns-in-Ok-clause-more g c = λ start first count replaying.
    let more : c.in_ok-more.more ≡ true = search rules in
    let reading = on_true c.in_ok-more.more _ _ more (c.in_ok-more.ensures.next replaying.bodies replaying.reading) in
    let applied = subst (λ (b : List ℕ). HasApplied b (g.B.ManifestState.stands c.args.state.now)
    (g.B.ManifestState.stands c.take_body.new.state)) c.as_slice.ensures c.in-Ok.ensures.replayed in
    replaying_more g.D.Disk (Taken g.B.ManifestState.fits c.args.current) c.next.new.self c.next.new.disk replaying.bodies c.next.new.out
    start (g.B.ManifestState.stands c.args.state.now) (g.B.ManifestState.stands c.take_body.new.state) first count
    reading replaying.replayed applied (subst (λ (b : List ℕ). 0 < length b) c.as_slice.ensures c.in-Ok.ensures.some) c.in-Ok.ensures.fits
    replaying.counted replaying.measured

pub returns-in-Err-BadItem-clause-damaged : goal.returns-in-Err-BadItem-clause-damaged
returns-in-Err-BadItem-clause-damaged g c = λ start first count replaying at is image told.
    let more : c.in_ok-more.more ≡ true = search rules in
    let reading = on_true c.in_ok-more.more _ _ more (c.in_ok-more.ensures.next replaying.bodies replaying.reading) in
    let w1 = c.in-Err-BadItem.is in
    let w2 = c.in-Err-BadItem.field-0-is in
    let was : c.take_body.result ≡ Err items.BadItem = cc in
    let named : at ≡ c.place-at.result = gate_is at c.place-at.result is in
    let mid = g.B.ManifestState.stands c.args.state.now in
    let bad = read_bad g.D.Disk (Taken g.B.ManifestState.fits c.args.current) c.next.new.self c.next.new.disk image (c.next.ensures.same
    ∙ told) replaying.bodies c.next.new.out mid reading
    (λ items body fit. c.take_body.ensures.bad was items (subst (λ (b : List ℕ). IsBody items b) (sym c.as_slice.ensures) body) fit) in
    record {
      bodies = replaying.bodies;
      mid = mid;
      place = named ∙ c.place-at.ensures ∙ replaying.reading.place;
      fit = (replaying.reading.reads image told).fit;
      replayed = replaying.replayed;
      bad = inr (subst (λ (f : File). HasBadBody (Taken g.B.ManifestState.fits c.args.current) replaying.bodies mid (bytes_in image f))
          c.next.ensures.file bad);
    }
