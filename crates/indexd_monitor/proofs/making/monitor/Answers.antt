use Rattle.std.proofs.Common.{◌≡◌, ◌∙◌, ap, sym, subst, true, false, refl, le_refl, true≢false, List, ℕ}
use Rattle.std.specs.Prelude.{Some, Result, Ok, Err}
use Rattle.ix_base.specs.Faults.{Rose}
use Rattle.ix_base.specs.declared.files.File.{File}
use Rattle.ix_commit.proofs.Reading.{anyhow_through}
use Rattle.ix_disk.proofs.Runs.{rose_later}
use Rattle.ix_run.proofs.Stored.{all_taken}
use Rattle.indexd_run.proofs.Blaming.{place_still}
use Rattle.indexd_run.proofs.Shortening.{by_end, by_fault, damaged_end, ends_short, stopped_short, rose_by_end}
use Rattle.indexd_run.specs.Opened.{giving}
use Rattle.indexd_run.specs.Shortened.{is_short_at, IsOfCheckpoint}
use Rattle.indexd_run.specs.Stops.{loses, is_output}
use Rattle.indexd_run.specs.declared.stop.Stop.{Stop}
use Rattle.indexd_run.specs.declared.stop.Stop.TheVariants as stops
use Rattle.indexd_monitor.proofs.Visited.{short_end, other_end}
use Rattle.indexd_monitor.specs.Monitored.{HasText, HasVisited, AndTaken}
use Rattle.indexd_monitor.proofs.making.monitor.Goals as goal

not_short : (stop : Stop) → IsOfCheckpoint stop → is_short_at stop ≡ true → ⊥
not_short stop why short = by_fault (λ (s : Stop). is_short_at s ≡ true →
    ⊥) stop (λ e. true≢false (sym e)) (λ e. true≢false (sym e)) why short

not_blamed : (stop : Stop) (file : File) (at : ℕ) → IsOfCheckpoint stop → stop ≡ stops.Damaged file at → ⊥
not_blamed stop file at why is = by_fault (λ (s : Stop). s ≡ stops.Damaged file at → ⊥) stop (λ e. cc) (λ e. cc) why is

not_input : (stop : Stop) → IsOfCheckpoint stop → stop ≡ stops.Input → ⊥
not_input stop why is = by_fault (λ (s : Stop). s ≡ stops.Input → ⊥) stop (λ e. cc) (λ e. cc) why is

not_endless : (stop : Stop) → IsOfCheckpoint stop → stop ≡ stops.Endless → ⊥
not_endless stop why is = by_fault (λ (s : Stop). s ≡ stops.Endless → ⊥) stop (λ e. cc) (λ e. cc) why is

same_stop : {T : Type 0} {stop other : Stop} → ◌≡◌ {A = Result T Stop} (Err stop) (Err other) → stop ≡ other
same_stop is = cc

-- ---- the pass is done

pub returns-in-Ok-make_short-clause-ends : goal.returns-in-Ok-make_short-clause-ends
returns-in-Ok-make_short-clause-ends g c = λ choose h base chooser taken hold.
    let visited = HasVisited {T = List ℕ} choose (g.T.Tree.files c.args.tree.now) c.args.watch.inputs.now c.args.watch.close
    (Ok c.in-Ok.text) (HasText (Ok c.in-Ok.text)) (g.C.Clock.ahead c.make_pass.new.clock) in
    let may = AndTaken g.M.StoreMemory.takes visited base (g.C.Clock.ahead c.args.clock.now) h in
    ends_short g.D.Disk _ c.args.store.now.run g.M.StoreMemory.holds g.M.StoreMemory.takes choose h base c.make_pass.new.store
    c.make_short.new.store c.args.disk.now c.make_pass.new.disk c.make_short.new.disk
    c.make_short.ensures.run (λ now all held. c.make_short.ensures.images choose now base chooser all held) false may may
    (λ orders was. was)
    (λ orders was. all_taken g.M.StoreMemory.takes g.met.M.StoreMemory.ticks_are_taken choose h orders taken was.1)
    (λ kept now all held. c.in-Ok-make_short.ensures.held kept choose now base chooser all held)
    (c.in-Ok.ensures.ends choose h base chooser taken hold)

pub returns-in-Ok-make_short-clause-short : goal.returns-in-Ok-make_short-clause-short
returns-in-Ok-make_short-clause-short g c = λ ok. c.in-Ok-make_short.ensures.short

pub returns-in-Ok-make_short-clause-told : goal.returns-in-Ok-make_short-clause-told
returns-in-Ok-make_short-clause-told g c = anyhow_through (g.D.Disk.seen c.args.disk.now) (g.D.Disk.seen c.make_pass.new.disk)
    (g.D.Disk.seen c.make_short.new.disk) c.make_pass.ensures.told c.make_short.ensures.told

-- ---- the log is not made short

pub returns-in-Err-make_short-clause-ends : goal.returns-in-Err-make_short-clause-ends
returns-in-Err-make_short-clause-ends g c = λ choose h base chooser taken hold.
    let visited = HasVisited {T = List ℕ} choose (g.T.Tree.files c.args.tree.now) c.args.watch.inputs.now c.args.watch.close
    (Ok c.in-Ok.text) (HasText (Ok c.in-Ok.text)) (g.C.Clock.ahead c.make_pass.new.clock) in
    let behind = HasVisited {T = List ℕ} choose (g.T.Tree.files c.args.tree.now) c.args.watch.inputs.now c.args.watch.close
    (Err c.in-Err-make_short.stop) (HasText (Err c.in-Err-make_short.stop)) (g.C.Clock.ahead c.make_pass.new.clock) in
    ends_short g.D.Disk _ c.args.store.now.run g.M.StoreMemory.holds g.M.StoreMemory.takes choose h base c.make_pass.new.store
    c.make_short.new.store c.args.disk.now c.make_pass.new.disk c.make_short.new.disk
    c.make_short.ensures.run (λ now all held. c.make_short.ensures.images choose now base chooser all held)
    (loses c.in-Err-make_short.stop)
    (AndTaken g.M.StoreMemory.takes visited base (g.C.Clock.ahead c.args.clock.now) h)
    (AndTaken g.M.StoreMemory.takes behind base (g.C.Clock.ahead c.args.clock.now) h)
    (λ orders was. (
      short_end choose (g.T.Tree.files c.args.tree.now) c.args.watch.inputs.now c.args.watch.close (g.C.Clock.ahead c.make_pass.new.clock)
          (giving base (g.C.Clock.ahead c.args.clock.now) h orders) c.in-Ok.text c.in-Err-make_short.stop
          c.in-Err-make_short.ensures.faults was.0,
      was.1,
    ))
    (λ orders was. all_taken g.M.StoreMemory.takes g.met.M.StoreMemory.ticks_are_taken choose h orders taken was.1)
    (λ kept now all held. c.in-Err-make_short.ensures.held kept choose now base chooser all held)
    (c.in-Ok.ensures.ends choose h base chooser taken hold)

pub returns-in-Err-make_short-clause-short : goal.returns-in-Err-make_short-clause-short
returns-in-Err-make_short-clause-short g c = λ ok. absurd (not_short c.in-Err-make_short.stop c.in-Err-make_short.ensures.faults ok)

pub returns-in-Err-make_short-clause-undamaged : goal.returns-in-Err-make_short-clause-undamaged
returns-in-Err-make_short-clause-undamaged g c = λ file at is.
    absurd (not_blamed c.in-Err-make_short.stop file at c.in-Err-make_short.ensures.faults (same_stop is))

pub returns-in-Err-make_short-clause-placed : goal.returns-in-Err-make_short-clause-placed
returns-in-Err-make_short-clause-placed g c = λ file at is.
    absurd (not_blamed c.in-Err-make_short.stop file at c.in-Err-make_short.ensures.faults (same_stop is))

pub returns-in-Err-make_short-clause-told : goal.returns-in-Err-make_short-clause-told
returns-in-Err-make_short-clause-told g c = anyhow_through (g.D.Disk.seen c.args.disk.now) (g.D.Disk.seen c.make_pass.new.disk)
    (g.D.Disk.seen c.make_short.new.disk) c.make_pass.ensures.told c.make_short.ensures.told

pub returns-in-Err-make_short-clause-cause : goal.returns-in-Err-make_short-clause-cause
returns-in-Err-make_short-clause-cause g c = λ is.
    rose_later (g.D.Disk.faults c.args.disk.now) (g.D.Disk.faults c.make_pass.new.disk) (g.D.Disk.faults c.make_short.new.disk)
    c.make_pass.ensures.later (c.make_short.ensures.cause (c.in-Err-make_short.is ∙ ap (λ (s : Stop). Err s) (same_stop is)))

pub returns-in-Err-make_short-clause-quiet : goal.returns-in-Err-make_short-clause-quiet
returns-in-Err-make_short-clause-quiet g c =
    by_fault (λ (stop : Stop). is_output stop ≡ false) c.in-Err-make_short.stop refl refl c.in-Err-make_short.ensures.faults

pub returns-in-Err-make_short-clause-input : goal.returns-in-Err-make_short-clause-input
returns-in-Err-make_short-clause-input g c = λ is.
    absurd (not_input c.in-Err-make_short.stop c.in-Err-make_short.ensures.faults (same_stop is))

pub returns-in-Err-make_short-clause-finite : goal.returns-in-Err-make_short-clause-finite
returns-in-Err-make_short-clause-finite g c = λ is.
    not_endless c.in-Err-make_short.stop c.in-Err-make_short.ensures.faults (same_stop is)

-- ---- the pass is stopped

pub returns-in-Err-clause-ends : goal.returns-in-Err-clause-ends
returns-in-Err-clause-ends g c = λ choose h base chooser taken hold.
    let visited = HasVisited {T = List ℕ} choose (g.T.Tree.files c.args.tree.now) c.args.watch.inputs.now c.args.watch.close
    (Err c.in-Err.stop) (HasText (Err c.in-Err.stop)) (g.C.Clock.ahead c.make_pass.new.clock) in
    let behind = HasVisited {T = List ℕ} choose (g.T.Tree.files c.args.tree.now) c.args.watch.inputs.now c.args.watch.close
    (Err c.stop_run.result) (HasText (Err c.stop_run.result)) (g.C.Clock.ahead c.make_pass.new.clock) in
    stopped_short g.D.Disk _ c.args.store.now.run g.M.StoreMemory.holds g.M.StoreMemory.takes choose h base c.make_pass.new.store
    c.stop_run.new.store c.args.disk.now c.make_pass.new.disk c.stop_run.new.disk c.in-Err.stop c.stop_run.result
    (AndTaken g.M.StoreMemory.takes visited base (g.C.Clock.ahead c.args.clock.now) h)
    (AndTaken g.M.StoreMemory.takes behind base (g.C.Clock.ahead c.args.clock.now) h)
    (λ orders was. (
      other_end choose (g.T.Tree.files c.args.tree.now) c.args.watch.inputs.now c.args.watch.close (g.C.Clock.ahead c.make_pass.new.clock)
          (giving base (g.C.Clock.ahead c.args.clock.now) h orders) c.in-Err.stop c.stop_run.result c.stop_run.ensures.why was.0,
      was.1,
    ))
    (λ orders was. all_taken g.M.StoreMemory.takes g.met.M.StoreMemory.ticks_are_taken choose h orders taken was.1)
    c.stop_run.ensures.run c.stop_run.ensures.closed (λ kept now all held. c.stop_run.ensures.images kept choose now base chooser all held)
    (λ kept also now all held. c.stop_run.ensures.held kept also choose now base chooser all held)
    (c.in-Err.ensures.ends choose h base chooser taken hold)

pub returns-in-Err-clause-undamaged : goal.returns-in-Err-clause-undamaged
returns-in-Err-clause-undamaged g c = λ file at is choose h base chooser taken hold image seen.
    let blamed = damaged_end c.in-Err.stop c.stop_run.result file at c.stop_run.ensures.why is in
    let same = c.stop_run.ensures.closed (ap loses blamed) in
    c.make_pass.ensures.undamaged file at (c.in-Err.is ∙ ap (λ (s : Stop). Err s) blamed) choose h base chooser taken hold image
    (subst (λ d. g.D.Disk.seen d ≡ Some image) same.1.1 seen)

pub returns-in-Err-clause-placed : goal.returns-in-Err-clause-placed
returns-in-Err-clause-placed g c = λ file at is.
    let blamed = damaged_end c.in-Err.stop c.stop_run.result file at c.stop_run.ensures.why is in
    place_still g.D.Disk c.make_pass.new.disk c.stop_run.new.disk file at (c.stop_run.ensures.closed (ap loses blamed)).1.1
    (c.make_pass.ensures.placed file at (c.in-Err.is ∙ ap (λ (s : Stop). Err s) blamed))

pub returns-in-Err-clause-told : goal.returns-in-Err-clause-told
returns-in-Err-clause-told g c = anyhow_through (g.D.Disk.seen c.args.disk.now) (g.D.Disk.seen c.make_pass.new.disk)
    (g.D.Disk.seen c.stop_run.new.disk) c.make_pass.ensures.told c.stop_run.ensures.told

pub returns-in-Err-clause-cause : goal.returns-in-Err-clause-cause
returns-in-Err-clause-cause g c = λ is.
    rose_by_end (g.D.Disk.faults c.args.disk.now) (g.D.Disk.faults c.args.disk.now) (g.D.Disk.faults c.make_pass.new.disk)
    (g.D.Disk.faults c.stop_run.new.disk) c.in-Err.stop (le_refl (g.D.Disk.faults c.args.disk.now)) c.make_pass.ensures.later
    c.stop_run.ensures.later
    (λ stop. c.make_pass.ensures.cause (c.in-Err.is ∙ ap (λ (s : Stop). Err s) stop)) (c.stop_run.ensures.cause (same_stop is))

pub returns-in-Err-clause-quiet : goal.returns-in-Err-clause-quiet
returns-in-Err-clause-quiet g c =
    by_end (λ (stop : Stop). is_output stop ≡ false) c.in-Err.stop c.stop_run.result c.in-Err.ensures.quiet refl refl c.stop_run.ensures.why

pub returns-in-Err-clause-input : goal.returns-in-Err-clause-input
returns-in-Err-clause-input g c = λ is.
    by_end (λ (stop : Stop). stop ≡ stops.Input → Rose (g.T.Tree.faults c.args.tree.now) (g.T.Tree.faults c.make_pass.new.tree))
    c.in-Err.stop c.stop_run.result
    (λ stop. c.make_pass.ensures.input (c.in-Err.is ∙ ap (λ (s : Stop). Err s) stop)) (λ stop. absurd (cc)) (λ stop. absurd (cc))
    c.stop_run.ensures.why (same_stop is)

pub returns-in-Err-clause-finite : goal.returns-in-Err-clause-finite
returns-in-Err-clause-finite g c = λ is.
    by_end (λ (stop : Stop). stop ≡ stops.Endless → ⊥) c.in-Err.stop c.stop_run.result
    (λ stop. c.make_pass.ensures.finite (c.in-Err.is ∙ ap (λ (s : Stop). Err s) stop)) (λ stop. cc) (λ stop. cc)
    c.stop_run.ensures.why (same_stop is)
