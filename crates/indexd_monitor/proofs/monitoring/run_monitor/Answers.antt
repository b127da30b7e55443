use Rattle.std.proofs.Common.{◌≡◌, ◌∙◌, Bool, sym, true, false, take, refl, ap, subst, inl, inr, true≢false}
use Rattle.std.specs.Prelude.{Result, Err}
use Rattle.ix_run.specs.Giving.{given_all}
use Rattle.indexd_run.specs.Opened.{is_configured, WhenOpen, HasRun, course}
use Rattle.indexd_run.specs.Stops.{loses_in, is_output, is_input}
use Rattle.indexd_run.specs.declared.stop.Stop.{Stop}
use Rattle.indexd_run.specs.declared.stop.Stop.TheVariants as stops
use Rattle.indexd_run.proofs.Blaming.{once_mounted}
use Rattle.indexd_run.proofs.Joining.{front_has, begun_taken, shut_sound}
use Rattle.indexd_run.proofs.Shortening.{ends_as}
use Rattle.indexd_run.proofs.Undamaged.{seen_on}
use Rattle.indexd_run.proofs.Tasks.{on_ok_by, if_err_by}
use Rattle.indexd_monitor.specs.Monitored.{HasMonitored}
use Rattle.indexd_monitor.proofs.Passed.{monitored_when, monitored_sound}
use Rattle.indexd_monitor.proofs.monitoring.run_monitor.Goals as goal

same_stop : {T : Type 0} {stop other : Stop} → ◌≡◌ {A = Result T Stop} (Err stop) (Err other) → stop ≡ other
same_stop is = cc

not_said : (test : Stop → Bool) (stop other : Stop) → test other ≡ true → test stop ≡ false → stop ≡ other → ⊥
not_said test stop other is not same = true≢false (sym (ap test same ∙ is) ∙ not)

pub returns-in-Err-clause-stopped : goal.returns-in-Err-clause-stopped
returns-in-Err-clause-stopped g c = λ past chooser taken begins image seen.
    inl (c.in-Err.ensures.stopped past chooser taken begins image seen, refl)

pub returns-in-Err-clause-sound : goal.returns-in-Err-clause-sound
returns-in-Err-clause-sound g c = λ unsound past chooser taken begins image seen.
    shut_sound c.in-Err.stop g.D.Disk g.M.StoreMemory.takes _ past (course c.args.config _ _ c.args.disk.now c.open.new.disk)
    (cc (unsound)) (c.in-Err.ensures.stopped past chooser taken begins image seen)

pub returns-clause-sound : goal.returns-clause-sound
returns-clause-sound g c = λ unsound past chooser taken begins image seen.
    let opened = c.in-Ok.ensures.opened past chooser taken begins image seen in
    let taken_now = begun_taken g.M.StoreMemory.takes g.met.M.StoreMemory.ticks_are_taken past.choose
    (take opened.count past.history) c.args.config
    (is_configured past.choose (take opened.count past.history) c.args.config) opened.configured
    c.requires.settings (front_has g.M.StoreMemory.takes opened.count past.history taken) opened.configures in
    let now = given_all past.choose (take opened.count past.history) opened.configured in
    monitored_sound g.D.Disk g.M.StoreMemory.takes _ g.M.StoreMemory.holds past.choose now opened.count c.in-Ok.store.run
    (g.T.Tree.files c.args.tree.now) c.args.watch.inputs.now c.args.watch.close (g.C.Clock.ahead c.open.new.clock)
    (g.C.Clock.ahead c.monitor_and_write.new.clock) (g.W.Sink.given c.args.output.now) (g.W.Sink.given c.monitor_and_write.new.output)
    c.monitor_and_write.new.store c.open.new.disk c.monitor_and_write.new.disk c.monitor_and_write.result unsound
    (c.monitor_and_write.ensures.ends past.choose now opened.count chooser taken_now opened.hold)

pub returns-clause-done : goal.returns-clause-done
returns-clause-done g c = on_ok_by c.monitor_and_write.result _ (λ done is. λ past chooser taken begins image seen.
    let opened = c.in-Ok.ensures.opened past chooser taken begins image seen in
    let taken_now = begun_taken g.M.StoreMemory.takes g.met.M.StoreMemory.ticks_are_taken past.choose
    (take opened.count past.history) c.args.config
    (is_configured past.choose (take opened.count past.history) c.args.config) opened.configured
    c.requires.settings (front_has g.M.StoreMemory.takes opened.count past.history taken) opened.configures in
    let now = given_all past.choose (take opened.count past.history) opened.configured in
    let may = HasMonitored past.choose (g.T.Tree.files c.args.tree.now) c.args.watch.inputs.now c.args.watch.close
    c.monitor_and_write.result (g.C.Clock.ahead c.monitor_and_write.new.clock) (g.W.Sink.given c.args.output.now)
    (g.W.Sink.given c.monitor_and_write.new.output) in
    subst (λ (lost : Bool). HasRun lost g.D.Disk g.M.StoreMemory.takes g.M.Book.ManifestState.fits past
    (WhenOpen past.choose c.args.config (g.C.Clock.ahead c.args.clock.now) may) c.args.disk.now c.monitor_and_write.new.disk)
    (ap loses_in is)
    (monitored_when g.D.Disk g.M.StoreMemory.takes g.met.M.StoreMemory.ticks_are_taken _ g.M.StoreMemory.holds past c.args.config
    c.in-Ok.store c.monitor_and_write.new.store (g.C.Clock.ahead c.args.clock.now) (g.C.Clock.ahead c.open.new.clock) c.args.disk.now
    c.open.new.disk c.monitor_and_write.new.disk opened taken_now may (loses_in c.monitor_and_write.result)
    (c.monitor_and_write.ensures.ends past.choose now opened.count chooser taken_now opened.hold)))

pub returns-clause-stopped : goal.returns-clause-stopped
returns-clause-stopped g c = if_err_by c.monitor_and_write.result _ (λ stop is. λ past chooser taken begins image seen.
    let opened = c.in-Ok.ensures.opened past chooser taken begins image seen in
    let taken_now = begun_taken g.M.StoreMemory.takes g.met.M.StoreMemory.ticks_are_taken past.choose
    (take opened.count past.history) c.args.config
    (is_configured past.choose (take opened.count past.history) c.args.config) opened.configured
    c.requires.settings (front_has g.M.StoreMemory.takes opened.count past.history taken) opened.configures in
    let now = given_all past.choose (take opened.count past.history) opened.configured in
    let may = HasMonitored past.choose (g.T.Tree.files c.args.tree.now) c.args.watch.inputs.now c.args.watch.close
    c.monitor_and_write.result (g.C.Clock.ahead c.monitor_and_write.new.clock) (g.W.Sink.given c.args.output.now)
    (g.W.Sink.given c.monitor_and_write.new.output) in
    inr (subst (λ (lost : Bool). HasRun lost g.D.Disk g.M.StoreMemory.takes g.M.Book.ManifestState.fits past
    (WhenOpen past.choose c.args.config (g.C.Clock.ahead c.args.clock.now) may) c.args.disk.now c.monitor_and_write.new.disk)
    (ap loses_in is)
    (monitored_when g.D.Disk g.M.StoreMemory.takes g.met.M.StoreMemory.ticks_are_taken _ g.M.StoreMemory.holds past c.args.config
    c.in-Ok.store c.monitor_and_write.new.store (g.C.Clock.ahead c.args.clock.now) (g.C.Clock.ahead c.open.new.clock) c.args.disk.now
    c.open.new.disk c.monitor_and_write.new.disk opened taken_now may (loses_in c.monitor_and_write.result)
    (c.monitor_and_write.ensures.ends past.choose now opened.count chooser taken_now opened.hold))))

pub returns-in-Err-clause-undamaged : goal.returns-in-Err-clause-undamaged
returns-in-Err-clause-undamaged g c = λ file at is.
    let was : c.open.result ≡ Err (stops.Damaged file at) = cc (is, c.in-Err.is) in
    c.open.ensures.undamaged file at was

pub returns-clause-undamaged : goal.returns-clause-undamaged
returns-clause-undamaged g c = λ file at is past chooser taken begins image seen.
    let mounted = seen_on _ (g.D.Disk.seen c.args.disk.now) (g.D.Disk.seen c.open.new.disk) image c.open.ensures.told seen in
    let later = seen_on _ (g.D.Disk.seen c.open.new.disk) (g.D.Disk.seen c.monitor_and_write.new.disk) mounted.0
    c.monitor_and_write.ensures.told mounted.1 in
    let opened = c.in-Ok.ensures.opened past chooser taken begins image seen in
    let taken_now = begun_taken g.M.StoreMemory.takes g.met.M.StoreMemory.ticks_are_taken past.choose
    (take opened.count past.history) c.args.config
    (is_configured past.choose (take opened.count past.history) c.args.config) opened.configured
    c.requires.settings (front_has g.M.StoreMemory.takes opened.count past.history taken) opened.configures in
    c.monitor_and_write.ensures.undamaged file at is past.choose
    (given_all past.choose (take opened.count past.history) opened.configured) opened.count
    chooser taken_now opened.hold later.0 later.1

pub returns-clause-short : goal.returns-clause-short
returns-clause-short g c = ends_as g.D.Disk _ c.monitor_and_write.result c.args.disk.now c.monitor_and_write.new.disk
    c.monitor_and_write.ensures.short

pub returns-clause-blamed : goal.returns-clause-blamed
returns-clause-blamed g c = if_err_by c.monitor_and_write.result _ (λ stop is.
    once_mounted g.D.Disk _ g.M.StoreMemory.gives_none c.args.disk.now c.monitor_and_write.new.disk stop c.in-Ok.ensures.mounted
    (λ file at damaged. c.monitor_and_write.ensures.placed file at (is ∙ ap (λ (s : Stop). Err s) damaged)))

pub returns-in-Err-clause-input : goal.returns-in-Err-clause-input
returns-in-Err-clause-input g c = λ is. absurd (not_said is_input c.in-Err.stop stops.Input refl c.in-Err.ensures.unread (same_stop is))

pub returns-in-Err-clause-finite : goal.returns-in-Err-clause-finite
returns-in-Err-clause-finite g c = λ is. not_said is_input c.in-Err.stop stops.Endless refl c.in-Err.ensures.unread (same_stop is)

pub returns-in-Err-clause-output : goal.returns-in-Err-clause-output
returns-in-Err-clause-output g c = λ is. absurd (not_said is_output c.in-Err.stop stops.Output refl c.in-Err.ensures.quiet (same_stop is))
