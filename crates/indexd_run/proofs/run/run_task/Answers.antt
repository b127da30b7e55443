use Rattle.std.proofs.Common.{rules, ◌≡◌, ◌∙◌, take, refl, ap, inl, inr, true, w64}
use Rattle.std.specs.Prelude.{Err}
use Rattle.std.proofs.lemmas.Int.{to_z-of_z}
use mir.Val.{SFits}
use Rattle.ix_run.specs.Giving.{given_all}
use Rattle.indexd_run.specs.Opened.{is_configured, course}
use Rattle.indexd_run.specs.declared.stop.Stop.{Stop}
use Rattle.indexd_run.specs.declared.stop.Stop.TheVariants as stops
use Rattle.indexd_run.proofs.Blaming.{once_mounted}
use Rattle.indexd_run.proofs.Joining.{front_has, begun_taken, done_when, halted_when, shut_sound}
use Rattle.ix_run.proofs.Stored.{all_taken}
use Rattle.indexd_run.specs.Stops.{is_output}
use Rattle.indexd_run.specs.Tasks.{orders_in}
use Rattle.indexd_run.proofs.Shortening.{ends_as, gave_taken}
use Rattle.indexd_run.proofs.Undamaged.{seen_on}
use Rattle.indexd_run.proofs.Tasks.{on_ok_by, at_ok, if_err_by, at_err}
use Rattle.indexd_run.proofs.run.run_task.Goals as goal

pub returns-in-Err-clause-stopped : goal.returns-in-Err-clause-stopped
returns-in-Err-clause-stopped g c = λ past chooser taken begins image seen.
    inl (c.in-Err.ensures.stopped past chooser taken begins image seen, refl)

pub returns-in-Err-clause-sound : goal.returns-in-Err-clause-sound
returns-in-Err-clause-sound g c = λ unsound past chooser taken begins image seen.
    shut_sound c.in-Err.stop g.D.Disk g.M.StoreMemory.takes _ past (course c.args.config _ _ c.args.disk.now c.open.new.disk)
    (cc (unsound)) (c.in-Err.ensures.stopped past chooser taken begins image seen)

pub returns-clause-done : goal.returns-clause-done
returns-clause-done g c = on_ok_by c.carry_out.result _ (λ done is. λ past chooser taken begins image seen.
    let fits : SFits w64 c.moment_of-moment.result = search rules in
    let opened = c.in-Ok.ensures.opened past chooser taken begins image seen in
    let taken_now = begun_taken g.M.StoreMemory.takes g.met.M.StoreMemory.ticks_are_taken past.choose
    (take opened.count past.history) c.args.config
    (is_configured past.choose (take opened.count past.history) c.args.config) opened.configured
    c.requires.settings (front_has g.M.StoreMemory.takes opened.count past.history taken) opened.configures in
    let now = given_all past.choose (take opened.count past.history) opened.configured in
    let printed = simp to_z-of_z at (at_ok c.carry_out.result done _ is c.carry_out.ensures.printed past.choose now opened.count chooser
    taken_now opened.hold) in
    let fine = simp to_z-of_z at (at_ok c.carry_out.result done _ is c.carry_out.ensures.fine past.choose now opened.count chooser taken_now
    opened.hold) in
    let ends = simp to_z-of_z at (c.carry_out.ensures.ends past.choose now opened.count chooser taken_now opened.hold) in
    done_when g.D.Disk _ g.M.StoreMemory.holds past c.args.config c.in-Ok.store (g.C.Clock.ahead c.args.clock.now)
    (g.C.Clock.ahead c.open.new.clock) c.args.disk.now c.open.new.disk c.carry_out.new.disk opened
    c.carry_out.new.store c.args.task c.moment_of-moment.result (g.C.Clock.ahead c.moment_of-moment.new.clock) c.moment_of-moment.ensures
    (g.W.Sink.given c.args.output.now) (g.W.Sink.given c.carry_out.new.output) c.carry_out.result done is fine printed ends
    g.M.StoreMemory.takes
    (λ orders moment are. all_taken g.M.StoreMemory.takes g.met.M.StoreMemory.ticks_are_taken past.choose now orders taken_now
    (gave_taken g.M.StoreMemory.takes true (orders_in c.args.task moment) orders (c.requires.takes moment) are)))

pub returns-clause-stopped : goal.returns-clause-stopped
returns-clause-stopped g c = if_err_by c.carry_out.result _ (λ stop is. λ past chooser taken begins image seen.
    let fits : SFits w64 c.moment_of-moment.result = search rules in
    let opened = c.in-Ok.ensures.opened past chooser taken begins image seen in
    let taken_now = begun_taken g.M.StoreMemory.takes g.met.M.StoreMemory.ticks_are_taken past.choose
    (take opened.count past.history) c.args.config
    (is_configured past.choose (take opened.count past.history) c.args.config) opened.configured
    c.requires.settings (front_has g.M.StoreMemory.takes opened.count past.history taken) opened.configures in
    let now = given_all past.choose (take opened.count past.history) opened.configured in
    let why = simp to_z-of_z at (at_err c.carry_out.result stop _ is c.carry_out.ensures.why past.choose now opened.count chooser taken_now
    opened.hold) in
    let ends = simp to_z-of_z at (c.carry_out.ensures.ends past.choose now opened.count chooser taken_now opened.hold) in
    inr (halted_when g.D.Disk _ g.M.StoreMemory.holds past c.args.config c.in-Ok.store (g.C.Clock.ahead c.args.clock.now)
    (g.C.Clock.ahead c.open.new.clock) c.args.disk.now c.open.new.disk c.carry_out.new.disk opened
    c.carry_out.new.store c.args.task c.moment_of-moment.result (g.C.Clock.ahead c.moment_of-moment.new.clock) c.moment_of-moment.ensures
    (g.W.Sink.given c.args.output.now) (g.W.Sink.given c.carry_out.new.output) c.carry_out.result stop is why
    (λ says. simp to_z-of_z at (at_err c.carry_out.result stop _ is c.carry_out.ensures.begun says past.choose now opened.count chooser
    taken_now
    opened.hold)) ends g.M.StoreMemory.takes
    (λ orders moment are. all_taken g.M.StoreMemory.takes g.met.M.StoreMemory.ticks_are_taken past.choose now orders taken_now
    (gave_taken g.M.StoreMemory.takes (is_output stop) (orders_in c.args.task moment) orders (c.requires.takes moment) are))))

pub returns-clause-sound : goal.returns-clause-sound
returns-clause-sound g c = λ unsound past chooser taken begins image seen.
    let opened = c.in-Ok.ensures.opened past chooser taken begins image seen in
    let taken_now = begun_taken g.M.StoreMemory.takes g.met.M.StoreMemory.ticks_are_taken past.choose
    (take opened.count past.history) c.args.config
    (is_configured past.choose (take opened.count past.history) c.args.config) opened.configured
    c.requires.settings (front_has g.M.StoreMemory.takes opened.count past.history taken) opened.configures in
    at_err c.carry_out.result stops.Inconsistent _ unsound c.carry_out.ensures.why past.choose
    (given_all past.choose (take opened.count past.history) opened.configured) opened.count chooser taken_now opened.hold

pub returns-in-Err-clause-undamaged : goal.returns-in-Err-clause-undamaged
returns-in-Err-clause-undamaged g c = λ file at is.
    let was : c.open.result ≡ Err (stops.Damaged file at) = cc (is, c.in-Err.is) in
    c.open.ensures.undamaged file at was

pub returns-clause-undamaged : goal.returns-clause-undamaged
returns-clause-undamaged g c = λ file at is past chooser taken begins image seen.
    let mounted = seen_on _ (g.D.Disk.seen c.args.disk.now) (g.D.Disk.seen c.open.new.disk) image c.open.ensures.told seen in
    let later = seen_on _ (g.D.Disk.seen c.open.new.disk) (g.D.Disk.seen c.carry_out.new.disk) mounted.0 c.carry_out.ensures.told mounted.1
    in
    let opened = c.in-Ok.ensures.opened past chooser taken begins image seen in
    let taken_now = begun_taken g.M.StoreMemory.takes g.met.M.StoreMemory.ticks_are_taken past.choose
    (take opened.count past.history) c.args.config
    (is_configured past.choose (take opened.count past.history) c.args.config) opened.configured
    c.requires.settings (front_has g.M.StoreMemory.takes opened.count past.history taken) opened.configures in
    c.carry_out.ensures.undamaged file at is past.choose (given_all past.choose (take opened.count past.history) opened.configured)
    opened.count chooser
    taken_now opened.hold later.0 later.1

pub returns-clause-short : goal.returns-clause-short
returns-clause-short g c = ends_as g.D.Disk _ c.carry_out.result c.args.disk.now c.carry_out.new.disk c.carry_out.ensures.short

pub returns-clause-blamed : goal.returns-clause-blamed
returns-clause-blamed g c = if_err_by c.carry_out.result _ (λ stop is.
    once_mounted g.D.Disk _ g.M.StoreMemory.gives_none c.args.disk.now c.carry_out.new.disk stop c.in-Ok.ensures.mounted
    (λ file at damaged. c.carry_out.ensures.placed file at (is ∙ ap (λ (s : Stop). Err s) damaged)))
