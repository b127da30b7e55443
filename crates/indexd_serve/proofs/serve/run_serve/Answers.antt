use Rattle.std.proofs.Common.{◌≡◌, take}
use Rattle.std.specs.Prelude.{Err}
use Rattle.ix_disk.proofs.Runs.{rose_later}
use Rattle.ix_sessions.specs.Connections.{turns_of, listened}
use Rattle.ix_sessions.proofs.Visiting.{safe_visits}
use Rattle.ix_run.specs.Giving.{given_all}
use Rattle.indexd_run.specs.Opened.{is_configured, course}
use Rattle.indexd_run.specs.declared.stop.Stop.TheVariants as stops
use Rattle.indexd_run.proofs.Joining.{front_has, begun_taken, shut_sound}
use Rattle.indexd_run.proofs.Undamaged.{seen_on}
use Rattle.indexd_serve.specs.Serving.{Connections}
use Rattle.indexd_serve.proofs.Opening.{served_behind}
use Rattle.indexd_serve.proofs.Ending.{same_ok}
use Rattle.indexd_serve.proofs.Placing.{store_gone}
use Rattle.ix_serve.proofs.Standing.{tells_on}
use Rattle.indexd_serve.proofs.serve.run_serve.Goals as goal

pub returns-clause-served : goal.returns-clause-served
returns-clause-served g c = λ past chooser taken begins image seen.
    let opened = c.in-Ok.ensures.opened past chooser taken begins image seen in
    let taken_now = begun_taken g.M.StoreMemory.takes g.met.M.StoreMemory.ticks_are_taken past.choose
    (take opened.count past.history) c.args.config
    (is_configured past.choose (take opened.count past.history) c.args.config) opened.configured
    c.requires.settings (front_has g.M.StoreMemory.takes opened.count past.history taken) opened.configures in
    let all = c.serve_open.ensures.connections past.choose (given_all past.choose (take opened.count past.history) opened.configured)
    opened.count chooser
    taken_now opened.hold in
    served_behind g.D.Disk g.M.StoreMemory.takes g.M.Book.ManifestState.fits g.M.StoreMemory.holds past c.args.config
    c.in-Ok.store (g.C.Clock.ahead c.args.clock.now) (g.C.Clock.ahead c.open.new.clock) c.args.disk.now c.open.new.disk opened
    (Connections g.D.Disk g.M.Book.ManifestState.fits c.args.requests c.serve_open.result
    (listened (g.L.Listener.waiting c.args.listener.now) (g.L.Listener.handed c.args.listener.now))
    (listened (g.L.Listener.waiting c.serve_open.new.listener) (g.L.Listener.handed c.serve_open.new.listener)))
    (turns_of all.1.1.visits) all.0 (g.C.Clock.ahead c.serve_open.new.clock) c.serve_open.new.disk
    (tells_on g.D.Disk _ c.args.disk.now c.open.new.disk c.open.ensures.told) all.1.0
    all.1.1.now_is all.1.1
    (safe_visits g.D.Disk g.M.Book.ManifestState.fits _ all.1.1.visits _ _ all.1.1.are) all.1.1.behind

pub returns-clause-unbroken : goal.returns-clause-unbroken
returns-clause-unbroken g c = λ file at is past chooser taken begins image seen.
    let mounted = seen_on _ (g.D.Disk.seen c.args.disk.now) (g.D.Disk.seen c.open.new.disk) image c.open.ensures.told seen in
    let opened = c.in-Ok.ensures.opened past chooser taken begins image seen in
    let taken_now = begun_taken g.M.StoreMemory.takes g.met.M.StoreMemory.ticks_are_taken past.choose
    (take opened.count past.history) c.args.config
    (is_configured past.choose (take opened.count past.history) c.args.config) opened.configured
    c.requires.settings (front_has g.M.StoreMemory.takes opened.count past.history taken) opened.configures in
    c.serve_open.ensures.unbroken file at (same_ok is) past.choose
    (given_all past.choose (take opened.count past.history) opened.configured) opened.count
    chooser taken_now opened.hold mounted.0 mounted.1

pub returns-clause-disk : goal.returns-clause-disk
returns-clause-disk g c = λ is. rose_later (g.D.Disk.faults c.args.disk.now) (g.D.Disk.faults c.open.new.disk)
    (g.D.Disk.faults c.serve_open.new.disk) c.open.ensures.later (c.serve_open.ensures.disk (same_ok is))

pub returns-clause-listener : goal.returns-clause-listener
returns-clause-listener g c = λ is. c.serve_open.ensures.listener (same_ok is)

pub returns-in-Err-clause-sound : goal.returns-in-Err-clause-sound
returns-in-Err-clause-sound g c = λ unsound past chooser taken begins image seen.
    shut_sound c.in-Err.stop g.D.Disk g.M.StoreMemory.takes _ past (course c.args.config _ _ c.args.disk.now c.open.new.disk)
    (cc (unsound)) (c.in-Err.ensures.stopped past chooser taken begins image seen)

pub returns-in-Err-clause-undamaged : goal.returns-in-Err-clause-undamaged
returns-in-Err-clause-undamaged g c = λ file at is.
    let was : c.open.result ≡ Err (stops.Damaged file at) = cc (is, c.in-Err.is) in
    c.open.ensures.undamaged file at was

pub returns-clause-told : goal.returns-clause-told
returns-clause-told g c = λ is. c.serve_open.ensures.told (tells_on g.D.Disk _ c.args.disk.now c.open.new.disk c.open.ensures.told is)

pub returns-in-Err-clause-told : goal.returns-in-Err-clause-told
returns-in-Err-clause-told g c = tells_on g.D.Disk _ c.args.disk.now c.open.new.disk c.open.ensures.told

pub returns-clause-placed : goal.returns-clause-placed
returns-clause-placed g c = λ file at is. store_gone g.D.Disk (g.M.StoreMemory.shown c.serve_open.new.store.memory)
    c.serve_open.new.disk file at (c.serve_open.ensures.placed file at (same_ok is))
