use Rattle.std.proofs.Common.{◌∙◌, arith, length, sym}
use Rattle.ix_disk.proofs.Runs.{rose_later}
use Rattle.ix_sessions.specs.Connections.{turns_of, listened}
use Rattle.ix_serve.specs.Kinds.{kind}
use Rattle.ix_sessions.specs.Feeding.{history_after, start}
use Rattle.indexd_serve.proofs.Behind.{connections_closed, connections_behind, closed_served, short_served, damaged_heard}
use Rattle.indexd_serve.proofs.Behind.{undamaged_served, disk_heard, disk_served, listener_heard, listener_served}
use Rattle.indexd_serve.proofs.Reading.{hears_closed, hears_behind}
use Rattle.ix_serve.proofs.Standing.{tells_on}
use Rattle.indexd_serve.proofs.serve.serve_open.Goals as goal

pub returns-then-not-is_open-clause-connections : goal.returns-then-not-is_open-clause-connections
returns-then-not-is_open-clause-connections g c = λ choose h base chooser taken hold.
    let all = c.run_serve-end in
    connections_closed g.D.Disk (kind g.M.StoreMemory.takes g.M.Book.ManifestState.fits g.M.StoreMemory.holds)
    (start choose h base (length h) c.args.store.now.run c.args.disk.now) c.args.requests all.result
    (listened (g.L.Listener.waiting c.args.listener.now) (g.L.Listener.handed c.args.listener.now))
    (listened (g.L.Listener.waiting all.new.listener) (g.L.Listener.handed all.new.listener))
    (g.C.Clock.ahead c.args.clock.now) (g.C.Clock.ahead all.new.clock) all.new.store all.new.disk
    (all.ensures.listens choose h base _ chooser taken hold) c.heard_end.result c.heard_end.ensures

pub returns-then-not-is_open-clause-unbroken : goal.returns-then-not-is_open-clause-unbroken
returns-then-not-is_open-clause-unbroken g c = λ file at is choose h base chooser taken hold image seen.
    let later = c.run_serve-end.ensures.told (image, seen) in
    (c.run_serve-end.ensures.listens choose h base _ chooser taken hold).undamaged file at
    (damaged_heard c.run_serve-end.result file at (sym c.heard_end.ensures ∙ is)) later.0 later.1

pub returns-then-not-is_open-clause-short : goal.returns-then-not-is_open-clause-short
returns-then-not-is_open-clause-short g c = λ is. absurd
    (closed_served c.run_serve-end.result c.heard_end.result (sym c.is_open.ensures ∙ c.if-not-is_open.true) c.heard_end.ensures is)

pub returns-then-not-is_open-clause-listener : goal.returns-then-not-is_open-clause-listener
returns-then-not-is_open-clause-listener g c = λ is. c.run_serve-end.ensures.comes.by_listener
    (listener_heard c.run_serve-end.result (sym c.heard_end.ensures ∙ is))

pub returns-then-not-is_open-clause-disk : goal.returns-then-not-is_open-clause-disk
returns-then-not-is_open-clause-disk g c = λ is. c.run_serve-end.ensures.comes.by_disk
    (disk_heard c.run_serve-end.result (sym c.heard_end.ensures ∙ is))

pub returns-clause-connections : goal.returns-clause-connections
returns-clause-connections g c = λ choose h base chooser taken hold.
    let all = c.run_serve-end in
    let listens = all.ensures.listens choose h base _ chooser taken hold in
    let up = sym c.is_open.ensures ∙ c.if-not-is_open.false in
    connections_behind g.D.Disk (kind g.M.StoreMemory.takes g.M.Book.ManifestState.fits g.M.StoreMemory.holds)
    (start choose h base (length h) c.args.store.now.run c.args.disk.now) c.args.requests all.result
    (listened (g.L.Listener.waiting c.args.listener.now) (g.L.Listener.handed c.args.listener.now))
    (listened (g.L.Listener.waiting all.new.listener) (g.L.Listener.handed all.new.listener))
    (g.C.Clock.ahead c.args.clock.now) (g.C.Clock.ahead all.new.clock) all.new.store all.new.disk listens
    c.shorten-shortened.result c.heard_behind.result c.shorten-shortened.new.disk c.heard_behind.ensures up all.ensures.run (omega arith)
    (c.shorten-shortened.ensures.images choose (history_after (start choose h base (length h) c.args.store.now.run c.args.disk.now)
    (turns_of listens.visits)) base chooser listens.taken (listens.held up))

pub returns-clause-unbroken : goal.returns-clause-unbroken
returns-clause-unbroken g c = λ file at is choose h base chooser taken hold image seen.
    undamaged_served c.run_serve-end.result c.shorten-shortened.result file at (sym c.is_open.ensures
    ∙ c.if-not-is_open.false) (sym c.heard_behind.ensures ∙ is)

pub returns-clause-short : goal.returns-clause-short
returns-clause-short g c = λ is.
    short_served c.run_serve-end.result c.shorten-shortened.result c.heard_behind.result _ c.heard_behind.ensures
    c.shorten-shortened.ensures.short is
    (c.run_serve-end.ensures.measured c.requires.rest.measured (sym c.is_open.ensures ∙ c.if-not-is_open.false))

pub returns-clause-listener : goal.returns-clause-listener
returns-clause-listener g c = λ is. c.run_serve-end.ensures.comes.by_listener
    (listener_served c.run_serve-end.result c.shorten-shortened.result (sym c.heard_behind.ensures ∙ is))

pub returns-clause-disk : goal.returns-clause-disk
returns-clause-disk g c = λ is.
    rose_later (g.D.Disk.faults c.args.disk.now) (g.D.Disk.faults c.run_serve-end.new.disk) (g.D.Disk.faults c.shorten-shortened.new.disk)
    c.run_serve-end.ensures.comes.disk_later
    (c.shorten-shortened.ensures.cause (disk_served c.run_serve-end.result c.shorten-shortened.result (sym c.is_open.ensures
    ∙ c.if-not-is_open.false) (sym c.heard_behind.ensures ∙ is)))

pub returns-clause-told : goal.returns-clause-told
returns-clause-told g c = λ is. tells_on g.D.Disk _ c.run_serve-end.new.disk c.shorten-shortened.new.disk c.shorten-shortened.ensures.told
    (c.run_serve-end.ensures.told is)

pub returns-then-not-is_open-clause-reads : goal.returns-then-not-is_open-clause-reads
returns-then-not-is_open-clause-reads g c = hears_closed c.args.requests c.run_serve-end.result
    (listened (g.L.Listener.waiting c.args.listener.now) (g.L.Listener.handed c.args.listener.now))
    (listened (g.L.Listener.waiting c.run_serve-end.new.listener) (g.L.Listener.handed c.run_serve-end.new.listener))
    c.run_serve-end.ensures.reads c.heard_end.result c.heard_end.ensures

pub returns-clause-reads : goal.returns-clause-reads
returns-clause-reads g c = hears_behind c.args.requests c.run_serve-end.result
    (listened (g.L.Listener.waiting c.args.listener.now) (g.L.Listener.handed c.args.listener.now))
    (listened (g.L.Listener.waiting c.run_serve-end.new.listener) (g.L.Listener.handed c.run_serve-end.new.listener))
    c.run_serve-end.ensures.reads c.heard_behind.result c.shorten-shortened.result c.heard_behind.ensures

pub returns-then-not-is_open-clause-placed : goal.returns-then-not-is_open-clause-placed
returns-then-not-is_open-clause-placed g c = λ file at is. c.run_serve-end.ensures.placed file at
    (damaged_heard c.run_serve-end.result file at (sym c.heard_end.ensures ∙ is))

pub returns-clause-placed : goal.returns-clause-placed
returns-clause-placed g c = λ file at is. absurd
    (undamaged_served c.run_serve-end.result c.shorten-shortened.result file at (sym c.is_open.ensures
    ∙ c.if-not-is_open.false) (sym c.heard_behind.ensures ∙ is))
