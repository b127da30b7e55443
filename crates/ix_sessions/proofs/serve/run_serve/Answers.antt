use Rattle.std.proofs.Common.{Err, sym, ap, ◌∙◌, inl}
use Rattle.std.proofs.lemmas.Bool.{false≢true}
use Rattle.ix_commit.specs.declared.fault.CommitFault.{CommitFault}
use Rattle.ix_sessions.specs.Connections.{turns_of, listened}
use Rattle.ix_serve.specs.Kinds.{kind}
use Rattle.ix_sessions.specs.Feeding.{history_after, start}
use Rattle.ix_serve.proofs.Standing.{tells_on}
use Rattle.ix_sessions.proofs.Placing.{broken_heard, open_heard}
use Rattle.ix_sessions.proofs.Reading.{hear_failed}
use Rattle.ix_sessions.proofs.Visiting.{comes_committed, comes_broken, listens_closed, listens_committed, listens_broken}
use Rattle.ix_store.proofs.Recalling.{remembers_behind}
use Rattle.ix_sessions.proofs.serve.run_serve.Goals as goal

pub returns-then-not-is_open : goal.returns-then-not-is_open
returns-then-not-is_open g c = record {
  listens = λ choose h base k chooser taken hold.
      let all = c.serve_all-end in
      listens_closed g.D.Disk (kind g.M.StoreMemory.takes g.M.Book.ManifestState.fits g.M.StoreMemory.holds)
      (start choose h base k c.args.store.now.run c.args.disk.now) c.args.requests all.result
      (listened (g.L.Listener.waiting c.args.listener.now) (g.L.Listener.handed c.args.listener.now))
      (listened (g.L.Listener.waiting all.new.listener) (g.L.Listener.handed all.new.listener))
      (g.C.Clock.ahead c.args.clock.now) (g.C.Clock.ahead all.new.clock) all.new.store all.new.disk
      (all.ensures.hears choose h base k chooser taken hold) (sym c.is_open.ensures ∙ c.if-not-is_open.true);
  reads = c.serve_all-end.ensures.reads;
  placed = c.serve_all-end.ensures.placed;
  over = c.serve_all-end.ensures.over;
  idle = λ up. absurd (false≢true (sym (sym c.is_open.ensures ∙ c.if-not-is_open.true) ∙ up));
  measured = c.serve_all-end.ensures.measured;
  run = c.serve_all-end.ensures.run;
  remembers = c.serve_all-end.ensures.remembers;
  told = c.serve_all-end.ensures.told;
  out = c.serve_all-end.ensures.out;
  comes = c.serve_all-end.ensures.comes;
}

pub returns-in-Ok : goal.returns-in-Ok
returns-in-Ok g c = record {
  listens = λ choose h base k chooser taken hold.
      let all = c.serve_all-end in
      let hears = all.ensures.hears choose h base k chooser taken hold in
      listens_committed g.D.Disk (kind g.M.StoreMemory.takes g.M.Book.ManifestState.fits g.M.StoreMemory.holds)
      (start choose h base k c.args.store.now.run c.args.disk.now) c.args.requests all.result
      (listened (g.L.Listener.waiting c.args.listener.now) (g.L.Listener.handed c.args.listener.now))
      (listened (g.L.Listener.waiting all.new.listener) (g.L.Listener.handed all.new.listener))
      (g.C.Clock.ahead c.args.clock.now) (g.C.Clock.ahead all.new.clock) all.new.store all.new.disk hears
      (sym c.is_open.ensures ∙ c.if-not-is_open.false) all.ensures.run c.commit.new.self c.commit.new.disk
      (λ kept held. c.commit.ensures.images choose (history_after (start choose h base k c.args.store.now.run c.args.disk.now)
      (turns_of hears.visits)) base kept held)
      (c.commit.ensures.run ∙ all.ensures.run)
      (λ kept held. c.in-Ok.ensures.done choose (history_after (start choose h base k c.args.store.now.run c.args.disk.now)
      (turns_of hears.visits)) base kept held);
  reads = c.serve_all-end.ensures.reads;
  placed = λ file at is. absurd (open_heard c.serve_all-end.result _ (sym c.is_open.ensures ∙ c.if-not-is_open.false) is);
  over = λ up. c.in-Ok.ensures.over;
  idle = λ up. c.in-Ok.ensures.idle;
  measured = λ measured up. c.in-Ok.ensures.measured (λ idle. c.serve_all-end.ensures.measured measured up);
  run = c.commit.ensures.run ∙ c.serve_all-end.ensures.run;
  remembers = remembers_behind g.M.StoreMemory.is_chooser g.M.StoreMemory.takes g.M.StoreMemory.holds c.args.store.now.memory
      c.serve_all-end.new.store.memory
      c.commit.new.self.memory c.commit.ensures.memory c.serve_all-end.ensures.remembers;
  told = λ told. tells_on g.D.Disk _ c.serve_all-end.new.disk c.commit.new.disk c.commit.ensures.told (c.serve_all-end.ensures.told told);
  out = c.serve_all-end.ensures.out;
  comes = comes_committed (g.L.Listener.faults c.args.listener.now) (g.L.Listener.faults c.serve_all-end.new.listener)
      (g.D.Disk.faults c.args.disk.now) (g.D.Disk.faults c.serve_all-end.new.disk) (g.D.Disk.faults c.commit.new.disk)
      c.serve_all-end.result c.serve_all-end.ensures.comes c.commit.ensures.later;
}

pub returns-in-Err : goal.returns-in-Err
returns-in-Err g c = record {
  listens = λ choose h base k chooser taken hold.
      let all = c.serve_all-end in
      let hears = all.ensures.hears choose h base k chooser taken hold in
      listens_broken g.D.Disk (kind g.M.StoreMemory.takes g.M.Book.ManifestState.fits g.M.StoreMemory.holds)
      (start choose h base k c.args.store.now.run c.args.disk.now) c.args.requests all.result
      (listened (g.L.Listener.waiting c.args.listener.now) (g.L.Listener.handed c.args.listener.now))
      (listened (g.L.Listener.waiting all.new.listener) (g.L.Listener.handed all.new.listener))
      (g.C.Clock.ahead c.args.clock.now) (g.C.Clock.ahead all.new.clock) all.new.store all.new.disk hears
      (sym c.is_open.ensures ∙ c.if-not-is_open.false) all.ensures.run c.commit.new.self c.commit.new.disk
      (λ kept held. c.commit.ensures.images choose (history_after (start choose h base k c.args.store.now.run c.args.disk.now)
      (turns_of hears.visits)) base kept held)
      c.in-Err.cause
      (λ kept held file at is image seen. c.in-Err.ensures.undamaged file at (ap (λ (f : CommitFault). Err f) is) choose
      (history_after (start choose h base k c.args.store.now.run c.args.disk.now) (turns_of hears.visits)) base kept held image seen);
  reads = hear_failed c.args.requests c.serve_all-end.result c.in-Err.cause
      (listened (g.L.Listener.waiting c.args.listener.now) (g.L.Listener.handed c.args.listener.now))
      (listened (g.L.Listener.waiting c.serve_all-end.new.listener) (g.L.Listener.handed c.serve_all-end.new.listener))
      c.serve_all-end.ensures.reads;
  placed = λ file at is image seen.
      inl ((c.in-Err.ensures.damaged file at (ap (λ (f : CommitFault). Err f) (broken_heard _ _ is))).1 image seen);
  over = λ up. absurd (false≢true up);
  idle = λ up. absurd (false≢true up);
  measured = λ measured up. absurd (false≢true up);
  run = c.commit.ensures.run ∙ c.serve_all-end.ensures.run;
  remembers = remembers_behind g.M.StoreMemory.is_chooser g.M.StoreMemory.takes g.M.StoreMemory.holds c.args.store.now.memory
      c.serve_all-end.new.store.memory
      c.commit.new.self.memory c.commit.ensures.memory c.serve_all-end.ensures.remembers;
  told = λ told. tells_on g.D.Disk _ c.serve_all-end.new.disk c.commit.new.disk c.commit.ensures.told (c.serve_all-end.ensures.told told);
  out = c.serve_all-end.ensures.out;
  comes = comes_broken (g.L.Listener.faults c.args.listener.now) (g.L.Listener.faults c.serve_all-end.new.listener)
      (g.D.Disk.faults c.args.disk.now) (g.D.Disk.faults c.serve_all-end.new.disk) (g.D.Disk.faults c.commit.new.disk)
      c.serve_all-end.result c.serve_all-end.ensures.comes c.commit.ensures.later
      c.in-Err.cause (λ is. c.commit.ensures.cause (c.in-Err.is ∙ ap (λ (f : CommitFault). Err f) is));
}

pub commit-requires : goal.commit-requires
commit-requires g c = c.serve_all-end.ensures.over (sym c.is_open.ensures ∙ c.if-not-is_open.false)
