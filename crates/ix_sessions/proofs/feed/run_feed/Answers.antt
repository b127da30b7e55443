use Rattle.std.proofs.Common.{Err, sym, ap, ◌∙◌, inl}
use Rattle.std.proofs.lemmas.Bool.{false≢true}
use Rattle.ix_commit.specs.declared.fault.CommitFault.{CommitFault}
use Rattle.ix_serve.specs.Serving.{IsClean}
use Rattle.ix_serve.specs.Kinds.{kind}
use Rattle.ix_sessions.specs.Feeding.{history_after, start, coming}
use Rattle.ix_serve.proofs.Standing.{tells_on}
use Rattle.ix_sessions.specs.declared.feed.Fed.TheVariants as fed
use Rattle.ix_sessions.proofs.Placing.{broken_fed, open_fed}
use Rattle.ix_sessions.proofs.Reading.{read_failed}
use Rattle.ix_sessions.proofs.Turning.{comes_committed, comes_broken, runs_closed, runs_committed, runs_broken}
use Rattle.ix_store.proofs.Recalling.{remembers_behind}
use Rattle.ix_sessions.proofs.feed.run_feed.Goals as goal

pub returns-then-not-open : goal.returns-then-not-open
returns-then-not-open g c = record {
  runs = λ choose h base k chooser taken hold.
      let fed_all = c.feed_all-end in
      let s = start choose h base k c.args.store.now.run c.args.disk.now in
      let clean = IsClean (g.K.Link.faults c.args.link.now) (g.K.Link.faults fed_all.new.link) (g.K.Link.standing c.args.link.now)
      (g.K.Link.standing fed_all.new.link) in
      runs_closed g.D.Disk (kind g.M.StoreMemory.takes g.M.Book.ManifestState.fits g.M.StoreMemory.holds) s fed_all.result clean
      (coming (g.K.Link.left c.args.link.now) (g.C.Clock.ahead c.args.clock.now))
      (coming (g.K.Link.left fed_all.new.link) (g.C.Clock.ahead fed_all.new.clock))
      (g.K.Link.given c.args.link.now) (g.K.Link.given fed_all.new.link) fed_all.new.store fed_all.new.disk
      (fed_all.ensures.feeds choose h base k chooser taken hold) (sym c.is_open-open.ensures ∙ c.if-not-open.true);
  reads = c.feed_all-end.ensures.reads;
  placed = c.feed_all-end.ensures.placed;
  over = c.feed_all-end.ensures.over;
  idle = λ up. absurd (false≢true (sym (sym c.is_open-open.ensures ∙ c.if-not-open.true) ∙ up));
  measured = c.feed_all-end.ensures.measured;
  run = c.feed_all-end.ensures.run;
  remembers = c.feed_all-end.ensures.remembers;
  told = c.feed_all-end.ensures.told;
  goes = c.feed_all-end.ensures.goes;
  comes = c.feed_all-end.ensures.comes;
}

pub returns-in-Ok : goal.returns-in-Ok
returns-in-Ok g c = record {
  runs = λ choose h base k chooser taken hold.
      let fed_all = c.feed_all-end in
      let s = start choose h base k c.args.store.now.run c.args.disk.now in
      let clean = IsClean (g.K.Link.faults c.args.link.now) (g.K.Link.faults fed_all.new.link) (g.K.Link.standing c.args.link.now)
      (g.K.Link.standing fed_all.new.link) in
      let feeds = fed_all.ensures.feeds choose h base k chooser taken hold in
      runs_committed g.D.Disk (kind g.M.StoreMemory.takes g.M.Book.ManifestState.fits g.M.StoreMemory.holds) s fed_all.result clean
      (coming (g.K.Link.left c.args.link.now) (g.C.Clock.ahead c.args.clock.now))
      (coming (g.K.Link.left fed_all.new.link) (g.C.Clock.ahead fed_all.new.clock))
      (g.K.Link.given c.args.link.now) (g.K.Link.given fed_all.new.link) fed_all.new.store fed_all.new.disk feeds
      (sym c.is_open-open.ensures ∙ c.if-not-open.false) fed_all.ensures.run c.commit.new.self c.commit.new.disk
      (λ kept held. c.commit.ensures.images choose (history_after s feeds.turns) base kept held)
      (c.commit.ensures.run ∙ fed_all.ensures.run)
      (λ kept held. c.in-Ok.ensures.done choose (history_after s feeds.turns) base kept held);
  reads = c.feed_all-end.ensures.reads;
  placed = λ file at is. absurd (open_fed c.feed_all-end.result _ (sym c.is_open-open.ensures ∙ c.if-not-open.false) is);
  over = λ up. c.in-Ok.ensures.over;
  idle = λ up. c.in-Ok.ensures.idle;
  measured = λ measured up. c.in-Ok.ensures.measured (λ idle. c.feed_all-end.ensures.measured measured up);
  run = c.commit.ensures.run ∙ c.feed_all-end.ensures.run;
  remembers = remembers_behind g.M.StoreMemory.is_chooser g.M.StoreMemory.takes g.M.StoreMemory.holds c.args.store.now.memory
      c.feed_all-end.new.store.memory
      c.commit.new.self.memory c.commit.ensures.memory c.feed_all-end.ensures.remembers;
  told = λ told. tells_on g.D.Disk _ c.feed_all-end.new.disk c.commit.new.disk c.commit.ensures.told (c.feed_all-end.ensures.told told);
  goes = c.feed_all-end.ensures.goes;
  comes = comes_committed (g.K.Link.faults c.args.link.now) (g.K.Link.faults c.feed_all-end.new.link) (g.D.Disk.faults c.args.disk.now)
      (g.D.Disk.faults c.feed_all-end.new.disk) (g.D.Disk.faults c.commit.new.disk) c.feed_all-end.result c.feed_all-end.ensures.comes
      c.commit.ensures.later;
}

pub returns-in-Err : goal.returns-in-Err
returns-in-Err g c = record {
  runs = λ choose h base k chooser taken hold.
      let fed_all = c.feed_all-end in
      let s = start choose h base k c.args.store.now.run c.args.disk.now in
      let clean = IsClean (g.K.Link.faults c.args.link.now) (g.K.Link.faults fed_all.new.link) (g.K.Link.standing c.args.link.now)
      (g.K.Link.standing fed_all.new.link) in
      let feeds = fed_all.ensures.feeds choose h base k chooser taken hold in
      runs_broken g.D.Disk (kind g.M.StoreMemory.takes g.M.Book.ManifestState.fits g.M.StoreMemory.holds) s fed_all.result clean
      (coming (g.K.Link.left c.args.link.now) (g.C.Clock.ahead c.args.clock.now))
      (coming (g.K.Link.left fed_all.new.link) (g.C.Clock.ahead fed_all.new.clock))
      (g.K.Link.given c.args.link.now) (g.K.Link.given fed_all.new.link) fed_all.new.store fed_all.new.disk feeds
      (sym c.is_open-open.ensures ∙ c.if-not-open.false) fed_all.ensures.run c.commit.new.self c.commit.new.disk
      (λ kept held. c.commit.ensures.images choose (history_after s feeds.turns) base kept held)
      c.in-Err.cause
      (λ kept held file at is image seen. c.in-Err.ensures.undamaged file at (ap (λ (f : CommitFault). Err f) is) choose
      (history_after s feeds.turns) base kept held image seen);
  reads = read_failed c.feed_all-end.result (fed.Broken c.in-Err.cause) (g.K.Link.left c.args.link.now)
      (g.K.Link.left c.feed_all-end.new.link) tt c.feed_all-end.ensures.reads;
  placed = λ file at is image seen.
      inl ((c.in-Err.ensures.damaged file at (ap (λ (f : CommitFault). Err f) (broken_fed _ _ is))).1 image seen);
  over = λ up. absurd (false≢true up);
  idle = λ up. absurd (false≢true up);
  measured = λ measured up. absurd (false≢true up);
  run = c.commit.ensures.run ∙ c.feed_all-end.ensures.run;
  remembers = remembers_behind g.M.StoreMemory.is_chooser g.M.StoreMemory.takes g.M.StoreMemory.holds c.args.store.now.memory
      c.feed_all-end.new.store.memory
      c.commit.new.self.memory c.commit.ensures.memory c.feed_all-end.ensures.remembers;
  told = λ told. tells_on g.D.Disk _ c.feed_all-end.new.disk c.commit.new.disk c.commit.ensures.told (c.feed_all-end.ensures.told told);
  goes = c.feed_all-end.ensures.goes;
  comes = comes_broken (g.K.Link.faults c.args.link.now) (g.K.Link.faults c.feed_all-end.new.link) (g.D.Disk.faults c.args.disk.now)
      (g.D.Disk.faults c.feed_all-end.new.disk) (g.D.Disk.faults c.commit.new.disk) c.feed_all-end.result c.feed_all-end.ensures.comes
      c.commit.ensures.later
      c.in-Err.cause (λ is. c.commit.ensures.cause (c.in-Err.is ∙ ap (λ (f : CommitFault). Err f) is));
}

pub commit-requires : goal.commit-requires
commit-requires g c = c.feed_all-end.ensures.over (sym c.is_open-open.ensures ∙ c.if-not-open.false)
