use Rattle.std.proofs.Common.{ℤ, [], refl, sym, ap, ◌∙◌, arith, rules}
use Rattle.std.specs.Prelude.{Some}
use mir.Val.{SFits}
use Rattle.std.specs.Int.{w64}
use Rattle.std.proofs.lemmas.Int.{to_z-of_z}
use Rattle.ix_base.proofs.ToldLemmas.{nothing_written}
use Rattle.ix_net.proofs.GoesLemmas.{goes_nowhere, goes_on}
use Rattle.ix_serve.specs.Entries.{entry}
use Rattle.ix_serve.specs.Serving.{IsClean, IsTold}
use Rattle.ix_serve.proofs.Answering.{clean_behind}
use Rattle.ix_serve.specs.Kinds.{kind}
use Rattle.ix_sessions.specs.Feeding.{history_after, start, coming}
use Rattle.ix_serve.proofs.Taking.{says_taken}
use Rattle.ix_sessions.specs.declared.feed.Fed.{Fed}
use Rattle.ix_sessions.proofs.Placing.{endless_sound}
use Rattle.ix_sessions.proofs.Reading.{read_on, read_end, read_all}
use Rattle.ix_sessions.proofs.Turning.{comes_ended, comes_endless, reach_on, feeds_on, feeds_all, stays_open, open_end}
use Rattle.ix_sessions.proofs.Turning.{damaged_turn}
use Rattle.ix_store.proofs.Recalling.{remembers_on, remembers_same}
use Rattle.ix_sessions.proofs.feed.feed_all.Goals as goal

pub loop-served-init : goal.loop-served-init
loop-served-init g c = record {
  over = c.requires.over;
  run = refl;
  remembers = remembers_same g.M.StoreMemory.is_chooser g.M.StoreMemory.takes g.M.StoreMemory.holds c.args.store.now.memory
      c.args.store.now.memory refl;
  link_later = omega arith;
  disk_later = omega arith;
  measured = λ is. is;
  goes = goes_nowhere _;
  told = λ is. is;
  reads = record { reads = []; are = refl; made = refl; whole = tt };
  reaches = λ choose h base k chooser taken hold. record {
    turns = [];
    are = refl;
    taken = taken;
    served = refl;
    on = tt;
    written = nothing_written (g.K.Link.given c.args.link.now);
    at = refl;
    kept = k;
    knows = omega arith;
    hold = hold;
    told = λ is. (is, tt);
  };
}

pub returns-in-Some : goal.returns-in-Some
returns-in-Some g c = record {
  feeds = λ choose h base k chooser taken hold.
      let l = c.loop-served in
      let moment : ℤ = c.now-moment.result in
      let s = start choose h base k c.args.store.now.run c.args.disk.now in
      let reached = l.invariant.reaches choose h base k chooser taken hold in
      let fits : SFits w64 moment = search rules in
      let serves = simp to_z-of_z at (c.serve_one-came.ensures.serves choose (history_after s reached.turns) base reached.kept chooser
      reached.taken reached.hold) in
      let e = entry choose (history_after s reached.turns) base reached.kept l.store.run moment in
      feeds_on g.D.Disk (kind g.M.StoreMemory.takes g.M.Book.ManifestState.fits g.M.StoreMemory.holds) s l.served
      (coming (g.K.Link.left c.args.link.now) (g.C.Clock.ahead c.args.clock.now)) (coming (g.K.Link.left l.link) (g.C.Clock.ahead l.clock))
      (coming (g.K.Link.left c.serve_one-came.new.link) (g.C.Clock.ahead c.now-moment.new.self))
      (g.K.Link.given c.args.link.now) (g.K.Link.given l.link) (g.K.Link.given c.serve_one-came.new.link)
      l.store c.serve_one-came.new.store l.disk c.serve_one-came.new.disk moment
      (IsClean (g.K.Link.faults l.link) (g.K.Link.faults c.serve_one-came.new.link) (g.K.Link.standing l.link)
      (g.K.Link.standing c.serve_one-came.new.link))
      (IsClean (g.K.Link.faults c.args.link.now) (g.K.Link.faults c.serve_one-came.new.link) (g.K.Link.standing c.args.link.now)
      (g.K.Link.standing c.serve_one-came.new.link))
      c.serve_one-came.result l.invariant.run c.serve_one-came.ensures.run c.now-moment.ensures reached serves c.serve_one-came.ensures.told
      (says_taken g.M.StoreMemory.takes g.met.M.StoreMemory.ticks_are_taken c.requires.takes e reached.taken
      (IsTold g.D.Disk c.serve_one-came.new.disk) serves.read c.serve_one-came.result serves.answers.answer serves.within
      serves.answers.may_be)
      (clean_behind (g.K.Link.faults c.args.link.now) (g.K.Link.faults l.link) (g.K.Link.faults c.serve_one-came.new.link)
      (g.K.Link.standing c.args.link.now) (g.K.Link.standing l.link) (g.K.Link.standing c.serve_one-came.new.link) l.invariant.link_later
      l.invariant.goes.writing)
      c.in-Some.end (sym c.end_of.ensures ∙ c.in-Some.is);
  reads = read_end _ (g.K.Link.left c.args.link.now) (g.K.Link.left c.loop-served.link) (g.K.Link.left c.serve_one-came.new.link)
      c.serve_one-came.result c.loop-served.invariant.reads c.serve_one-came.ensures.reads c.in-Some.end (sym c.end_of.ensures
      ∙ c.in-Some.is);
  run = c.serve_one-came.ensures.run ∙ c.loop-served.invariant.run;
  remembers = remembers_on g.M.StoreMemory.is_chooser g.M.StoreMemory.takes g.M.StoreMemory.holds c.args.store.now.memory
      c.loop-served.store.memory
      c.serve_one-came.new.store.memory c.loop-served.invariant.remembers c.serve_one-came.ensures.remembers;
  placed = λ file at is. c.serve_one-came.ensures.placed file at (damaged_turn _ c.serve_one-came.result file at
      (sym c.end_of.ensures ∙ c.in-Some.is ∙ ap (λ (e : Fed). Some e) is));
  over = λ up. c.serve_one-came.ensures.over (open_end _ c.serve_one-came.result c.in-Some.end (sym c.end_of.ensures ∙ c.in-Some.is) up);
  measured = λ is up.
      c.serve_one-came.ensures.measured (c.loop-served.invariant.measured is)
      (open_end _ c.serve_one-came.result c.in-Some.end (sym c.end_of.ensures ∙ c.in-Some.is) up);
  told = λ is. c.serve_one-came.ensures.told (c.loop-served.invariant.told is);
  goes = goes_on c.loop-served.invariant.goes c.serve_one-came.ensures.goes;
  comes =
      comes_ended _ (g.K.Link.faults c.args.link.now) (g.K.Link.faults c.loop-served.link) (g.K.Link.faults c.serve_one-came.new.link)
      (g.D.Disk.faults c.args.disk.now) (g.D.Disk.faults c.loop-served.disk) (g.D.Disk.faults c.serve_one-came.new.disk)
      c.serve_one-came.result c.in-Some.end
      (sym c.end_of.ensures ∙ c.in-Some.is) c.loop-served.invariant.link_later c.serve_one-came.ensures.comes.link_later
      c.loop-served.invariant.disk_later c.serve_one-came.ensures.comes.disk_later c.serve_one-came.ensures.comes.by_link
      c.serve_one-came.ensures.comes.by_disk;
}

pub loop-served-preserved : goal.loop-served-preserved
loop-served-preserved g c = let l = c.loop-served in
    let none = sym c.end_of.ensures ∙ c.in_default.is in
    record {
      over = c.serve_one-came.ensures.over (stays_open _ c.serve_one-came.result none).0;
      run = c.serve_one-came.ensures.run ∙ l.invariant.run;
      remembers = remembers_on g.M.StoreMemory.is_chooser g.M.StoreMemory.takes g.M.StoreMemory.holds c.args.store.now.memory
          c.loop-served.store.memory
          c.serve_one-came.new.store.memory l.invariant.remembers c.serve_one-came.ensures.remembers;
      link_later = omega (arith, l.invariant.link_later, c.serve_one-came.ensures.comes.link_later);
      disk_later = omega (arith, l.invariant.disk_later, c.serve_one-came.ensures.comes.disk_later);
      measured = λ is. c.serve_one-came.ensures.measured (l.invariant.measured is) (stays_open _ c.serve_one-came.result none).0;
      goes = goes_on l.invariant.goes c.serve_one-came.ensures.goes;
      told = λ is. c.serve_one-came.ensures.told (l.invariant.told is);
      reads = read_on _ (g.K.Link.left c.args.link.now) (g.K.Link.left l.link) (g.K.Link.left c.serve_one-came.new.link)
          c.serve_one-came.result l.invariant.reads c.serve_one-came.ensures.reads none;
      reaches = λ choose h base k chooser taken hold.
          let moment : ℤ = c.now-moment.result in
          let s = start choose h base k c.args.store.now.run c.args.disk.now in
          let reached = l.invariant.reaches choose h base k chooser taken hold in
          let fits : SFits w64 moment = search rules in
          let serves = simp to_z-of_z at (c.serve_one-came.ensures.serves choose (history_after s reached.turns) base reached.kept chooser
          reached.taken reached.hold) in
          let e = entry choose (history_after s reached.turns) base reached.kept l.store.run moment in
          reach_on g.D.Disk (kind g.M.StoreMemory.takes g.M.Book.ManifestState.fits g.M.StoreMemory.holds) s l.served
          (coming (g.K.Link.left c.args.link.now) (g.C.Clock.ahead c.args.clock.now))
          (coming (g.K.Link.left l.link) (g.C.Clock.ahead l.clock))
          (coming (g.K.Link.left c.serve_one-came.new.link) (g.C.Clock.ahead c.now-moment.new.self))
          (g.K.Link.given c.args.link.now) (g.K.Link.given l.link) (g.K.Link.given c.serve_one-came.new.link)
          l.store c.serve_one-came.new.store l.disk c.serve_one-came.new.disk moment
          (IsClean (g.K.Link.faults l.link) (g.K.Link.faults c.serve_one-came.new.link) (g.K.Link.standing l.link)
          (g.K.Link.standing c.serve_one-came.new.link))
          (IsClean (g.K.Link.faults c.args.link.now) (g.K.Link.faults c.serve_one-came.new.link) (g.K.Link.standing c.args.link.now)
          (g.K.Link.standing c.serve_one-came.new.link))
          c.serve_one-came.result l.invariant.run c.serve_one-came.ensures.run c.now-moment.ensures reached serves
          c.serve_one-came.ensures.told
          (says_taken g.M.StoreMemory.takes g.met.M.StoreMemory.ticks_are_taken c.requires.takes e reached.taken
          (IsTold g.D.Disk c.serve_one-came.new.disk) serves.read c.serve_one-came.result serves.answers.answer serves.within
          serves.answers.may_be) none;
    }

pub returns : goal.returns
returns g c = record {
  feeds = λ choose h base k chooser taken hold.
      let l = c.loop-served in
      feeds_all g.D.Disk (kind g.M.StoreMemory.takes g.M.Book.ManifestState.fits g.M.StoreMemory.holds)
      (start choose h base k c.args.store.now.run c.args.disk.now)
      (IsClean (g.K.Link.faults c.args.link.now) (g.K.Link.faults l.link) (g.K.Link.standing c.args.link.now) (g.K.Link.standing l.link))
      (coming (g.K.Link.left c.args.link.now) (g.C.Clock.ahead c.args.clock.now)) (coming (g.K.Link.left l.link) (g.C.Clock.ahead l.clock))
      (g.K.Link.given c.args.link.now) (g.K.Link.given l.link) l.store l.disk l.served (omega arith) l.invariant.run
      (l.invariant.reaches choose h base k chooser taken hold);
  reads = read_all c.loop-served.served (g.K.Link.left c.args.link.now) (g.K.Link.left c.loop-served.link) (omega arith)
      c.loop-served.invariant.reads;
  run = c.loop-served.invariant.run;
  remembers = c.loop-served.invariant.remembers;
  placed = λ file at is. absurd (endless_sound is);
  over = λ up. c.loop-served.invariant.over;
  measured = λ is up. c.loop-served.invariant.measured is;
  told = c.loop-served.invariant.told;
  goes = c.loop-served.invariant.goes;
  comes = comes_endless (g.K.Link.faults c.args.link.now) (g.K.Link.faults c.loop-served.link) (g.D.Disk.faults c.args.disk.now)
      (g.D.Disk.faults c.loop-served.disk) c.loop-served.invariant.link_later c.loop-served.invariant.disk_later;
}

pub serve_one-came-requires-clause-over : goal.serve_one-came-requires-clause-over
serve_one-came-requires-clause-over g c = c.loop-served.invariant.over

pub serve_one-came-requires-clause-takes : goal.serve_one-came-requires-clause-takes
serve_one-came-requires-clause-takes g c = c.requires.takes
