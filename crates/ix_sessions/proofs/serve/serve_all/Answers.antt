use Rattle.std.proofs.Common.{◌≡◌, ◌≤◌, ◌+◌, [], refl, sym, ap, ◌∙◌, arith}
use Rattle.std.proofs.lemmas.Bool.{false≢true}
use Rattle.ix_sessions.specs.Connections.{turns_of, listened}
use Rattle.ix_serve.specs.Kinds.{kind}
use Rattle.ix_sessions.specs.Feeding.{history_after, start}
use Rattle.ix_sessions.proofs.Placing.{broken_heard, deaf_sound, done_sound}
use Rattle.ix_sessions.proofs.Reading.{hear_as, hear_on, hear_stopped}
use Rattle.ix_sessions.specs.Reading.{AsMany}
use Rattle.ix_sessions.specs.declared.serve.Heard.TheVariants as heard
use Rattle.ix_sessions.proofs.Visiting.{comes_done, comes_stopped, comes_visited, visits_on, hears_broken, hears_all, hears_stopped}
use Rattle.ix_sessions.proofs.Visiting.{damaged_visit, stays_open, none_taken, none_handed, over_still, measured_still}
use Rattle.ix_store.proofs.Recalling.{remembers_on, remembers_same}
use Rattle.ix_sessions.proofs.serve.serve_all.Goals as goal

pub loop-served-init : goal.loop-served-init
loop-served-init g c = record {
  over = c.requires.over;
  run = refl;
  remembers = remembers_same g.M.StoreMemory.is_chooser g.M.StoreMemory.takes g.M.StoreMemory.holds c.args.store.now.memory
      c.args.store.now.memory refl;
  listener_later = omega arith;
  disk_later = omega arith;
  out = refl;
  measured = λ is. is;
  told = λ is. is;
  hears = record { reads = []; are = refl; made = refl };
  visits = λ choose h base k chooser taken hold. record {
    visits = [];
    are = refl;
    made = refl;
    on = tt;
    heard = record {
      waits = none_taken (g.L.Listener.waiting c.args.listener.now);
      backs = none_handed (g.L.Listener.handed c.args.listener.now);
    };
    taken = taken;
    at = refl;
    kept = k;
    knows = omega arith;
    hold = hold;
    told = λ is. (is, tt);
  };
}

pub returns-in-Some : goal.returns-in-Some
returns-in-Some g c = record {
  hears = λ choose h base k chooser taken hold.
      let l = c.loop-served in
      let visited = l.invariant.visits choose h base k chooser taken hold in
      hears_broken g.D.Disk (kind g.M.StoreMemory.takes g.M.Book.ManifestState.fits g.M.StoreMemory.holds)
      (start choose h base k c.args.store.now.run c.args.disk.now) l._served
      (listened (g.L.Listener.waiting c.args.listener.now) (g.L.Listener.handed c.args.listener.now))
      (listened (g.L.Listener.waiting l.listener) (g.L.Listener.handed l.listener))
      (listened (g.L.Listener.waiting c.serve_next.new.listener) (g.L.Listener.handed c.serve_next.new.listener))
      (g.C.Clock.ahead c.args.clock.now) (g.C.Clock.ahead l.clock) (g.C.Clock.ahead c.serve_next.new.clock)
      l.store c.serve_next.new.store l.disk c.serve_next.new.disk c.in-Ok.came l.invariant.run c.serve_next.ensures.run visited
      (c.in-Ok.ensures.attends choose (history_after (start choose h base k c.args.store.now.run c.args.disk.now) (turns_of visited.visits))
      base visited.kept chooser visited.taken visited.hold) c.serve_next.ensures.told
      c.args.requests c.in-Some.cause (omega arith) (sym c.break_of.ensures ∙ c.in-Some.is);
  reads =
      let most : c.loop-served._served + 1 ≤ c.args.requests = omega arith in
      let from = listened (g.L.Listener.waiting c.args.listener.now) (g.L.Listener.handed c.args.listener.now) in
      let to = listened (g.L.Listener.waiting c.serve_next.new.listener) (g.L.Listener.handed c.serve_next.new.listener) in
      hear_as (c.loop-served._served + 1) (AsMany c.args.requests (heard.Broken c.in-Some.cause)) from to most
      (hear_on c.loop-served._served from (listened (g.L.Listener.waiting c.loop-served.listener)
      (g.L.Listener.handed c.loop-served.listener)) to c.loop-served.invariant.hears c.in-Ok.ensures.reads);
  placed = λ file at is. c.in-Ok.ensures.placed file at (damaged_visit c.in-Ok.came c.in-Some.cause file at
      (sym c.break_of.ensures ∙ c.in-Some.is) (broken_heard _ _ is));
  over = λ up. absurd (false≢true up);
  measured = λ is up. absurd (false≢true up);
  run = c.serve_next.ensures.run ∙ c.loop-served.invariant.run;
  remembers = remembers_on g.M.StoreMemory.is_chooser g.M.StoreMemory.takes g.M.StoreMemory.holds c.args.store.now.memory
      c.loop-served.store.memory
      c.serve_next.new.store.memory c.loop-served.invariant.remembers c.serve_next.ensures.remembers;
  told = λ is. c.serve_next.ensures.told (c.loop-served.invariant.told is);
  out = c.serve_next.ensures.out ∙ c.loop-served.invariant.out;
  comes =
      comes_visited (g.L.Listener.faults c.args.listener.now) (g.L.Listener.faults c.serve_next.new.listener)
      (g.D.Disk.faults c.args.disk.now) (g.D.Disk.faults c.loop-served.disk) (g.D.Disk.faults c.serve_next.new.disk) c.in-Ok.came
      c.in-Some.cause (sym c.break_of.ensures ∙ c.in-Some.is)
      (omega (arith, c.loop-served.invariant.listener_later, c.serve_next.ensures.cause.later)) c.loop-served.invariant.disk_later
      c.serve_next.ensures.later c.in-Ok.ensures.failed;
}

pub returns-in-Err : goal.returns-in-Err
returns-in-Err g c = record {
  hears = λ choose h base k chooser taken hold.
      let l = c.loop-served in
      hears_stopped g.D.Disk (kind g.M.StoreMemory.takes g.M.Book.ManifestState.fits g.M.StoreMemory.holds)
      (start choose h base k c.args.store.now.run c.args.disk.now) l._served
      (listened (g.L.Listener.waiting c.args.listener.now) (g.L.Listener.handed c.args.listener.now))
      (listened (g.L.Listener.waiting l.listener) (g.L.Listener.handed l.listener))
      (g.C.Clock.ahead c.args.clock.now) (g.C.Clock.ahead l.clock) l.store l.disk l.invariant.run
      (l.invariant.visits choose h base k chooser taken hold)
      c.args.requests (omega arith) (g.L.Listener.waiting c.serve_next.new.listener) (g.L.Listener.handed c.serve_next.new.listener)
      (g.C.Clock.ahead c.serve_next.new.clock)
      c.serve_next.new.store c.serve_next.new.disk c.in-Err.ensures.waiting c.in-Err.ensures.handed
      (ap g.C.Clock.ahead c.in-Err.ensures.unasked) c.in-Err.ensures.store c.in-Err.ensures.left;
  reads = hear_stopped c.loop-served._served c.args.requests
      (listened (g.L.Listener.waiting c.args.listener.now) (g.L.Listener.handed c.args.listener.now))
      (listened (g.L.Listener.waiting c.loop-served.listener) (g.L.Listener.handed c.loop-served.listener))
      (listened (g.L.Listener.waiting c.serve_next.new.listener) (g.L.Listener.handed c.serve_next.new.listener)) (omega arith)
      c.in-Err.ensures.waiting c.in-Err.ensures.handed c.loop-served.invariant.hears;
  placed = λ file at is. absurd (deaf_sound is);
  over = λ up.
      over_still g.D.Disk c.loop-served.store c.serve_next.new.store c.loop-served.disk c.serve_next.new.disk c.in-Err.ensures.store
      c.in-Err.ensures.left c.loop-served.invariant.over;
  measured = λ is up.
      measured_still g.D.Disk c.loop-served.store c.serve_next.new.store c.loop-served.disk c.serve_next.new.disk c.in-Err.ensures.store
      c.in-Err.ensures.left (c.loop-served.invariant.measured is);
  run = c.serve_next.ensures.run ∙ c.loop-served.invariant.run;
  remembers = remembers_on g.M.StoreMemory.is_chooser g.M.StoreMemory.takes g.M.StoreMemory.holds c.args.store.now.memory
      c.loop-served.store.memory
      c.serve_next.new.store.memory c.loop-served.invariant.remembers c.serve_next.ensures.remembers;
  told = λ is. c.serve_next.ensures.told (c.loop-served.invariant.told is);
  out = c.serve_next.ensures.out ∙ c.loop-served.invariant.out;
  comes =
      comes_stopped (g.L.Listener.faults c.args.listener.now) (g.L.Listener.faults c.loop-served.listener)
      (g.L.Listener.faults c.serve_next.new.listener) (g.D.Disk.faults c.args.disk.now) (g.D.Disk.faults c.serve_next.new.disk)
      c.loop-served.invariant.listener_later c.serve_next.ensures.cause.later (c.in-Err.ensures.cause.failed refl)
      (omega (arith, c.loop-served.invariant.disk_later, c.serve_next.ensures.later));
}

pub loop-served-preserved : goal.loop-served-preserved
loop-served-preserved g c = let l = c.loop-served in
    let none = sym c.break_of.ensures ∙ c.in_default.is in
    record {
      over = c.in-Ok.ensures.over (stays_open c.in-Ok.came none);
      run = c.serve_next.ensures.run ∙ l.invariant.run;
      remembers = remembers_on g.M.StoreMemory.is_chooser g.M.StoreMemory.takes g.M.StoreMemory.holds c.args.store.now.memory
          c.loop-served.store.memory
          c.serve_next.new.store.memory l.invariant.remembers c.serve_next.ensures.remembers;
      listener_later = omega (arith, l.invariant.listener_later, c.serve_next.ensures.cause.later);
      disk_later = omega (arith, l.invariant.disk_later, c.serve_next.ensures.later);
      out = c.serve_next.ensures.out ∙ l.invariant.out;
      measured = λ is. c.in-Ok.ensures.measured (l.invariant.measured is) (stays_open c.in-Ok.came none);
      told = λ is. c.serve_next.ensures.told (l.invariant.told is);
      hears = hear_on l._served
          (listened (g.L.Listener.waiting c.args.listener.now) (g.L.Listener.handed c.args.listener.now))
          (listened (g.L.Listener.waiting l.listener) (g.L.Listener.handed l.listener))
          (listened (g.L.Listener.waiting c.serve_next.new.listener) (g.L.Listener.handed c.serve_next.new.listener)) l.invariant.hears
          c.in-Ok.ensures.reads;
      visits = λ choose h base k chooser taken hold.
          let visited = l.invariant.visits choose h base k chooser taken hold in
          visits_on g.D.Disk (kind g.M.StoreMemory.takes g.M.Book.ManifestState.fits g.M.StoreMemory.holds)
          (start choose h base k c.args.store.now.run c.args.disk.now) l._served
          (listened (g.L.Listener.waiting c.args.listener.now) (g.L.Listener.handed c.args.listener.now))
          (listened (g.L.Listener.waiting l.listener) (g.L.Listener.handed l.listener))
          (listened (g.L.Listener.waiting c.serve_next.new.listener) (g.L.Listener.handed c.serve_next.new.listener))
          (g.C.Clock.ahead c.args.clock.now) (g.C.Clock.ahead l.clock) (g.C.Clock.ahead c.serve_next.new.clock)
          l.store c.serve_next.new.store l.disk c.serve_next.new.disk c.in-Ok.came l.invariant.run c.serve_next.ensures.run visited
          (c.in-Ok.ensures.attends choose (history_after (start choose h base k c.args.store.now.run c.args.disk.now)
          (turns_of visited.visits)) base visited.kept chooser visited.taken visited.hold) c.serve_next.ensures.told none;
    }

pub returns : goal.returns
returns g c = record {
  hears = λ choose h base k chooser taken hold.
      let l = c.loop-served in
      hears_all g.D.Disk (kind g.M.StoreMemory.takes g.M.Book.ManifestState.fits g.M.StoreMemory.holds)
      (start choose h base k c.args.store.now.run c.args.disk.now) l._served
      (listened (g.L.Listener.waiting c.args.listener.now) (g.L.Listener.handed c.args.listener.now))
      (listened (g.L.Listener.waiting l.listener) (g.L.Listener.handed l.listener))
      (g.C.Clock.ahead c.args.clock.now) (g.C.Clock.ahead l.clock) l.store l.disk l.invariant.run
      (l.invariant.visits choose h base k chooser taken hold) c.args.requests (omega arith);
  reads =
      let all : c.loop-served._served ≡ c.args.requests = omega arith in
      hear_as c.loop-served._served (AsMany c.args.requests heard.Done)
      (listened (g.L.Listener.waiting c.args.listener.now) (g.L.Listener.handed c.args.listener.now))
      (listened (g.L.Listener.waiting c.loop-served.listener) (g.L.Listener.handed c.loop-served.listener)) all
      c.loop-served.invariant.hears;
  placed = λ file at is. absurd (done_sound is);
  over = λ up. c.loop-served.invariant.over;
  measured = λ is up. c.loop-served.invariant.measured is;
  run = c.loop-served.invariant.run;
  remembers = c.loop-served.invariant.remembers;
  told = c.loop-served.invariant.told;
  out = c.loop-served.invariant.out;
  comes = comes_done (g.L.Listener.faults c.args.listener.now) (g.L.Listener.faults c.loop-served.listener)
      (g.D.Disk.faults c.args.disk.now) (g.D.Disk.faults c.loop-served.disk) c.loop-served.invariant.listener_later
      c.loop-served.invariant.disk_later;
}

pub serve_next-requires-clause-over : goal.serve_next-requires-clause-over
serve_next-requires-clause-over g c = c.loop-served.invariant.over

pub serve_next-requires-clause-takes : goal.serve_next-requires-clause-takes
serve_next-requires-clause-takes g c = c.requires.takes
