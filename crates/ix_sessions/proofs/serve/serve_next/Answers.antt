use Rattle.std.proofs.Common.{ℕ, ℤ, List, Option, refl, sym, subst, arith, rules}
use Rattle.std.proofs.lemmas.Bool.{false≢true}
use mir.Val.{SFits}
use Rattle.std.specs.Int.{w64}
use Rattle.std.proofs.lemmas.Int.{to_z-of_z}
use Rattle.std.proofs.lemmas.Result.{err_from_is_err_and}
use Rattle.ix_base.specs.Told.{Told}
use Rattle.ix_net.specs.Listeners.{Handed, TakesFirst, Adds, handed_back}
use Rattle.ix_serve.specs.Entries.{entry}
use Rattle.ix_serve.specs.Serving.{IsTold}
use Rattle.ix_serve.proofs.Taking.{says_taken}
use Rattle.ix_sessions.specs.Connections.{listened}
use Rattle.ix_serve.specs.Kinds.{kind}
use Rattle.ix_sessions.specs.Feeding.{start}
use Rattle.ix_sessions.proofs.Reading.{hearing}
use Rattle.ix_sessions.proofs.Visiting.{attends}
use Rattle.ix_store.proofs.Recalling.{remembers_same}
use Rattle.ix_sessions.proofs.serve.serve_next.Goals as goal

pub returns : goal.returns
returns g c = record {
  attends = λ choose h base k chooser taken hold.
      let conn = c.in_ok-conn.conn in
      let last = c.serve_one-came.new.link in
      let moment : ℤ = c.now-moment.result in
      let fits : SFits w64 moment = search rules in
      let serves = simp to_z-of_z at (c.serve_one-came.ensures.serves choose h base k chooser taken hold) in
      let e = entry choose h base k c.args.store.now.run moment in
      attends g.D.Disk (kind g.M.StoreMemory.takes g.M.Book.ManifestState.fits g.M.StoreMemory.holds)
      (start choose h base k c.args.store.now.run c.args.disk.now) c.serve_one-came.result
      (listened (g.L.Listener.waiting c.args.listener.now) (g.L.Listener.handed c.args.listener.now))
      (listened (g.L.Listener.waiting c.done.new.self) (g.L.Listener.handed c.done.new.self))
      (g.C.Clock.ahead c.args.clock.now) (g.C.Clock.ahead c.now-moment.new.self)
      (g.L.Conn.Link.standing conn) (g.L.Conn.Link.standing last) (g.L.Conn.Link.faults conn) (g.L.Conn.Link.faults last)
      (g.L.Conn.Link.left conn) (g.L.Conn.Link.left last) (g.L.Conn.Link.given conn) (g.L.Conn.Link.given last)
      c.serve_one-came.new.store c.serve_one-came.new.disk moment
      c.in_ok-conn.ensures.begins c.serve_one-came.ensures.goes
      (subst (λ (x : Option (List (Option (List ℕ)))). Told (TakesFirst (g.L.Conn.Link.left conn))
      (g.L.Listener.waiting c.args.listener.now) x) (sym c.done.ensures.waiting) c.in_ok-conn.ensures.taken)
      (subst (λ (x : Option (List Handed)). Told (Adds (handed_back (g.L.Conn.Link.standing last) (g.L.Conn.Link.given last)
      (g.L.Conn.Link.faults last))) x (g.L.Listener.handed c.done.new.self))
      c.in_ok-conn.ensures.handed (c.done.ensures.handed (omega (arith, c.in_ok-conn.ensures.out))))
      c.now-moment.ensures serves c.serve_one-came.ensures.comes.by_link
      (says_taken g.M.StoreMemory.takes g.met.M.StoreMemory.ticks_are_taken c.requires.takes e taken
      (IsTold g.D.Disk c.serve_one-came.new.disk) serves.read c.serve_one-came.result serves.answers.answer serves.within
      serves.answers.may_be);
  reads =
      let conn = c.in_ok-conn.conn in
      let last = c.serve_one-came.new.link in
      hearing c.serve_one-came.result
      (listened (g.L.Listener.waiting c.args.listener.now) (g.L.Listener.handed c.args.listener.now))
      (listened (g.L.Listener.waiting c.done.new.self) (g.L.Listener.handed c.done.new.self))
      (g.L.Conn.Link.standing conn) (g.L.Conn.Link.standing last) (g.L.Conn.Link.faults conn) (g.L.Conn.Link.faults last)
      (g.L.Conn.Link.left conn) (g.L.Conn.Link.left last) (g.L.Conn.Link.given conn) (g.L.Conn.Link.given last)
      c.in_ok-conn.ensures.begins c.serve_one-came.ensures.goes
      (subst (λ (x : Option (List (Option (List ℕ)))). Told (TakesFirst (g.L.Conn.Link.left conn))
      (g.L.Listener.waiting c.args.listener.now) x) (sym c.done.ensures.waiting) c.in_ok-conn.ensures.taken)
      (subst (λ (x : Option (List Handed)). Told (Adds (handed_back (g.L.Conn.Link.standing last) (g.L.Conn.Link.given last)
      (g.L.Conn.Link.faults last))) x (g.L.Listener.handed c.done.new.self))
      c.in_ok-conn.ensures.handed (c.done.ensures.handed (omega (arith, c.in_ok-conn.ensures.out)))) c.serve_one-came.ensures.reads;
  placed = c.serve_one-came.ensures.placed;
  over = c.serve_one-came.ensures.over;
  measured = c.serve_one-came.ensures.measured;
  later = c.serve_one-came.ensures.comes.disk_later;
  failed = c.serve_one-came.ensures.comes.by_disk;
  run = c.serve_one-came.ensures.run;
  remembers = c.serve_one-came.ensures.remembers;
  told = c.serve_one-came.ensures.told;
  out = omega (arith, c.done.ensures.out, c.in_ok-conn.ensures.out);
  store = tt;
  left = tt;
  unasked = tt;
  waiting = tt;
  handed = tt;
  cause = record { later = omega (arith, c.done.ensures.faults, c.accept.ensures.cause.later); failed = λ is. absurd (false≢true is) };
}

pub returns-in_err-conn : goal.returns-in_err-conn
returns-in_err-conn g c =
    let p = err_from_is_err_and c.from_residual.result c.from_residual.ensures.1 in
    rw (p.1, p.2) (record {
      attends = tt;
      reads = tt;
      placed = tt;
      over = tt;
      measured = tt;
      later = omega arith;
      failed = tt;
      run = refl;
      remembers = remembers_same g.M.StoreMemory.is_chooser g.M.StoreMemory.takes g.M.StoreMemory.holds c.args.store.now.memory
          c.args.store.now.memory refl;
      told = λ told. told;
      out = c.in_err-conn.ensures.out;
      store = refl;
      left = refl;
      unasked = refl;
      waiting = c.in_err-conn.ensures.stays;
      handed = c.accept.ensures.handed;
      cause = record { later = c.accept.ensures.cause.later; failed = λ is. c.in_err-conn.ensures.cause.failed refl };
    })
