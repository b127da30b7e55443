use Rattle.std.proofs.Common.{◌∙◌, ℕ, sym, subst, refl, true, arith, rules}
use mir.Val.{SFits}
use Rattle.std.specs.Int.{w64}
use Rattle.std.proofs.lemmas.Int.{to_z-of_z}
use Rattle.ix_disk.specs.Moments.{Always}
use Rattle.ix_http.specs.declared.kinds.Kind.TheVariants.{Json}
use Rattle.ix_commit.proofs.Beginning.{over_same}
use Rattle.ix_store.specs.Making.{with_order}
use Rattle.ix_serve.specs.Entries.{entry, order}
use Rattle.ix_serve.specs.Prefixes.{StandsIn}
use Rattle.ix_serve.specs.Replies.{reply, refused}
use Rattle.ix_serve.specs.Kinds.{kind}
use Rattle.ix_serve.specs.Serving.{IsClean}
use Rattle.ix_serve.proofs.Answering.{changed, comes_open, comes_settled, held_accepted, run_accepted, refused_so, wrote_settled}
use Rattle.ix_serve.proofs.Answering.{open_undamaged, due_held, undue_held}
use Rattle.ix_serve.proofs.Standing.{standing, measured_same}
use Rattle.ix_serve.proofs.Closing.{open_still, replied_by, replied_settled, open_placed}
use Rattle.ix_store.proofs.Recalling.{remembers_behind}
use Rattle.ix_serve.proofs.changes.serve_change.Goals as goal

pub returns-then-due : goal.returns-then-due
returns-then-due g c = record {
  answers = λ choose h base k chooser taken hold.
      let fits : SFits w64 c.args.moment = search rules in
      let e = entry choose h base k c.args.store.now.run c.args.moment in
      let is = simp to_z-of_z at (c.in-Ok.ensures.accepted choose h base k hold.old chooser taken hold.staged) in
      let h2 = with_order choose h (order e c.args.command) in
      let now = held_accepted g.D.Disk (kind g.M.StoreMemory.takes g.M.Book.ManifestState.fits g.M.StoreMemory.holds) e c.args.command
      c.args.store.now c.accept.new.self
      c.args.disk.now _ hold c.accept.ensures.logs is in
      let clean = IsClean (g.K.Link.faults c.args.link.now) (g.K.Link.faults c.give-came.new.link) (g.K.Link.standing c.args.link.now)
      (g.K.Link.standing c.give-came.new.link) in
      changed g.D.Disk (kind g.M.StoreMemory.takes g.M.Book.ManifestState.fits g.M.StoreMemory.holds) e c.args.command
      (reply c.args.status Json c.args.body.now) clean
      c.settle.result (g.K.Link.given c.args.link.now) (g.K.Link.given c.give-came.new.link)
      c.args.store.now c.accept.new.self c.settle.new.store c.args.disk.now c.settle.new.disk _ hold is
      (wrote_settled (reply c.args.status Json c.args.body.now) true clean c.give-came.result c.settle.result
      (g.K.Link.given c.args.link.now) (g.K.Link.given c.give-came.new.link) c.settle.ensures.came
      c.give-came.ensures.gave)
      (λ stays. due_held g.D.Disk (kind g.M.StoreMemory.takes g.M.Book.ManifestState.fits g.M.StoreMemory.holds) e _ h2 c.settle.new.store
      c.settle.new.disk
      now.staged.within (c.settle.ensures.done choose h2 base k now stays))
      (subst (λ (run : ℕ). Always g.D.Disk c.args.disk.now c.settle.new.disk (StandsIn g.M.Book.ManifestState.fits run choose h2 k))
      (run_accepted g.D.Disk (kind g.M.StoreMemory.takes g.M.Book.ManifestState.fits g.M.StoreMemory.holds) e c.args.command
      c.args.store.now c.accept.new.self
      c.args.disk.now _ hold is) (c.settle.ensures.images choose h2 base k now))
      (c.settle.ensures.undamaged choose h2 base k now);
  left = c.give-came.ensures.left;
  over = c.settle.ensures.over;
  measured = λ measured. c.settle.ensures.measured (measured_same g.D.Disk c.args.store.now.committer c.accept.new.self.committer
      c.args.disk.now
      c.accept.ensures.logs c.accept.ensures.bytes measured);
  closed = c.settle.ensures.closed;
  placed = c.settle.ensures.placed;
  replied = replied_settled true c.give-came.result c.settle.result c.settle.ensures.came
      (replied_by (reply c.args.status Json c.args.body.now) true
      (IsClean (g.K.Link.faults c.args.link.now) (g.K.Link.faults c.give-came.new.link) (g.K.Link.standing c.args.link.now)
      (g.K.Link.standing c.give-came.new.link)) c.give-came.result (g.K.Link.given c.args.link.now) (g.K.Link.given c.give-came.new.link)
      c.give-came.ensures.gave);
  run = c.settle.ensures.run ∙ c.accept.ensures.run;
  remembers = remembers_behind g.M.StoreMemory.is_chooser g.M.StoreMemory.takes g.M.StoreMemory.holds c.args.store.now.memory
      c.accept.new.self.memory
      c.settle.new.store.memory c.settle.ensures.memory c.accept.ensures.remembers;
  told = c.settle.ensures.told;
  goes = c.give-came.ensures.goes;
  comes = comes_settled (g.K.Link.faults c.args.link.now) (g.K.Link.faults c.give-came.new.link) (g.D.Disk.faults c.args.disk.now)
      (g.D.Disk.faults c.settle.new.disk) c.give-came.result c.settle.result
      c.give-came.ensures.later c.give-came.ensures.failed c.settle.ensures.came c.settle.ensures.later c.settle.ensures.failed;
}

pub returns-else-due : goal.returns-else-due
returns-else-due g c = record {
  answers = λ choose h base k chooser taken hold.
      let fits : SFits w64 c.args.moment = search rules in
      let e = entry choose h base k c.args.store.now.run c.args.moment in
      let is = simp to_z-of_z at (c.in-Ok.ensures.accepted choose h base k hold.old chooser taken hold.staged) in
      let h2 = with_order choose h (order e c.args.command) in
      let now = held_accepted g.D.Disk (kind g.M.StoreMemory.takes g.M.Book.ManifestState.fits g.M.StoreMemory.holds) e c.args.command
      c.args.store.now c.accept.new.self
      c.args.disk.now _ hold c.accept.ensures.logs is in
      let clean = IsClean (g.K.Link.faults c.args.link.now) (g.K.Link.faults c.give-came.new.link) (g.K.Link.standing c.args.link.now)
      (g.K.Link.standing c.give-came.new.link) in
      changed g.D.Disk (kind g.M.StoreMemory.takes g.M.Book.ManifestState.fits g.M.StoreMemory.holds) e c.args.command
      (reply c.args.status Json c.args.body.now) clean
      c.give-came.result (g.K.Link.given c.args.link.now) (g.K.Link.given c.give-came.new.link)
      c.args.store.now c.accept.new.self c.accept.new.self c.args.disk.now c.args.disk.now _ hold is c.give-came.ensures.gave
      (λ stays. undue_held g.D.Disk (kind g.M.StoreMemory.takes g.M.Book.ManifestState.fits g.M.StoreMemory.holds) e _ h2
      c.accept.new.self c.args.disk.now
      (sym (c.due-due.ensures choose h2 base k hold.old is.staged) ∙ c.if-due.false) now)
      (subst (λ (run : ℕ). Always g.D.Disk c.args.disk.now c.args.disk.now (StandsIn g.M.Book.ManifestState.fits run choose h2 k))
      (run_accepted g.D.Disk (kind g.M.StoreMemory.takes g.M.Book.ManifestState.fits g.M.StoreMemory.holds) e c.args.command
      c.args.store.now c.accept.new.self
      c.args.disk.now _ hold is)
      (standing g.D.Disk g.M.Book.ManifestState.fits g.M.StoreMemory.holds choose h2 base k c.accept.new.self c.args.disk.now now))
      (open_undamaged g.D.Disk c.args.disk.now c.give-came.result c.give-came.ensures.open);
  left = c.give-came.ensures.left;
  over = λ stays. over_same g.D.Disk g.M.Book.ManifestState.fits c.args.store.now.committer c.accept.new.self.committer c.args.disk.now
      c.accept.ensures.logs c.requires.over;
  measured = λ measured stays. measured_same g.D.Disk c.args.store.now.committer c.accept.new.self.committer c.args.disk.now
      c.accept.ensures.logs
      c.accept.ensures.bytes measured;
  closed = λ down. absurd (open_still c.give-came.result c.give-came.ensures.open down);
  placed = open_placed g.D.Disk c.args.disk.now c.give-came.result c.give-came.ensures.open;
  replied = replied_by (reply c.args.status Json c.args.body.now) true
      (IsClean (g.K.Link.faults c.args.link.now) (g.K.Link.faults c.give-came.new.link) (g.K.Link.standing c.args.link.now)
      (g.K.Link.standing c.give-came.new.link)) c.give-came.result (g.K.Link.given c.args.link.now) (g.K.Link.given c.give-came.new.link)
      c.give-came.ensures.gave;
  run = c.accept.ensures.run;
  remembers = c.accept.ensures.remembers;
  told = λ told. told;
  goes = c.give-came.ensures.goes;
  comes = comes_open (g.K.Link.faults c.args.link.now) (g.K.Link.faults c.args.link.now) (g.K.Link.faults c.give-came.new.link)
      (g.D.Disk.faults c.args.disk.now) (g.D.Disk.faults c.args.disk.now) c.give-came.result (omega arith) c.give-came.ensures.later
      c.give-came.ensures.failed (omega arith) c.give-came.ensures.open;
}

pub returns-in-Err : goal.returns-in-Err
returns-in-Err g c = record {
  answers = λ choose h base k chooser taken hold.
      let fits : SFits w64 c.args.moment = search rules in
      let e = entry choose h base k c.args.store.now.run c.args.moment in
      let refused = simp to_z-of_z at (c.in-Err.ensures.refused choose h base k hold.old chooser taken hold.staged) in
      refused_so g.D.Disk (kind g.M.StoreMemory.takes g.M.Book.ManifestState.fits g.M.StoreMemory.holds) e c.args.command
      (reply c.args.status Json c.args.body.now)
      (IsClean (g.K.Link.faults c.args.link.now) (g.K.Link.faults c.give_refusal.new.link) (g.K.Link.standing c.args.link.now)
      (g.K.Link.standing c.give_refusal.new.link)) c.give_refusal.result
      (g.K.Link.given c.args.link.now) (g.K.Link.given c.give_refusal.new.link) c.args.store.now c.accept.new.self c.args.disk.now
      c.in-Err.refusal refl hold c.accept.ensures.logs c.in-Err.ensures.err refused
      c.give_refusal.ensures.gave c.give_refusal.ensures.open;
  left = c.give_refusal.ensures.left;
  over = λ stays. over_same g.D.Disk g.M.Book.ManifestState.fits c.args.store.now.committer c.accept.new.self.committer c.args.disk.now
      c.accept.ensures.logs c.requires.over;
  measured = λ measured stays. measured_same g.D.Disk c.args.store.now.committer c.accept.new.self.committer c.args.disk.now
      c.accept.ensures.logs
      c.accept.ensures.bytes measured;
  closed = λ down. absurd (open_still c.give_refusal.result c.give_refusal.ensures.open down);
  placed = open_placed g.D.Disk c.args.disk.now c.give_refusal.result c.give_refusal.ensures.open;
  replied = replied_by (refused c.in-Err.refusal) true (IsClean (g.K.Link.faults c.args.link.now) (g.K.Link.faults c.give_refusal.new.link)
      (g.K.Link.standing c.args.link.now) (g.K.Link.standing c.give_refusal.new.link)) c.give_refusal.result
      (g.K.Link.given c.args.link.now) (g.K.Link.given c.give_refusal.new.link) c.give_refusal.ensures.gave;
  run = c.accept.ensures.run;
  remembers = c.accept.ensures.remembers;
  told = λ told. told;
  goes = c.give_refusal.ensures.goes;
  comes = comes_open (g.K.Link.faults c.args.link.now) (g.K.Link.faults c.args.link.now) (g.K.Link.faults c.give_refusal.new.link)
      (g.D.Disk.faults c.args.disk.now) (g.D.Disk.faults c.args.disk.now) c.give_refusal.result (omega arith) c.give_refusal.ensures.later
      c.give_refusal.ensures.failed (omega arith) c.give_refusal.ensures.open;
}

pub settle-requires-clause-over : goal.settle-requires-clause-over
settle-requires-clause-over g c = over_same g.D.Disk g.M.Book.ManifestState.fits c.args.store.now.committer c.accept.new.self.committer
    c.args.disk.now c.accept.ensures.logs c.requires.over

pub settle-requires-clause-open : goal.settle-requires-clause-open
settle-requires-clause-open g c = c.give-came.ensures.open
