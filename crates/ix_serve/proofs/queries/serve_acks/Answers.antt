use Rattle.std.proofs.Common.{ℕ, Bool, List, refl, subst, Some, true, arith}
use Rattle.ix_http.specs.declared.kinds.Ask.TheVariants as asks
use Rattle.ix_serve.specs.Answer.{MayBe}
use Rattle.ix_serve.specs.Entries.{entry}
use Rattle.ix_serve.specs.Kinds.{kind}
use Rattle.ix_serve.specs.Serving.{AreTold, IsClean, IsTold}
use Rattle.ix_serve.proofs.Answering.{comes_open, comes_settled, idle, queried, wrote_settled, due_held}
use Rattle.ix_serve.proofs.Closing.{open_placed, open_still, replied_settled}
use Rattle.ix_serve.proofs.queries.serve_acks.Goals as goal

pub returns-then-due : goal.returns-then-due
returns-then-due g c = record {
  answers = λ choose h base k chooser taken hold.
      let e = entry choose h base k c.args.store.now.run c.args.moment in
      let clean = IsClean (g.K.Link.faults c.args.link.now) (g.K.Link.faults c.give_acks-came.new.link) (g.K.Link.standing c.args.link.now)
      (g.K.Link.standing c.give_acks-came.new.link) in
      let told = subst (λ (l : List ℕ). AreTold e c.args.run l clean c.give_acks-came.result.0 c.give_acks-came.result.1
      (g.K.Link.given c.args.link.now) (g.K.Link.given c.give_acks-came.new.link)) c.as_slice.ensures
      (c.give_acks-came.ensures.told e hold.old (refl, hold.staged)) in
      queried g.D.Disk (kind g.M.StoreMemory.takes g.M.Book.ManifestState.fits g.M.StoreMemory.holds) e
      (MayBe e (IsTold g.D.Disk c.settle.new.disk) (asks.Acks c.args.run c.args.numbers.now) c.settle.result) true clean c.settle.result
      (g.K.Link.given c.args.link.now) (g.K.Link.given c.give_acks-came.new.link) c.settle.new.store c.args.disk.now c.settle.new.disk
      (Some told.reply) c.give_acks-came.result.1
      told.may_be
      (wrote_settled told.reply true clean c.give_acks-came.result.0 c.settle.result (g.K.Link.given c.args.link.now)
      (g.K.Link.given c.give_acks-came.new.link) c.settle.ensures.came told.gave)
      (λ stays. due_held g.D.Disk (kind g.M.StoreMemory.takes g.M.Book.ManifestState.fits g.M.StoreMemory.holds) e
      c.give_acks-came.result.1 h c.settle.new.store
      c.settle.new.disk hold.staged.within (c.settle.ensures.done choose h base k hold stays))
      (c.settle.ensures.images choose h base k hold)
      (c.settle.ensures.undamaged choose h base k hold);
  left = c.give_acks-came.ensures.left;
  over = c.settle.ensures.over;
  measured = c.settle.ensures.measured;
  closed = c.settle.ensures.closed;
  placed = c.settle.ensures.placed;
  replied = replied_settled true c.give_acks-came.result.0 c.settle.result c.settle.ensures.came c.give_acks-came.ensures.replied;
  run = c.settle.ensures.run;
  memory = c.settle.ensures.memory;
  told = c.settle.ensures.told;
  goes = c.give_acks-came.ensures.goes;
  comes = comes_settled (g.K.Link.faults c.args.link.now) (g.K.Link.faults c.give_acks-came.new.link) (g.D.Disk.faults c.args.disk.now)
      (g.D.Disk.faults c.settle.new.disk) c.give_acks-came.result.0 c.settle.result
      c.give_acks-came.ensures.later c.give_acks-came.ensures.failed c.settle.ensures.came c.settle.ensures.later c.settle.ensures.failed;
}

pub returns-else-due : goal.returns-else-due
returns-else-due g c = record {
  answers = λ choose h base k chooser taken hold.
      let e = entry choose h base k c.args.store.now.run c.args.moment in
      let clean = IsClean (g.K.Link.faults c.args.link.now) (g.K.Link.faults c.give_acks-came.new.link) (g.K.Link.standing c.args.link.now)
      (g.K.Link.standing c.give_acks-came.new.link) in
      let told = subst (λ (b : Bool). AreTold e c.args.run c.args.numbers.now clean c.give_acks-came.result.0 b
      (g.K.Link.given c.args.link.now) (g.K.Link.given c.give_acks-came.new.link)) c.if-due.false
      (subst (λ (l : List ℕ). AreTold e c.args.run l clean c.give_acks-came.result.0 c.give_acks-came.result.1
      (g.K.Link.given c.args.link.now) (g.K.Link.given c.give_acks-came.new.link)) c.as_slice.ensures
      (c.give_acks-came.ensures.told e hold.old (refl, hold.staged))) in
      idle g.D.Disk (kind g.M.StoreMemory.takes g.M.Book.ManifestState.fits g.M.StoreMemory.holds) e
      (MayBe e (IsTold g.D.Disk c.args.disk.now) (asks.Acks c.args.run c.args.numbers.now) c.give_acks-came.result.0) true clean
      c.give_acks-came.result.0
      (g.K.Link.given c.args.link.now) (g.K.Link.given c.give_acks-came.new.link) c.args.store.now c.args.disk.now (Some told.reply)
      told.may_be told.gave c.give_acks-came.ensures.open refl hold;
  left = c.give_acks-came.ensures.left;
  over = λ stays. c.requires.over;
  measured = λ measured stays. measured;
  closed = λ down. absurd (open_still c.give_acks-came.result.0 c.give_acks-came.ensures.open down);
  placed = open_placed g.D.Disk c.args.disk.now c.give_acks-came.result.0 c.give_acks-came.ensures.open;
  replied = c.give_acks-came.ensures.replied;
  run = refl;
  memory = refl;
  told = λ told. told;
  goes = c.give_acks-came.ensures.goes;
  comes = comes_open (g.K.Link.faults c.args.link.now) (g.K.Link.faults c.args.link.now) (g.K.Link.faults c.give_acks-came.new.link)
      (g.D.Disk.faults c.args.disk.now) (g.D.Disk.faults c.args.disk.now) c.give_acks-came.result.0 (omega arith)
      c.give_acks-came.ensures.later c.give_acks-came.ensures.failed (omega arith) c.give_acks-came.ensures.open;
}

pub settle-requires-clause-over : goal.settle-requires-clause-over
settle-requires-clause-over g c = c.requires.over

pub settle-requires-clause-open : goal.settle-requires-clause-open
settle-requires-clause-open g c = c.give_acks-came.ensures.open
