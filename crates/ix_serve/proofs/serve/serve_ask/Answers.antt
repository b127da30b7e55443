use Rattle.std.proofs.Common.{refl, sym, subst, true, arith, rules}
use mir.Val.{SFits}
use Rattle.std.specs.Int.{w64}
use Rattle.std.proofs.lemmas.Int.{to_z-of_z}
use Rattle.ix_http.specs.declared.kinds.Ask.{Ask}
use Rattle.ix_serve.specs.Answer.{MayBe}
use Rattle.ix_serve.specs.Entries.{entry}
use Rattle.ix_serve.specs.Kinds.{kind}
use Rattle.ix_serve.specs.Serving.{Answers, IsClean, IsTold, outcome}
use Rattle.ix_serve.proofs.Answering.{comes_open}
use Rattle.ix_serve.proofs.Asking.{listed_answers}
use Rattle.ix_serve.proofs.Closing.{open_still, open_placed, placed_at_end}
use Rattle.ix_store.proofs.Recalling.{remembers_same}
use Rattle.ix_serve.proofs.serve.serve_ask.Goals as goal

pub returns-in-Begin : goal.returns-in-Begin
returns-in-Begin g c = record {
  answers = λ choose h base k chooser taken hold.
      let fits : SFits w64 c.args.moment = search rules in
      let e = entry choose h base k c.args.store.now.run c.args.moment in
      subst (λ (ask : Ask). Answers g.D.Disk (kind g.M.StoreMemory.takes g.M.Book.ManifestState.fits g.M.StoreMemory.holds) e
      (MayBe e (IsTold g.D.Disk c.serve_begin.new.disk) ask c.serve_begin.result) true
      (outcome c.serve_begin.result (IsClean (g.K.Link.faults c.args.link.now) (g.K.Link.faults c.serve_begin.new.link)
      (g.K.Link.standing c.args.link.now)
      (g.K.Link.standing c.serve_begin.new.link))
      (g.K.Link.given c.args.link.now) (g.K.Link.given c.serve_begin.new.link)) c.serve_begin.new.store c.args.disk.now
      c.serve_begin.new.disk)
      (sym c.in-Begin.is) (simp to_z-of_z at (c.serve_begin.ensures.answers choose h base k chooser taken hold));
  left = c.serve_begin.ensures.left;
  over = c.serve_begin.ensures.over;
  measured = c.serve_begin.ensures.measured;
  closed = c.serve_begin.ensures.closed;
  placed = placed_at_end g.D.Disk (g.M.StoreMemory.shown c.serve_begin.new.store.memory) c.serve_begin.new.disk c.serve_begin.result
      c.serve_begin.ensures.placed;
  replied = c.serve_begin.ensures.replied;
  run = c.serve_begin.ensures.run;
  remembers = c.serve_begin.ensures.remembers;
  told = c.serve_begin.ensures.told;
  goes = c.serve_begin.ensures.goes;
  comes = c.serve_begin.ensures.comes;
}

pub returns-in-Block : goal.returns-in-Block
returns-in-Block g c = record {
  answers = λ choose h base k chooser taken hold.
      let fits : SFits w64 c.args.moment = search rules in
      let e = entry choose h base k c.args.store.now.run c.args.moment in
      subst (λ (ask : Ask). Answers g.D.Disk (kind g.M.StoreMemory.takes g.M.Book.ManifestState.fits g.M.StoreMemory.holds) e
      (MayBe e (IsTold g.D.Disk c.serve_block.new.disk) ask c.serve_block.result) true
      (outcome c.serve_block.result (IsClean (g.K.Link.faults c.args.link.now) (g.K.Link.faults c.serve_block.new.link)
      (g.K.Link.standing c.args.link.now)
      (g.K.Link.standing c.serve_block.new.link))
      (g.K.Link.given c.args.link.now) (g.K.Link.given c.serve_block.new.link)) c.serve_block.new.store c.args.disk.now
      c.serve_block.new.disk)
      (sym c.in-Block.is) (simp to_z-of_z at (c.serve_block.ensures.answers choose h base k chooser taken hold));
  left = c.serve_block.ensures.left;
  over = c.serve_block.ensures.over;
  measured = c.serve_block.ensures.measured;
  closed = c.serve_block.ensures.closed;
  placed = placed_at_end g.D.Disk (g.M.StoreMemory.shown c.serve_block.new.store.memory) c.serve_block.new.disk c.serve_block.result
      c.serve_block.ensures.placed;
  replied = c.serve_block.ensures.replied;
  run = c.serve_block.ensures.run;
  remembers = c.serve_block.ensures.remembers;
  told = c.serve_block.ensures.told;
  goes = c.serve_block.ensures.goes;
  comes = c.serve_block.ensures.comes;
}

pub returns-in-End : goal.returns-in-End
returns-in-End g c = record {
  answers = λ choose h base k chooser taken hold.
      let fits : SFits w64 c.args.moment = search rules in
      let e = entry choose h base k c.args.store.now.run c.args.moment in
      subst (λ (ask : Ask). Answers g.D.Disk (kind g.M.StoreMemory.takes g.M.Book.ManifestState.fits g.M.StoreMemory.holds) e
      (MayBe e (IsTold g.D.Disk c.serve_end.new.disk) ask c.serve_end.result) true
      (outcome c.serve_end.result (IsClean (g.K.Link.faults c.args.link.now) (g.K.Link.faults c.serve_end.new.link)
      (g.K.Link.standing c.args.link.now)
      (g.K.Link.standing c.serve_end.new.link))
      (g.K.Link.given c.args.link.now) (g.K.Link.given c.serve_end.new.link)) c.serve_end.new.store c.args.disk.now c.serve_end.new.disk)
      (sym c.in-End.is) (simp to_z-of_z at (c.serve_end.ensures.answers choose h base k chooser taken hold));
  left = c.serve_end.ensures.left;
  over = c.serve_end.ensures.over;
  measured = c.serve_end.ensures.measured;
  closed = c.serve_end.ensures.closed;
  placed = placed_at_end g.D.Disk (g.M.StoreMemory.shown c.serve_end.new.store.memory) c.serve_end.new.disk c.serve_end.result
      c.serve_end.ensures.placed;
  replied = c.serve_end.ensures.replied;
  run = c.serve_end.ensures.run;
  remembers = c.serve_end.ensures.remembers;
  told = c.serve_end.ensures.told;
  goes = c.serve_end.ensures.goes;
  comes = c.serve_end.ensures.comes;
}

pub returns-in-Acks : goal.returns-in-Acks
returns-in-Acks g c = record {
  answers = λ choose h base k chooser taken hold.
      let fits : SFits w64 c.args.moment = search rules in
      let e = entry choose h base k c.args.store.now.run c.args.moment in
      subst (λ (ask : Ask). Answers g.D.Disk (kind g.M.StoreMemory.takes g.M.Book.ManifestState.fits g.M.StoreMemory.holds) e
      (MayBe e (IsTold g.D.Disk c.serve_acks.new.disk) ask c.serve_acks.result) true
      (outcome c.serve_acks.result (IsClean (g.K.Link.faults c.args.link.now) (g.K.Link.faults c.serve_acks.new.link)
      (g.K.Link.standing c.args.link.now)
      (g.K.Link.standing c.serve_acks.new.link))
      (g.K.Link.given c.args.link.now) (g.K.Link.given c.serve_acks.new.link)) c.serve_acks.new.store c.args.disk.now c.serve_acks.new.disk)
      (sym c.in-Acks.is) (simp to_z-of_z at (c.serve_acks.ensures.answers choose h base k chooser taken hold));
  left = c.serve_acks.ensures.left;
  over = c.serve_acks.ensures.over;
  measured = c.serve_acks.ensures.measured;
  closed = c.serve_acks.ensures.closed;
  placed = placed_at_end g.D.Disk (g.M.StoreMemory.shown c.serve_acks.new.store.memory) c.serve_acks.new.disk c.serve_acks.result
      c.serve_acks.ensures.placed;
  replied = c.serve_acks.ensures.replied;
  run = c.serve_acks.ensures.run;
  remembers = remembers_same g.M.StoreMemory.is_chooser g.M.StoreMemory.takes g.M.StoreMemory.holds c.args.store.now.memory
      c.serve_acks.new.store.memory
      c.serve_acks.ensures.memory;
  told = c.serve_acks.ensures.told;
  goes = c.serve_acks.ensures.goes;
  comes = c.serve_acks.ensures.comes;
}

pub returns-in-Events : goal.returns-in-Events
returns-in-Events g c = record {
  answers = λ choose h base k chooser taken hold.
      let fits : SFits w64 c.args.moment = search rules in
      let e = entry choose h base k c.args.store.now.run c.args.moment in
      subst (λ (ask : Ask). Answers g.D.Disk (kind g.M.StoreMemory.takes g.M.Book.ManifestState.fits g.M.StoreMemory.holds) e
      (MayBe e (IsTold g.D.Disk c.serve_events.new.disk) ask c.serve_events.result) true
      (outcome c.serve_events.result (IsClean (g.K.Link.faults c.args.link.now) (g.K.Link.faults c.serve_events.new.link)
      (g.K.Link.standing c.args.link.now)
      (g.K.Link.standing c.serve_events.new.link))
      (g.K.Link.given c.args.link.now) (g.K.Link.given c.serve_events.new.link)) c.serve_events.new.store c.args.disk.now
      c.serve_events.new.disk)
      (sym c.in-Events.is) (simp to_z-of_z at (c.serve_events.ensures.answers choose h base k chooser taken hold));
  left = c.serve_events.ensures.left;
  over = c.serve_events.ensures.over;
  measured = c.serve_events.ensures.measured;
  closed = c.serve_events.ensures.closed;
  placed = c.serve_events.ensures.placed;
  replied = c.serve_events.ensures.replied;
  run = c.serve_events.ensures.run;
  remembers = remembers_same g.M.StoreMemory.is_chooser g.M.StoreMemory.takes g.M.StoreMemory.holds c.args.store.now.memory
      c.serve_events.new.store.memory
      c.serve_events.ensures.memory;
  told = c.serve_events.ensures.told;
  goes = c.serve_events.ensures.goes;
  comes = c.serve_events.ensures.comes;
}

pub returns-in-Buckets : goal.returns-in-Buckets
returns-in-Buckets g c = record {
  answers = λ choose h base k chooser taken hold.
      let fits : SFits w64 c.args.moment = search rules in
      let e = entry choose h base k c.args.store.now.run c.args.moment in
      subst (λ (ask : Ask). Answers g.D.Disk (kind g.M.StoreMemory.takes g.M.Book.ManifestState.fits g.M.StoreMemory.holds) e
      (MayBe e (IsTold g.D.Disk c.args.disk.now) ask c.serve_buckets.result) true
      (outcome c.serve_buckets.result (IsClean (g.K.Link.faults c.args.link.now) (g.K.Link.faults c.serve_buckets.new.link)
      (g.K.Link.standing c.args.link.now)
      (g.K.Link.standing c.serve_buckets.new.link))
      (g.K.Link.given c.args.link.now) (g.K.Link.given c.serve_buckets.new.link)) c.args.store.now c.args.disk.now c.args.disk.now)
      (sym c.in-Buckets.is) (listed_answers g.D.Disk (kind g.M.StoreMemory.takes g.M.Book.ManifestState.fits g.M.StoreMemory.holds) e
      (IsClean (g.K.Link.faults c.args.link.now) (g.K.Link.faults c.serve_buckets.new.link) (g.K.Link.standing c.args.link.now)
      (g.K.Link.standing c.serve_buckets.new.link)) c.serve_buckets.result (g.K.Link.given c.args.link.now)
      (g.K.Link.given c.serve_buckets.new.link)
      c.args.store.now c.args.disk.now c.serve_buckets.ensures.open refl hold
      (c.serve_buckets.ensures.lists e hold.old (refl, hold.staged)));
  left = c.serve_buckets.ensures.left;
  over = λ stays. c.requires.over;
  measured = λ measured stays. measured;
  closed = λ down. absurd (open_still c.serve_buckets.result c.serve_buckets.ensures.open down);
  placed = placed_at_end g.D.Disk (g.M.StoreMemory.shown c.args.store.now.memory) c.args.disk.now c.serve_buckets.result
      (open_placed g.D.Disk c.args.disk.now c.serve_buckets.result c.serve_buckets.ensures.open);
  replied = c.serve_buckets.ensures.replied;
  run = refl;
  remembers = remembers_same g.M.StoreMemory.is_chooser g.M.StoreMemory.takes g.M.StoreMemory.holds c.args.store.now.memory
      c.args.store.now.memory refl;
  told = λ told. told;
  goes = c.serve_buckets.ensures.goes;
  comes = comes_open (g.K.Link.faults c.args.link.now) (g.K.Link.faults c.args.link.now) (g.K.Link.faults c.serve_buckets.new.link)
      (g.D.Disk.faults c.args.disk.now) (g.D.Disk.faults c.args.disk.now) c.serve_buckets.result (omega arith) c.serve_buckets.ensures.later
      c.serve_buckets.ensures.failed (omega arith) c.serve_buckets.ensures.open;
}

pub serve_begin-requires-clause-over : goal.serve_begin-requires-clause-over
serve_begin-requires-clause-over g c = c.requires.over

pub serve_block-requires-clause-over : goal.serve_block-requires-clause-over
serve_block-requires-clause-over g c = c.requires.over

pub serve_end-requires-clause-over : goal.serve_end-requires-clause-over
serve_end-requires-clause-over g c = c.requires.over

pub serve_acks-requires : goal.serve_acks-requires
serve_acks-requires g c = record { over = c.requires.over }

pub serve_events-requires : goal.serve_events-requires
serve_events-requires g c = record { over = c.requires.over }
