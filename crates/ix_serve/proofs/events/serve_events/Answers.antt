use Rattle.std.proofs.Common.{◌≡◌, ◌∙◌, ℕ, List, refl, sym, ap, subst, inl, inr, ⊎_elim, Some, true, false, arith}
use Rattle.ix_http.specs.declared.kinds.Ask.TheVariants as asks
use Rattle.ix_serve.specs.Answer.{MayBe, IsExport, says, answer_of_fault}
use Rattle.ix_serve.specs.Entries.{entry}
use Rattle.ix_serve.specs.Exports.{reply_of, MayReply}
use Rattle.ix_serve.specs.Replies.{Reply, no_memory, broken}
use Rattle.ix_serve.specs.Kinds.{kind}
use Rattle.ix_serve.specs.Serving.{IsClean, IsOpen, IsTold}
use Rattle.ix_serve.specs.declared.served.ServeFault.TheVariants as fault
use Rattle.ix_serve.proofs.Answering.{comes_open, comes_closed, err_back, queried, due_held, open_undamaged, closed, damaged_back}
use Rattle.ix_serve.proofs.Closing.{open_still, replied_by, replied_err, open_placed, placed_at_end}
use Rattle.ix_serve.proofs.events.serve_events.Goals as goal

pub returns-in-Ok : goal.returns-in-Ok
returns-in-Ok g c = record {
  answers = λ choose h base k chooser taken hold.
      let e = entry choose h base k c.args.store.now.run c.args.moment in
      let told = IsTold g.D.Disk c.committed_lines.new.disk in
      let may = MayBe e told (asks.Events c.args.index.now c.args.range) c.give_exported.result in
      let clean = IsClean (g.K.Link.faults c.args.link.now) (g.K.Link.faults c.give_exported.new.link) (g.K.Link.standing c.args.link.now)
      (g.K.Link.standing c.give_exported.new.link) in
      let said = reply_of c.in-Ok.exported in
      let now = c.in-Ok.ensures.held choose h base k hold in
      let reply : MayReply told e c.args.index.now c.args.range said =
      subst (λ (name : List ℕ). MayReply told e name c.args.range said) c.as_slice.ensures (c.in-Ok.ensures.reply e chooser taken hold) in
      ⊎_elim
      (λ (none : said ≡ no_memory). queried g.D.Disk (kind g.M.StoreMemory.takes g.M.Book.ManifestState.fits g.M.StoreMemory.holds) e may
      true clean
      c.give_exported.result (g.K.Link.given c.args.link.now) (g.K.Link.given c.give_exported.new.link)
      c.committed_lines.new.store c.args.disk.now c.committed_lines.new.disk (Some said) false
      (inr (inl (ap (λ (r : Reply). says false r) none))) c.give_exported.ensures.gave
      (λ stays. due_held g.D.Disk (kind g.M.StoreMemory.takes g.M.Book.ManifestState.fits g.M.StoreMemory.holds) e false h
      c.committed_lines.new.store
      c.committed_lines.new.disk hold.staged.within now)
      (c.committed_lines.ensures.images choose h base k hold)
      (open_undamaged g.D.Disk c.committed_lines.new.disk c.give_exported.result c.give_exported.ensures.open))
      (λ (is : IsExport told e c.args.index.now c.args.range said).
      queried g.D.Disk (kind g.M.StoreMemory.takes g.M.Book.ManifestState.fits g.M.StoreMemory.holds) e may true clean
      c.give_exported.result
      (g.K.Link.given c.args.link.now) (g.K.Link.given c.give_exported.new.link)
      c.committed_lines.new.store c.args.disk.now c.committed_lines.new.disk (Some said) true (inl (said, is, refl))
      c.give_exported.ensures.gave
      (λ stays. due_held g.D.Disk (kind g.M.StoreMemory.takes g.M.Book.ManifestState.fits g.M.StoreMemory.holds) e true h
      c.committed_lines.new.store
      c.committed_lines.new.disk hold.staged.within now)
      (c.committed_lines.ensures.images choose h base k hold)
      (open_undamaged g.D.Disk c.committed_lines.new.disk c.give_exported.result c.give_exported.ensures.open))
      reply;
  left = c.give_exported.ensures.left;
  over = λ stays. c.in-Ok.ensures.over;
  measured = λ measured stays. c.in-Ok.ensures.measured measured;
  closed = λ down. absurd (open_still c.give_exported.result c.give_exported.ensures.open down);
  placed = placed_at_end g.D.Disk (g.M.StoreMemory.shown c.committed_lines.new.store.memory) c.committed_lines.new.disk
      c.give_exported.result
      (open_placed g.D.Disk c.committed_lines.new.disk c.give_exported.result c.give_exported.ensures.open);
  replied = replied_by (reply_of c.in-Ok.exported) true
      (IsClean (g.K.Link.faults c.args.link.now) (g.K.Link.faults c.give_exported.new.link) (g.K.Link.standing c.args.link.now)
      (g.K.Link.standing c.give_exported.new.link)) c.give_exported.result (g.K.Link.given c.args.link.now)
      (g.K.Link.given c.give_exported.new.link) c.give_exported.ensures.gave;
  run = c.committed_lines.ensures.run;
  memory = c.committed_lines.ensures.memory;
  told = c.committed_lines.ensures.told;
  goes = c.give_exported.ensures.goes;
  comes = comes_open (g.K.Link.faults c.args.link.now) (g.K.Link.faults c.args.link.now) (g.K.Link.faults c.give_exported.new.link)
      (g.D.Disk.faults c.args.disk.now) (g.D.Disk.faults c.committed_lines.new.disk) c.give_exported.result (omega arith)
      c.give_exported.ensures.later c.give_exported.ensures.failed c.committed_lines.ensures.later
      c.give_exported.ensures.open;
}

pub returns-in-Err : goal.returns-in-Err
returns-in-Err g c = record {
  answers = λ choose h base k chooser taken hold.
      let e = entry choose h base k c.args.store.now.run c.args.moment in
      let told = IsTold g.D.Disk c.committed_lines.new.disk in
      let may = MayBe e told (asks.Events c.args.index.now c.args.range) c.give_up.result in
      let clean = IsClean (g.K.Link.faults c.args.link.now) (g.K.Link.faults c.give_up.new.link) (g.K.Link.standing c.args.link.now)
      (g.K.Link.standing c.give_up.new.link) in
      queried g.D.Disk (kind g.M.StoreMemory.takes g.M.Book.ManifestState.fits g.M.StoreMemory.holds) e may true clean c.give_up.result
      (g.K.Link.given c.args.link.now)
      (g.K.Link.given c.give_up.new.link)
      c.committed_lines.new.store c.args.disk.now c.committed_lines.new.disk (Some (broken c.in-Err.cause)) false
      (inr (inr (c.in-Err.cause, c.give_up.ensures.result, refl))) c.give_up.ensures.gave
      (λ stays. absurd (closed c.in-Err.cause (subst IsOpen c.give_up.ensures.result stays)))
      (c.committed_lines.ensures.images choose h base k hold)
      (λ file at is image seen.
      let same = err_back (answer_of_fault c.in-Err.cause) (fault.Damaged file at) (sym c.give_up.ensures.result ∙ is) in
      c.in-Err.ensures.undamaged choose h base k chooser taken hold file at (damaged_back c.in-Err.cause file at same) image seen);
  left = c.give_up.ensures.left;
  over = λ stays. absurd (closed c.in-Err.cause (subst IsOpen c.give_up.ensures.result stays));
  measured = λ measured stays. absurd (closed c.in-Err.cause (subst IsOpen c.give_up.ensures.result stays));
  closed = λ down. c.in-Err.ensures.closed;
  placed = λ file at is image seen. c.in-Err.ensures.placed file at
      (damaged_back c.in-Err.cause file at (err_back (answer_of_fault c.in-Err.cause) (fault.Damaged file at) (sym c.give_up.ensures.result
      ∙ is))) image seen;
  replied = replied_err true c.in-Err.cause c.give_up.result c.give_up.ensures.result;
  run = c.committed_lines.ensures.run;
  memory = c.committed_lines.ensures.memory;
  told = c.committed_lines.ensures.told;
  goes = c.give_up.ensures.goes;
  comes = comes_closed (g.K.Link.faults c.args.link.now) (g.K.Link.faults c.give_up.new.link) (g.D.Disk.faults c.args.disk.now)
      (g.D.Disk.faults c.committed_lines.new.disk) c.give_up.result c.in-Err.cause c.give_up.ensures.result c.give_up.ensures.later
      c.committed_lines.ensures.later c.in-Err.ensures.failed;
}

pub committed_lines-requires : goal.committed_lines-requires
committed_lines-requires g c = record { over = c.requires.over }
