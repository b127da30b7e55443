use Rattle.std.proofs.Common.{◌∙◌, ℕ, ◌++◌, ap, subst, inl, Result, Ok, rules, arith, sym}
use mir.Val.{SFits}
use Rattle.std.specs.Int.{w64}
use Rattle.std.proofs.lemmas.Int.{to_z-of_z}
use Rattle.ix_disk.specs.Moments.{Always}
use Rattle.ix_commit.specs.Contents.{Anyhow}
use Rattle.ix_serve.specs.Entries.{entry}
use Rattle.ix_serve.specs.Prefixes.{StandsIn}
use Rattle.ix_serve.specs.Kinds.{kind}
use Rattle.ix_serve.specs.Serving.{IsClean, IsTold, Serves, Reads, outcome}
use Rattle.ix_serve.specs.declared.served.Served.{Served}
use Rattle.ix_serve.specs.declared.served.Served.TheVariants as served
use Rattle.ix_serve.specs.declared.served.ServeFault.{ServeFault}
use Rattle.ix_serve.specs.declared.served.ServeFault.TheVariants as fault
use Rattle.ix_serve.proofs.Answering.{err_back, not_open}
use Rattle.ix_serve.proofs.Behind.{comes_reply, comes_fault, serves_short, serves_failed}
use Rattle.ix_serve.proofs.Standing.{tells_on}
use Rattle.ix_serve.proofs.Taking.{says_taken}
use Rattle.ix_serve.proofs.Closing.{reads_again, reads_fault, open_placed, placed_at_end}
use Rattle.std.proofs.lemmas.Bool.{false≢true}
use Rattle.ix_store.proofs.Recalling.{remembers_behind}
use Rattle.ix_serve.proofs.serve.serve_one.Goals as goal

pub returns-in-Ok : goal.returns-in-Ok
returns-in-Ok g c = record {
  serves = λ choose h base k chooser taken hold.
      let fits : SFits w64 c.args.moment = search rules in
      let e = entry choose h base k c.args.store.now.run c.args.moment in
      let clean = IsClean (g.K.Link.faults c.args.link.now) (g.K.Link.faults c.serve_request.new.link) (g.K.Link.standing c.args.link.now)
      (g.K.Link.standing c.serve_request.new.link) in
      let first = simp to_z-of_z at (c.serve_request.ensures.serves choose h base k chooser taken hold) in
      let after = h ++ first.answers.answer.more in
      let given = says_taken g.M.StoreMemory.takes g.met.M.StoreMemory.ticks_are_taken c.requires.takes e taken
      (IsTold g.D.Disk c.serve_request.new.disk) first.read c.serve_request.result first.answers.answer first.within
      first.answers.may_be in
      serves_short g.D.Disk (kind g.M.StoreMemory.takes g.M.Book.ManifestState.fits g.M.StoreMemory.holds) e clean c.serve_request.result
      c.in-Ok-Reply.status
      c.in-Ok-Reply.delimited _
      (g.K.Link.left c.args.link.now) (g.K.Link.left c.serve_request.new.link) (g.K.Link.given c.args.link.now)
      (g.K.Link.given c.serve_request.new.link)
      c.serve_request.new.store c.shorten_behind.new.store c.args.disk.now c.serve_request.new.disk c.shorten_behind.new.disk Anyhow first
      (c.in-Ok-Reply.is ∙ ap Ok c.in-Ok-Reply.field-0-is) c.shorten_behind.ensures.told
      c.in-Ok.unshortened (λ n held. c.in-Ok.ensures.held choose after base n chooser given held)
      (λ n held. subst (λ (run : ℕ). Always g.D.Disk c.serve_request.new.disk c.shorten_behind.new.disk
      (StandsIn g.M.Book.ManifestState.fits run choose after n)) c.serve_request.ensures.run
      (c.shorten_behind.ensures.images choose after base n chooser given held));
  short = c.in-Ok.ensures.short;
  long = c.in-Ok.ensures.long;
  over = λ stays. c.in-Ok.ensures.over;
  measured = λ measured stays. c.in-Ok.ensures.measured (c.in-Ok-Reply.ensures.measured measured tt);
  closed = λ down. absurd (false≢true (sym down));
  placed = placed_at_end g.D.Disk (g.M.StoreMemory.shown c.shorten_behind.new.store.memory) c.shorten_behind.new.disk
      (Ok (served.Reply c.in-Ok-Reply.status c.in-Ok-Reply.delimited c.in-Ok.unshortened))
      (open_placed g.D.Disk c.shorten_behind.new.disk
      (Ok (served.Reply c.in-Ok-Reply.status c.in-Ok-Reply.delimited c.in-Ok.unshortened)) tt);
  reads = reads_again c.serve_request.result c.in-Ok-Reply.status c.in-Ok-Reply.delimited _ (g.K.Link.left c.args.link.now)
      (g.K.Link.left c.serve_request.new.link) (c.in-Ok-Reply.is
      ∙ ap Ok c.in-Ok-Reply.field-0-is) c.serve_request.ensures.reads c.in-Ok.unshortened;
  run = c.shorten_behind.ensures.run ∙ c.serve_request.ensures.run;
  remembers = remembers_behind g.M.StoreMemory.is_chooser g.M.StoreMemory.takes g.M.StoreMemory.holds c.args.store.now.memory
      c.serve_request.new.store.memory
      c.shorten_behind.new.store.memory c.shorten_behind.ensures.memory c.serve_request.ensures.remembers;
  told = λ told. tells_on g.D.Disk _ c.serve_request.new.disk c.shorten_behind.new.disk c.shorten_behind.ensures.told
      (c.serve_request.ensures.told told);
  goes = c.serve_request.ensures.goes;
  comes = comes_reply (g.K.Link.faults c.args.link.now) (g.K.Link.faults c.serve_request.new.link) (g.D.Disk.faults c.args.disk.now)
      (g.D.Disk.faults c.serve_request.new.disk)
      (g.D.Disk.faults c.shorten_behind.new.disk) c.serve_request.result c.serve_request.ensures.comes c.shorten_behind.ensures.later
      (served.Reply c.in-Ok-Reply.status c.in-Ok-Reply.delimited c.in-Ok.unshortened);
}

pub returns-in-Err-shorten_behind : goal.returns-in-Err-shorten_behind
returns-in-Err-shorten_behind g c = record {
  serves = λ choose h base k chooser taken hold.
      let fits : SFits w64 c.args.moment = search rules in
      let e = entry choose h base k c.args.store.now.run c.args.moment in
      let clean = IsClean (g.K.Link.faults c.args.link.now) (g.K.Link.faults c.serve_request.new.link) (g.K.Link.standing c.args.link.now)
      (g.K.Link.standing c.serve_request.new.link) in
      let first = simp to_z-of_z at (c.serve_request.ensures.serves choose h base k chooser taken hold) in
      let after = h ++ first.answers.answer.more in
      let given = says_taken g.M.StoreMemory.takes g.met.M.StoreMemory.ticks_are_taken c.requires.takes e taken
      (IsTold g.D.Disk c.serve_request.new.disk) first.read c.serve_request.result first.answers.answer first.within
      first.answers.may_be in
      serves_failed g.D.Disk (kind g.M.StoreMemory.takes g.M.Book.ManifestState.fits g.M.StoreMemory.holds) e clean c.serve_request.result
      c.in-Ok-Reply.status
      c.in-Ok-Reply.delimited _
      (g.K.Link.left c.args.link.now) (g.K.Link.left c.serve_request.new.link) (g.K.Link.given c.args.link.now)
      (g.K.Link.given c.serve_request.new.link)
      c.serve_request.new.store c.shorten_behind.new.store c.args.disk.now c.serve_request.new.disk c.shorten_behind.new.disk Anyhow first
      (c.in-Ok-Reply.is ∙ ap Ok c.in-Ok-Reply.field-0-is) c.shorten_behind.ensures.told
      c.in-Err-shorten_behind.fault c.in-Err-shorten_behind.ensures.cause.0 c.in-Err-shorten_behind.ensures.cause.1
      (λ n held. c.in-Err-shorten_behind.ensures.undamaged choose after base n held)
      (λ n held. subst (λ (run : ℕ). Always g.D.Disk c.serve_request.new.disk c.shorten_behind.new.disk
      (StandsIn g.M.Book.ManifestState.fits run choose after n)) c.serve_request.ensures.run
      (c.shorten_behind.ensures.images choose after base n chooser given held));
  short = λ choose h base k hold. tt;
  long = tt;
  over = λ stays. absurd (not_open c.in-Err-shorten_behind.fault c.in-Err-shorten_behind.ensures.cause.0
      c.in-Err-shorten_behind.ensures.cause.1 stays);
  measured = λ measured stays. absurd (not_open c.in-Err-shorten_behind.fault c.in-Err-shorten_behind.ensures.cause.0
      c.in-Err-shorten_behind.ensures.cause.1 stays);
  closed = λ down. c.in-Err-shorten_behind.ensures.closed;
  placed = λ file at is image told. inl (c.in-Err-shorten_behind.ensures.placed file at
      (err_back c.in-Err-shorten_behind.fault (fault.Damaged file at) is) image told);
  reads = reads_fault c.serve_request.result c.in-Ok-Reply.status c.in-Ok-Reply.delimited _ (g.K.Link.left c.args.link.now)
      (g.K.Link.left c.serve_request.new.link) (c.in-Ok-Reply.is
      ∙ ap Ok c.in-Ok-Reply.field-0-is) c.serve_request.ensures.reads c.in-Err-shorten_behind.fault c.in-Err-shorten_behind.ensures.cause.0
      c.in-Err-shorten_behind.ensures.cause.1;
  run = c.shorten_behind.ensures.run ∙ c.serve_request.ensures.run;
  remembers = remembers_behind g.M.StoreMemory.is_chooser g.M.StoreMemory.takes g.M.StoreMemory.holds c.args.store.now.memory
      c.serve_request.new.store.memory
      c.shorten_behind.new.store.memory c.shorten_behind.ensures.memory c.serve_request.ensures.remembers;
  told = λ told. tells_on g.D.Disk _ c.serve_request.new.disk c.shorten_behind.new.disk c.shorten_behind.ensures.told
      (c.serve_request.ensures.told told);
  goes = c.serve_request.ensures.goes;
  comes = comes_fault (g.K.Link.faults c.args.link.now) (g.K.Link.faults c.serve_request.new.link) (g.D.Disk.faults c.args.disk.now)
      (g.D.Disk.faults c.serve_request.new.disk)
      (g.D.Disk.faults c.shorten_behind.new.disk) c.serve_request.result c.serve_request.ensures.comes c.shorten_behind.ensures.later
      c.in-Err-shorten_behind.fault
      c.in-Err-shorten_behind.ensures.cause.0 c.in-Err-shorten_behind.ensures.cause.1 c.in-Err-shorten_behind.ensures.failed;
}

pub returns-in-Ok-Ended : goal.returns-in-Ok-Ended
returns-in-Ok-Ended g c = record {
  serves = λ choose h base k chooser taken hold.
      let fits : SFits w64 c.args.moment = search rules in
      let e = entry choose h base k c.args.store.now.run c.args.moment in
      let clean = IsClean (g.K.Link.faults c.args.link.now) (g.K.Link.faults c.serve_request.new.link) (g.K.Link.standing c.args.link.now)
      (g.K.Link.standing c.serve_request.new.link) in
      let first = simp to_z-of_z at (c.serve_request.ensures.serves choose h base k chooser taken hold) in
      subst (λ (r : Result Served ServeFault). Serves g.D.Disk (kind g.M.StoreMemory.takes g.M.Book.ManifestState.fits
      g.M.StoreMemory.holds) e
      (outcome r clean (g.K.Link.given c.args.link.now) (g.K.Link.given c.serve_request.new.link)) (g.K.Link.left c.args.link.now)
      (g.K.Link.left c.serve_request.new.link) c.serve_request.new.store c.args.disk.now
      c.serve_request.new.disk) (c.in-Ok-Ended.is ∙ ap Ok c.in-Ok-Ended.field-0-is) first;
  short = λ choose h base k hold. tt;
  long = tt;
  over = λ stays. c.in-Ok-Ended.ensures.over tt;
  measured = λ measured stays. c.in-Ok-Ended.ensures.measured measured tt;
  closed = λ down. absurd (false≢true (sym down));
  placed = placed_at_end g.D.Disk (g.M.StoreMemory.shown c.serve_request.new.store.memory) c.serve_request.new.disk (Ok served.Ended)
      (open_placed g.D.Disk c.serve_request.new.disk (Ok served.Ended) tt);
  reads = subst (λ (r : Result Served ServeFault). Reads r (g.K.Link.left c.args.link.now) (g.K.Link.left c.serve_request.new.link))
      (c.in-Ok-Ended.is ∙ ap Ok c.in-Ok-Ended.field-0-is) c.serve_request.ensures.reads;
  run = c.serve_request.ensures.run;
  remembers = c.serve_request.ensures.remembers;
  told = c.serve_request.ensures.told;
  goes = c.serve_request.ensures.goes;
  comes = comes_reply (g.K.Link.faults c.args.link.now) (g.K.Link.faults c.serve_request.new.link) (g.D.Disk.faults c.args.disk.now)
      (g.D.Disk.faults c.serve_request.new.disk)
      (g.D.Disk.faults c.serve_request.new.disk) c.serve_request.result c.serve_request.ensures.comes (omega arith) served.Ended;
}

pub returns-in-Err : goal.returns-in-Err
returns-in-Err g c = record {
  serves = λ choose h base k chooser taken hold.
      let fits : SFits w64 c.args.moment = search rules in
      let e = entry choose h base k c.args.store.now.run c.args.moment in
      let clean = IsClean (g.K.Link.faults c.args.link.now) (g.K.Link.faults c.serve_request.new.link) (g.K.Link.standing c.args.link.now)
      (g.K.Link.standing c.serve_request.new.link) in
      let first = simp to_z-of_z at (c.serve_request.ensures.serves choose h base k chooser taken hold) in
      subst (λ (r : Result Served ServeFault). Serves g.D.Disk (kind g.M.StoreMemory.takes g.M.Book.ManifestState.fits
      g.M.StoreMemory.holds) e
      (outcome r clean (g.K.Link.given c.args.link.now) (g.K.Link.given c.serve_request.new.link)) (g.K.Link.left c.args.link.now)
      (g.K.Link.left c.serve_request.new.link) c.serve_request.new.store c.args.disk.now
      c.serve_request.new.disk) (c.in-Err.is) first;
  short = λ choose h base k hold. tt;
  long = tt;
  over = c.in-Err.ensures.over;
  measured = c.in-Err.ensures.measured;
  closed = c.in-Err.ensures.closed;
  placed = c.in-Err.ensures.placed;
  reads = subst (λ (r : Result Served ServeFault). Reads r (g.K.Link.left c.args.link.now) (g.K.Link.left c.serve_request.new.link))
      c.in-Err.is c.serve_request.ensures.reads;
  run = c.serve_request.ensures.run;
  remembers = c.serve_request.ensures.remembers;
  told = c.serve_request.ensures.told;
  goes = c.serve_request.ensures.goes;
  comes = c.in-Err.ensures.comes;
}

pub serve_request-requires-clause-over : goal.serve_request-requires-clause-over
serve_request-requires-clause-over g c = c.requires.over

pub serve_request-requires-clause-takes : goal.serve_request-requires-clause-takes
serve_request-requires-clause-takes g c = c.requires.takes

pub shorten_behind-requires : goal.shorten_behind-requires
shorten_behind-requires g c = record { over = c.in-Ok-Reply.ensures.over tt }
