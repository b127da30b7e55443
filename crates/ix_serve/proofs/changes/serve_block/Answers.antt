use Rattle.std.proofs.Common.{◌∙◌, ℕ, List, None, Some, inr, refl, ap, subst, true, arith, rules}
use mir.Val.{SFits}
use Rattle.std.specs.Int.{w64}
use Rattle.std.proofs.lemmas.Int.{to_z-of_z}
use Rattle.ix_http.specs.declared.kinds.Ask.TheVariants as asks
use Rattle.ix_http.specs.declared.kinds.Kind.TheVariants.{Json}
use Rattle.ix_model.specs.declared.answers.Refusal.TheVariants as refusals
use Rattle.ix_model.specs.declared.commands.Command.TheVariants as commands
use Rattle.ix_serve.specs.Answer.{MayBe, MayChange}
use Rattle.ix_serve.specs.Bodies.{acked_body}
use Rattle.ix_serve.specs.Entries.{entry, drawn}
use Rattle.ix_serve.specs.Replies.{reply, no_memory}
use Rattle.ix_serve.specs.Kinds.{kind}
use Rattle.ix_serve.specs.Serving.{Answers, IsClean, IsTold, outcome}
use Rattle.ix_serve.proofs.Answering.{comes_open, idle}
use Rattle.ix_serve.proofs.Closing.{open_still, replied_by, open_placed}
use Rattle.ix_store.proofs.Recalling.{remembers_same}
use Rattle.ix_serve.proofs.changes.serve_block.Goals as goal

pub returns-in_default : goal.returns-in_default
returns-in_default g c = record {
  answers = λ choose h base k chooser taken hold.
      let e = entry choose h base k c.args.store.now.run c.args.moment in
      idle g.D.Disk (kind g.M.StoreMemory.takes g.M.Book.ManifestState.fits g.M.StoreMemory.holds) e
      (MayBe e (IsTold g.D.Disk c.args.disk.now) (asks.Block c.args.channel c.args.bytes) c.decline.result) true
      (IsClean (g.K.Link.faults c.args.link.now) (g.K.Link.faults c.decline.new.link) (g.K.Link.standing c.args.link.now)
      (g.K.Link.standing c.decline.new.link)) c.decline.result
      (g.K.Link.given c.args.link.now) (g.K.Link.given c.decline.new.link) c.args.store.now c.args.disk.now (Some no_memory)
      (inr (refusals.NoMemory, tt, refl)) c.decline.ensures.gave c.decline.ensures.open refl hold;
  left = c.decline.ensures.left;
  over = λ stays. c.requires.over;
  measured = λ measured stays. measured;
  closed = λ down. absurd (open_still c.decline.result c.decline.ensures.open down);
  placed = open_placed g.D.Disk c.args.disk.now c.decline.result c.decline.ensures.open;
  replied = replied_by no_memory true (IsClean (g.K.Link.faults c.args.link.now) (g.K.Link.faults c.decline.new.link)
      (g.K.Link.standing c.args.link.now) (g.K.Link.standing c.decline.new.link)) c.decline.result (g.K.Link.given c.args.link.now)
      (g.K.Link.given c.decline.new.link) c.decline.ensures.gave;
  run = refl;
  remembers = remembers_same g.M.StoreMemory.is_chooser g.M.StoreMemory.takes g.M.StoreMemory.holds c.args.store.now.memory
      c.args.store.now.memory refl;
  told = λ told. told;
  goes = c.decline.ensures.goes;
  comes = comes_open (g.K.Link.faults c.args.link.now) (g.K.Link.faults c.args.link.now) (g.K.Link.faults c.decline.new.link)
      (g.D.Disk.faults c.args.disk.now) (g.D.Disk.faults c.args.disk.now) c.decline.result (omega arith) c.decline.ensures.later
      c.decline.ensures.failed (omega arith) c.decline.ensures.open;
}

pub returns : goal.returns
returns g c = record {
  answers = λ choose h base k chooser taken hold.
      let fits : SFits w64 c.args.moment = search rules in
      let e = entry choose h base k c.args.store.now.run c.args.moment in
      let is = simp to_z-of_z at (c.serve_change.ensures.answers choose h base k chooser taken hold) in
      let body = c.as_slice.ensures ∙ c.in-Ok.ensures ∙ ap (λ (n : ℕ). acked_body n c.run.result)
      (c.drawn.ensures choose h base k hold.old hold.staged) ∙ ap (λ (n : ℕ). acked_body (drawn e) n) c.run.ensures in
      subst (λ (body : List ℕ). Answers g.D.Disk (kind g.M.StoreMemory.takes g.M.Book.ManifestState.fits g.M.StoreMemory.holds) e
      (MayChange e (commands.Block c.args.channel c.args.bytes None) (reply 200 Json body)) true
      (outcome c.serve_change.result (IsClean (g.K.Link.faults c.args.link.now) (g.K.Link.faults c.serve_change.new.link)
      (g.K.Link.standing c.args.link.now)
      (g.K.Link.standing c.serve_change.new.link))
      (g.K.Link.given c.args.link.now) (g.K.Link.given c.serve_change.new.link)) c.serve_change.new.store c.args.disk.now
      c.serve_change.new.disk) body is;
  left = c.serve_change.ensures.left;
  over = c.serve_change.ensures.over;
  measured = c.serve_change.ensures.measured;
  closed = c.serve_change.ensures.closed;
  placed = c.serve_change.ensures.placed;
  replied = c.serve_change.ensures.replied;
  run = c.serve_change.ensures.run;
  remembers = c.serve_change.ensures.remembers;
  told = c.serve_change.ensures.told;
  goes = c.serve_change.ensures.goes;
  comes = c.serve_change.ensures.comes;
}

pub serve_change-requires-clause-over : goal.serve_change-requires-clause-over
serve_change-requires-clause-over g c = c.requires.over
