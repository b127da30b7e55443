use Rattle.std.proofs.Common.{ap, refl, subst, Some, None, List, ℕ, Bool, Option, true, false, Result, Ok, Err, ◌≡◌, ◌∙◌, arith, rules, sym}
use mir.Val.{SFits}
use Rattle.std.specs.Int.{w64}
use Rattle.std.proofs.lemmas.Int.{to_z-of_z}
use Rattle.ix_heads.specs.declared.faults.LinkFault.TheVariants as link
use Rattle.ix_http.specs.declared.kinds.Incoming.TheVariants as was
use Rattle.ix_net.proofs.GoesLemmas.{goes_on}
use Rattle.ix_serve.specs.Answer.{Found, MayBe, Says}
use Rattle.ix_serve.specs.Entries.{entry}
use Rattle.ix_serve.specs.Replies.{no_memory, unread}
use Rattle.ix_serve.specs.Kinds.{kind}
use Rattle.ix_serve.specs.Serving.{Gave, IsClean, IsTold, IsReplied}
use Rattle.ix_serve.specs.declared.served.Served.{Served}
use Rattle.ix_serve.specs.declared.served.Served.TheVariants as served
use Rattle.ix_serve.specs.declared.served.ServeFault.{ServeFault}
use Rattle.ix_serve.specs.declared.served.ServeFault.TheVariants as fault
use Rattle.ix_serve.proofs.Answering.{idle, served_so, clean_behind, cleaner, comes_later, comes_open, gave_cleaner}
use Rattle.ix_serve.proofs.Behind.{ok_err}
use Rattle.ix_serve.proofs.Closing.{open_still, replied_by, status_by, reads_so, open_placed, placed_at_end}
use Rattle.std.proofs.lemmas.Bool.{false≢true}
use Rattle.ix_store.proofs.Recalling.{remembers_same}
use Rattle.ix_serve.proofs.serve.serve_request.Goals as goal

not_link : (let result : Result Served ServeFault = Err fault.Cut in result ≡ Err fault.Link) → ⊥
not_link is = cc

pub returns-in-Ok-Ended : goal.returns-in-Ok-Ended
returns-in-Ok-Ended g c = record {
  serves = λ choose h base k chooser taken hold.
      let e = entry choose h base k c.args.store.now.run c.args.moment in
      let read : Found = Ok was.Ended in
      let clean = IsClean (g.K.Link.faults c.args.link.now) (g.K.Link.faults c.read_request.new.link) (g.K.Link.standing c.args.link.now)
      (g.K.Link.standing c.read_request.new.link) in
      served_so g.D.Disk (kind g.M.StoreMemory.takes g.M.Book.ManifestState.fits g.M.StoreMemory.holds) e clean (Ok served.Ended)
      (g.K.Link.left c.args.link.now)
      (g.K.Link.left c.read_request.new.link) (g.K.Link.left c.read_request.new.link)
      (g.K.Link.given c.args.link.now) (g.K.Link.given c.read_request.new.link) c.args.store.now c.args.disk.now c.args.disk.now
      c.read_request.result read (c.in-Ok-Ended.is ∙ ap Ok c.in-Ok-Ended.field-0-is) refl c.read_request.ensures.read
      c.read_request.ensures.within
      (idle g.D.Disk (kind g.M.StoreMemory.takes g.M.Book.ManifestState.fits g.M.StoreMemory.holds) e
      (Says e (IsTold g.D.Disk c.args.disk.now) read (Ok served.Ended))
      true clean (Ok served.Ended) (g.K.Link.given c.args.link.now) (g.K.Link.given c.read_request.new.link)
      c.args.store.now c.args.disk.now None (refl, refl) c.read_request.ensures.reads.given tt refl hold);
  over = λ stays. c.requires.over;
  measured = λ measured stays. measured;
  closed = λ down. absurd (false≢true (sym down));
  placed = placed_at_end g.D.Disk (g.M.StoreMemory.shown c.args.store.now.memory) c.args.disk.now (Ok served.Ended)
      (open_placed g.D.Disk c.args.disk.now (Ok served.Ended) tt);
  reads = reads_so c.read_request.result (Ok was.Ended) _ (g.K.Link.left c.args.link.now) (g.K.Link.left c.read_request.new.link)
      (g.K.Link.left c.read_request.new.link) (c.in-Ok-Ended.is
      ∙ ap Ok c.in-Ok-Ended.field-0-is) refl c.read_request.ensures.read c.read_request.ensures.within refl;
  run = refl;
  remembers = remembers_same g.M.StoreMemory.is_chooser g.M.StoreMemory.takes g.M.StoreMemory.holds c.args.store.now.memory
      c.args.store.now.memory refl;
  told = λ told. told;
  goes = c.read_request.ensures.reads.goes;
  comes = comes_open (g.K.Link.faults c.args.link.now) (g.K.Link.faults c.read_request.new.link) (g.K.Link.faults c.read_request.new.link)
      (g.D.Disk.faults c.args.disk.now) (g.D.Disk.faults c.args.disk.now) (Ok served.Ended) c.read_request.ensures.reads.later (omega arith)
      (λ is. absurd (ok_err is)) (omega arith) tt;
}

pub returns-in-Err-Failed : goal.returns-in-Err-Failed
returns-in-Err-Failed g c = record {
  serves = λ choose h base k chooser taken hold.
      let e = entry choose h base k c.args.store.now.run c.args.moment in
      let read : Found = Err link.Failed in
      let clean = IsClean (g.K.Link.faults c.args.link.now) (g.K.Link.faults c.read_request.new.link) (g.K.Link.standing c.args.link.now)
      (g.K.Link.standing c.read_request.new.link) in
      served_so g.D.Disk (kind g.M.StoreMemory.takes g.M.Book.ManifestState.fits g.M.StoreMemory.holds) e clean (Err fault.Link)
      (g.K.Link.left c.args.link.now)
      (g.K.Link.left c.read_request.new.link) (g.K.Link.left c.read_request.new.link)
      (g.K.Link.given c.args.link.now) (g.K.Link.given c.read_request.new.link) c.args.store.now c.args.disk.now c.args.disk.now
      c.read_request.result read (c.in-Err-Failed.is
      ∙ ap Err c.in-Err-Failed.field-0-is) refl c.read_request.ensures.read c.read_request.ensures.within
      (idle g.D.Disk (kind g.M.StoreMemory.takes g.M.Book.ManifestState.fits g.M.StoreMemory.holds) e
      (Says e (IsTold g.D.Disk c.args.disk.now) read (Err fault.Link))
      false clean (Err fault.Link) (g.K.Link.given c.args.link.now) (g.K.Link.given c.read_request.new.link)
      c.args.store.now c.args.disk.now None (refl, refl) c.read_request.ensures.reads.given tt refl hold);
  over = λ stays. c.requires.over;
  measured = λ measured stays. measured;
  closed = λ down. absurd (false≢true (sym down));
  placed = placed_at_end g.D.Disk (g.M.StoreMemory.shown c.args.store.now.memory) c.args.disk.now (Err fault.Link)
      (open_placed g.D.Disk c.args.disk.now (Err fault.Link) tt);
  reads = reads_so c.read_request.result (Err link.Failed) _ (g.K.Link.left c.args.link.now) (g.K.Link.left c.read_request.new.link)
      (g.K.Link.left c.read_request.new.link) (c.in-Err-Failed.is
      ∙ ap Err c.in-Err-Failed.field-0-is) refl c.read_request.ensures.read c.read_request.ensures.within refl;
  run = refl;
  remembers = remembers_same g.M.StoreMemory.is_chooser g.M.StoreMemory.takes g.M.StoreMemory.holds c.args.store.now.memory
      c.args.store.now.memory refl;
  told = λ told. told;
  goes = c.read_request.ensures.reads.goes;
  comes = comes_open (g.K.Link.faults c.args.link.now) (g.K.Link.faults c.args.link.now) (g.K.Link.faults c.read_request.new.link)
      (g.D.Disk.faults c.args.disk.now) (g.D.Disk.faults c.args.disk.now) (Err fault.Link) (omega arith) c.read_request.ensures.reads.later
      (λ is. c.read_request.ensures.failed (c.in-Err-Failed.is ∙ ap Err c.in-Err-Failed.field-0-is)) (omega arith) tt;
}

pub returns-in-Err-Cut : goal.returns-in-Err-Cut
returns-in-Err-Cut g c = record {
  serves = λ choose h base k chooser taken hold.
      let e = entry choose h base k c.args.store.now.run c.args.moment in
      let read : Found = Err link.Cut in
      let clean = IsClean (g.K.Link.faults c.args.link.now) (g.K.Link.faults c.read_request.new.link) (g.K.Link.standing c.args.link.now)
      (g.K.Link.standing c.read_request.new.link) in
      served_so g.D.Disk (kind g.M.StoreMemory.takes g.M.Book.ManifestState.fits g.M.StoreMemory.holds) e clean (Err fault.Cut)
      (g.K.Link.left c.args.link.now)
      (g.K.Link.left c.read_request.new.link) (g.K.Link.left c.read_request.new.link)
      (g.K.Link.given c.args.link.now) (g.K.Link.given c.read_request.new.link) c.args.store.now c.args.disk.now c.args.disk.now
      c.read_request.result read (c.in-Err-Cut.is ∙ ap Err c.in-Err-Cut.field-0-is) refl c.read_request.ensures.read
      c.read_request.ensures.within
      (idle g.D.Disk (kind g.M.StoreMemory.takes g.M.Book.ManifestState.fits g.M.StoreMemory.holds) e
      (Says e (IsTold g.D.Disk c.args.disk.now) read (Err fault.Cut))
      false clean (Err fault.Cut) (g.K.Link.given c.args.link.now) (g.K.Link.given c.read_request.new.link)
      c.args.store.now c.args.disk.now None (refl, refl) c.read_request.ensures.reads.given tt refl hold);
  over = λ stays. c.requires.over;
  measured = λ measured stays. measured;
  closed = λ down. absurd (false≢true (sym down));
  placed = placed_at_end g.D.Disk (g.M.StoreMemory.shown c.args.store.now.memory) c.args.disk.now (Err fault.Cut)
      (open_placed g.D.Disk c.args.disk.now (Err fault.Cut) tt);
  reads = reads_so c.read_request.result (Err link.Cut) _ (g.K.Link.left c.args.link.now) (g.K.Link.left c.read_request.new.link)
      (g.K.Link.left c.read_request.new.link) (c.in-Err-Cut.is
      ∙ ap Err c.in-Err-Cut.field-0-is) refl c.read_request.ensures.read c.read_request.ensures.within refl;
  run = refl;
  remembers = remembers_same g.M.StoreMemory.is_chooser g.M.StoreMemory.takes g.M.StoreMemory.holds c.args.store.now.memory
      c.args.store.now.memory refl;
  told = λ told. told;
  goes = c.read_request.ensures.reads.goes;
  comes = comes_open (g.K.Link.faults c.args.link.now) (g.K.Link.faults c.read_request.new.link) (g.K.Link.faults c.read_request.new.link)
      (g.D.Disk.faults c.args.disk.now) (g.D.Disk.faults c.args.disk.now) (Err fault.Cut) c.read_request.ensures.reads.later (omega arith)
      (λ is. absurd (not_link is)) (omega arith) tt;
}

pub returns-in-Ok-Refused : goal.returns-in-Ok-Refused
returns-in-Ok-Refused g c = record {
  serves = λ choose h base k chooser taken hold.
      let e = entry choose h base k c.args.store.now.run c.args.moment in
      let read : Found = Ok (was.Refused c.in-Ok-Refused.fault c.in-Ok-Refused.delimited) in
      let clean = IsClean (g.K.Link.faults c.args.link.now) (g.K.Link.faults c.give_unread.new.link) (g.K.Link.standing c.args.link.now)
      (g.K.Link.standing c.give_unread.new.link) in
      let later = IsClean (g.K.Link.faults c.read_request.new.link) (g.K.Link.faults c.give_unread.new.link)
      (g.K.Link.standing c.read_request.new.link) (g.K.Link.standing c.give_unread.new.link) in
      served_so g.D.Disk (kind g.M.StoreMemory.takes g.M.Book.ManifestState.fits g.M.StoreMemory.holds) e clean c.give_unread.result
      (g.K.Link.left c.args.link.now)
      (g.K.Link.left c.read_request.new.link) (g.K.Link.left c.give_unread.new.link)
      (g.K.Link.given c.args.link.now) (g.K.Link.given c.give_unread.new.link) c.args.store.now c.args.disk.now c.args.disk.now
      c.read_request.result read (c.in-Ok-Refused.is
      ∙ ap Ok c.in-Ok-Refused.field-0-is) c.give_unread.ensures.left c.read_request.ensures.read c.read_request.ensures.within
      (idle g.D.Disk (kind g.M.StoreMemory.takes g.M.Book.ManifestState.fits g.M.StoreMemory.holds) e
      (Says e (IsTold g.D.Disk c.args.disk.now) read c.give_unread.result) c.in-Ok-Refused.delimited clean c.give_unread.result
      (g.K.Link.given c.args.link.now) (g.K.Link.given c.give_unread.new.link)
      c.args.store.now c.args.disk.now (Some (unread c.in-Ok-Refused.fault)) refl
      (gave_cleaner (Some (unread c.in-Ok-Refused.fault)) c.in-Ok-Refused.delimited later clean c.give_unread.result
      (g.K.Link.given c.args.link.now) (g.K.Link.given c.give_unread.new.link)
      (clean_behind (g.K.Link.faults c.args.link.now) (g.K.Link.faults c.read_request.new.link) (g.K.Link.faults c.give_unread.new.link)
      (g.K.Link.standing c.args.link.now) (g.K.Link.standing c.read_request.new.link) (g.K.Link.standing c.give_unread.new.link)
      c.read_request.ensures.reads.later c.read_request.ensures.reads.goes.writing)
      (subst (λ (x : Option (List ℕ)). Gave (Some (unread c.in-Ok-Refused.fault)) c.in-Ok-Refused.delimited later c.give_unread.result x
      (g.K.Link.given c.give_unread.new.link)) c.read_request.ensures.reads.given c.give_unread.ensures.gave))
      c.give_unread.ensures.open refl hold);
  over = λ stays. c.requires.over;
  measured = λ measured stays. measured;
  closed = λ down. absurd (open_still c.give_unread.result c.give_unread.ensures.open down);
  placed = placed_at_end g.D.Disk (g.M.StoreMemory.shown c.args.store.now.memory) c.args.disk.now c.give_unread.result
      (open_placed g.D.Disk c.args.disk.now c.give_unread.result c.give_unread.ensures.open);
  reads = reads_so c.read_request.result (Ok (was.Refused c.in-Ok-Refused.fault c.in-Ok-Refused.delimited)) _
      (g.K.Link.left c.args.link.now) (g.K.Link.left c.read_request.new.link) (g.K.Link.left c.give_unread.new.link) (c.in-Ok-Refused.is
      ∙ ap Ok c.in-Ok-Refused.field-0-is) c.give_unread.ensures.left c.read_request.ensures.read c.read_request.ensures.within (
        replied_by (unread c.in-Ok-Refused.fault) c.in-Ok-Refused.delimited
            (IsClean (g.K.Link.faults c.read_request.new.link) (g.K.Link.faults c.give_unread.new.link)
            (g.K.Link.standing c.read_request.new.link) (g.K.Link.standing c.give_unread.new.link)) c.give_unread.result
            (g.K.Link.given c.read_request.new.link) (g.K.Link.given c.give_unread.new.link) c.give_unread.ensures.gave,
        status_by (unread c.in-Ok-Refused.fault) c.in-Ok-Refused.delimited
            (IsClean (g.K.Link.faults c.read_request.new.link) (g.K.Link.faults c.give_unread.new.link)
            (g.K.Link.standing c.read_request.new.link) (g.K.Link.standing c.give_unread.new.link)) c.give_unread.result
            (g.K.Link.given c.read_request.new.link) (g.K.Link.given c.give_unread.new.link) c.give_unread.ensures.gave,
      );
  run = refl;
  remembers = remembers_same g.M.StoreMemory.is_chooser g.M.StoreMemory.takes g.M.StoreMemory.holds c.args.store.now.memory
      c.args.store.now.memory refl;
  told = λ told. told;
  goes = goes_on c.read_request.ensures.reads.goes c.give_unread.ensures.goes;
  comes = comes_open (g.K.Link.faults c.args.link.now) (g.K.Link.faults c.read_request.new.link) (g.K.Link.faults c.give_unread.new.link)
      (g.D.Disk.faults c.args.disk.now) (g.D.Disk.faults c.args.disk.now) c.give_unread.result c.read_request.ensures.reads.later
      c.give_unread.ensures.later c.give_unread.ensures.failed (omega arith) c.give_unread.ensures.open;
}

pub returns-in-Err-NoMemory : goal.returns-in-Err-NoMemory
returns-in-Err-NoMemory g c = record {
  serves = λ choose h base k chooser taken hold.
      let e = entry choose h base k c.args.store.now.run c.args.moment in
      let read : Found = Err (link.NoMemory c.in-Err-NoMemory.whole) in
      let clean = IsClean (g.K.Link.faults c.args.link.now) (g.K.Link.faults c.decline.new.link) (g.K.Link.standing c.args.link.now)
      (g.K.Link.standing c.decline.new.link) in
      let later = IsClean (g.K.Link.faults c.read_request.new.link) (g.K.Link.faults c.decline.new.link)
      (g.K.Link.standing c.read_request.new.link) (g.K.Link.standing c.decline.new.link) in
      served_so g.D.Disk (kind g.M.StoreMemory.takes g.M.Book.ManifestState.fits g.M.StoreMemory.holds) e clean c.decline.result
      (g.K.Link.left c.args.link.now)
      (g.K.Link.left c.read_request.new.link) (g.K.Link.left c.decline.new.link)
      (g.K.Link.given c.args.link.now) (g.K.Link.given c.decline.new.link) c.args.store.now c.args.disk.now c.args.disk.now
      c.read_request.result read (c.in-Err-NoMemory.is
      ∙ ap Err c.in-Err-NoMemory.field-0-is) c.decline.ensures.left c.read_request.ensures.read c.read_request.ensures.within
      (idle g.D.Disk (kind g.M.StoreMemory.takes g.M.Book.ManifestState.fits g.M.StoreMemory.holds) e
      (Says e (IsTold g.D.Disk c.args.disk.now) read c.decline.result)
      c.in-Err-NoMemory.whole clean c.decline.result (g.K.Link.given c.args.link.now) (g.K.Link.given c.decline.new.link)
      c.args.store.now c.args.disk.now (Some no_memory) refl
      (gave_cleaner (Some no_memory) c.in-Err-NoMemory.whole later clean c.decline.result (g.K.Link.given c.args.link.now)
      (g.K.Link.given c.decline.new.link)
      (clean_behind (g.K.Link.faults c.args.link.now) (g.K.Link.faults c.read_request.new.link) (g.K.Link.faults c.decline.new.link)
      (g.K.Link.standing c.args.link.now) (g.K.Link.standing c.read_request.new.link) (g.K.Link.standing c.decline.new.link)
      c.read_request.ensures.reads.later c.read_request.ensures.reads.goes.writing)
      (subst (λ (x : Option (List ℕ)). Gave (Some no_memory) c.in-Err-NoMemory.whole later c.decline.result x
      (g.K.Link.given c.decline.new.link)) c.read_request.ensures.reads.given
      (subst (λ (w : Bool). Gave (Some no_memory) w later c.decline.result (g.K.Link.given c.read_request.new.link)
      (g.K.Link.given c.decline.new.link)) c.in-Err-NoMemory.whole-is c.decline.ensures.gave)))
      c.decline.ensures.open refl hold);
  over = λ stays. c.requires.over;
  measured = λ measured stays. measured;
  closed = λ down. absurd (open_still c.decline.result c.decline.ensures.open down);
  placed = placed_at_end g.D.Disk (g.M.StoreMemory.shown c.args.store.now.memory) c.args.disk.now c.decline.result
      (open_placed g.D.Disk c.args.disk.now c.decline.result c.decline.ensures.open);
  reads = reads_so c.read_request.result (Err (link.NoMemory c.in-Err-NoMemory.whole)) _ (g.K.Link.left c.args.link.now)
      (g.K.Link.left c.read_request.new.link) (g.K.Link.left c.decline.new.link) (c.in-Err-NoMemory.is
      ∙ ap Err c.in-Err-NoMemory.field-0-is) c.decline.ensures.left c.read_request.ensures.read c.read_request.ensures.within (
        subst (λ (w : Bool). IsReplied w c.decline.result) c.in-Err-NoMemory.whole-is
            (replied_by no_memory _ (IsClean (g.K.Link.faults c.read_request.new.link) (g.K.Link.faults c.decline.new.link)
            (g.K.Link.standing c.read_request.new.link) (g.K.Link.standing c.decline.new.link)) c.decline.result
            (g.K.Link.given c.read_request.new.link) (g.K.Link.given c.decline.new.link) c.decline.ensures.gave),
        status_by no_memory _ (IsClean (g.K.Link.faults c.read_request.new.link) (g.K.Link.faults c.decline.new.link)
            (g.K.Link.standing c.read_request.new.link) (g.K.Link.standing c.decline.new.link)) c.decline.result
            (g.K.Link.given c.read_request.new.link) (g.K.Link.given c.decline.new.link) c.decline.ensures.gave,
      );
  run = refl;
  remembers = remembers_same g.M.StoreMemory.is_chooser g.M.StoreMemory.takes g.M.StoreMemory.holds c.args.store.now.memory
      c.args.store.now.memory refl;
  told = λ told. told;
  goes = goes_on c.read_request.ensures.reads.goes c.decline.ensures.goes;
  comes = comes_open (g.K.Link.faults c.args.link.now) (g.K.Link.faults c.read_request.new.link) (g.K.Link.faults c.decline.new.link)
      (g.D.Disk.faults c.args.disk.now) (g.D.Disk.faults c.args.disk.now) c.decline.result c.read_request.ensures.reads.later
      c.decline.ensures.later c.decline.ensures.failed (omega arith) c.decline.ensures.open;
}

pub returns-in-Ok-Asked : goal.returns-in-Ok-Asked
returns-in-Ok-Asked g c = record {
  serves = λ choose h base k chooser taken hold.
      let fits : SFits w64 c.args.moment = search rules in
      let e = entry choose h base k c.args.store.now.run c.args.moment in
      let read : Found = Ok (was.Asked c.in-Ok-Asked.ask) in
      let clean = IsClean (g.K.Link.faults c.args.link.now) (g.K.Link.faults c.serve_ask.new.link) (g.K.Link.standing c.args.link.now)
      (g.K.Link.standing c.serve_ask.new.link) in
      let later = IsClean (g.K.Link.faults c.read_request.new.link) (g.K.Link.faults c.serve_ask.new.link)
      (g.K.Link.standing c.read_request.new.link) (g.K.Link.standing c.serve_ask.new.link) in
      served_so g.D.Disk (kind g.M.StoreMemory.takes g.M.Book.ManifestState.fits g.M.StoreMemory.holds) e clean c.serve_ask.result
      (g.K.Link.left c.args.link.now)
      (g.K.Link.left c.read_request.new.link) (g.K.Link.left c.serve_ask.new.link)
      (g.K.Link.given c.args.link.now) (g.K.Link.given c.serve_ask.new.link) c.serve_ask.new.store c.args.disk.now c.serve_ask.new.disk
      c.read_request.result read (c.in-Ok-Asked.is ∙ ap Ok c.in-Ok-Asked.field-0-is) c.serve_ask.ensures.left
      c.read_request.ensures.read c.read_request.ensures.within
      (cleaner g.D.Disk (kind g.M.StoreMemory.takes g.M.Book.ManifestState.fits g.M.StoreMemory.holds) e
      (MayBe e (IsTold g.D.Disk c.serve_ask.new.disk) c.in-Ok-Asked.ask c.serve_ask.result) true later clean c.serve_ask.result
      (g.K.Link.given c.read_request.new.link) (g.K.Link.given c.serve_ask.new.link) (g.K.Link.given c.args.link.now) c.serve_ask.new.store
      c.args.disk.now c.serve_ask.new.disk
      (clean_behind (g.K.Link.faults c.args.link.now) (g.K.Link.faults c.read_request.new.link) (g.K.Link.faults c.serve_ask.new.link)
      (g.K.Link.standing c.args.link.now) (g.K.Link.standing c.read_request.new.link) (g.K.Link.standing c.serve_ask.new.link)
      c.read_request.ensures.reads.later c.read_request.ensures.reads.goes.writing) c.read_request.ensures.reads.given
      (simp to_z-of_z at (c.serve_ask.ensures.answers choose h base k chooser taken hold)));
  over = c.serve_ask.ensures.over;
  measured = c.serve_ask.ensures.measured;
  closed = c.serve_ask.ensures.closed;
  placed = c.serve_ask.ensures.placed;
  reads = reads_so c.read_request.result (Ok (was.Asked c.in-Ok-Asked.ask)) _ (g.K.Link.left c.args.link.now)
      (g.K.Link.left c.read_request.new.link) (g.K.Link.left c.serve_ask.new.link) (c.in-Ok-Asked.is
      ∙ ap Ok c.in-Ok-Asked.field-0-is) c.serve_ask.ensures.left c.read_request.ensures.read c.read_request.ensures.within
      c.serve_ask.ensures.replied;
  run = c.serve_ask.ensures.run;
  remembers = c.serve_ask.ensures.remembers;
  told = c.serve_ask.ensures.told;
  goes = goes_on c.read_request.ensures.reads.goes c.serve_ask.ensures.goes;
  comes = comes_later (g.K.Link.faults c.args.link.now) (g.K.Link.faults c.read_request.new.link) (g.K.Link.faults c.serve_ask.new.link)
      (g.D.Disk.faults c.args.disk.now) (g.D.Disk.faults c.serve_ask.new.disk) c.serve_ask.result c.read_request.ensures.reads.later
      c.serve_ask.ensures.comes;
}

pub serve_ask-requires-clause-over : goal.serve_ask-requires-clause-over
serve_ask-requires-clause-over g c = c.requires.over

pub serve_ask-requires-clause-takes : goal.serve_ask-requires-clause-takes
serve_ask-requires-clause-takes g c = c.requires.takes

pub serve_ask-requires-clause-within : goal.serve_ask-requires-clause-within
serve_ask-requires-clause-within g c = rw c.in-Ok-Asked.field-0-is at c.in-Ok-Asked.ensures.within
