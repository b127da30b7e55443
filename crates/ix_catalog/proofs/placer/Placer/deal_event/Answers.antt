use Rattle.std.proofs.Common.{◌∙◌, ℕ, List, Option, ap, sym, subst}
use Rattle.std.proofs.lemmas.Result.{on_ok_weaker, IfOk-from_err}
use Rattle.ix_catalog.specs.Dealing.{home, deal_to}
use Rattle.ix_catalog.specs.Numbers.{KeepsNumbers}
use Rattle.ix_catalog.specs.declared.placer.Work.{Work}
use Rattle.ix_catalog.proofs.Dealt.{goes_to, goes_nowhere, deal_sent, with_pieces}
use Rattle.ix_catalog.proofs.Failing.{memory_no_full}
use Rattle.ix_catalog.proofs.placer.Placer.deal_event.Goals as goal

pub returns-in_err-event : goal.returns-in_err-event
returns-in_err-event c = record {
  done = IfOk-from_err _ _ c.from_residual.ensures.0;
  kept = IfOk-from_err _ _ c.from_residual.ensures.0;
  balanced = IfOk-from_err _ _ c.from_residual.ensures.0;
  full = memory_no_full c.from_residual.result c.from_residual.ensures.1;
}

pub returns-in-Some : goal.returns-in-Some
returns-in-Some c =
    let d = c.args.self.now in
    let event = c.args.event in
    let goes = goes_to event c.in-Some.event (home d.set.now event.index) (sym c.in-Some.is ∙ c.in_ok-event.ensures) in
    let is = deal_sent d.ledger.now d.moment event c.in-Some.event (home d.set.now event.index) c.args.work.now goes in
    record {
      done = on_ok_weaker c.put-done.result (λ h. h ∙ is) c.put-done.ensures.done;
      kept = c.put-done.ensures.kept;
      balanced = c.put-done.ensures.balanced;
      full = λ full keeps. c.put-done.ensures.full full (subst (λ (w : Work). KeepsNumbers w.shelves) (sym is) keeps);
    }

pub returns-in-None : goal.returns-in-None
returns-in-None c =
    let d = c.args.self.now in
    let event = c.args.event in
    let w = c.args.work.now in
    let none = goes_nowhere event (home d.set.now event.index) (sym c.in-None.is ∙ c.in_ok-event.ensures) in
    record {
      done = on_ok_weaker c.count_dropped.result
          (λ h. ap (with_pieces w.pieces) h ∙ ap (λ (o : Option (List ℕ)). deal_to d.ledger.now d.moment event o w) (sym none))
          c.count_dropped.ensures.done;
      kept = c.count_dropped.ensures.kept;
      balanced = c.count_dropped.ensures.balanced;
      full = λ full keeps. c.count_dropped.ensures.full full
          (subst (λ (o : Option (List ℕ)). KeepsNumbers (deal_to d.ledger.now d.moment event o w).shelves) none keeps);
    }
