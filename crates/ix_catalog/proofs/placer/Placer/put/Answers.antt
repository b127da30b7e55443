use Rattle.std.proofs.Common.{◌<◌, ◌∙◌, ap, sym, subst, length, List, Option, None, Some}
use Rattle.std.proofs.lemmas.Result.{on_ok_weaker}
use Rattle.ix_life.specs.declared.views.IndexView.{IndexView}
use Rattle.ix_catalog.specs.Dealing as defs
use Rattle.ix_catalog.specs.Numbers.{KeepsNumbers}
use Rattle.ix_catalog.specs.declared.placer.Work.{Work}
use Rattle.ix_catalog.proofs.Dealt.{puts_there, position_is, with_pieces}
use Rattle.ix_catalog.proofs.Finds.{stands_nowhere}
use Rattle.ix_catalog.proofs.placer.Placer.put.Goals as goal

pub returns-in-Some-clause-done : goal.returns-in-Some-clause-done
returns-in-Some-clause-done c =
    let w = c.args.work.now in
    let l = subst (λ (xs : List IndexView). c.in-Some.at < length xs) c.as_slice.ensures c.in-Some.ensures.within in
    let p = position_is c.args.event.now.index c.as_slice-2.result.now w.shelves.indexes c.as_slice.result.now c.place_of.result
    (Some c.in-Some.at)
    c.place_of.ensures.value c.as_slice.ensures c.as_slice-2.ensures c.in-Some.is in
    let puts = puts_there c.args.self.now.ledger.now c.args.self.now.moment c.args.event.now c.in-Some.at w l p in
    on_ok_weaker c.put_at.result (λ h. h puts.view puts.there ∙ puts.is) c.put_at.ensures.done

pub returns-in-Some-clause-full : goal.returns-in-Some-clause-full
returns-in-Some-clause-full c = λ is keeps.
    let w = c.args.work.now in
    let l = subst (λ (xs : List IndexView). c.in-Some.at < length xs) c.as_slice.ensures c.in-Some.ensures.within in
    let p = position_is c.args.event.now.index c.as_slice-2.result.now w.shelves.indexes c.as_slice.result.now c.place_of.result
    (Some c.in-Some.at)
    c.place_of.ensures.value c.as_slice.ensures c.as_slice-2.ensures c.in-Some.is in
    let puts = puts_there c.args.self.now.ledger.now c.args.self.now.moment c.args.event.now c.in-Some.at w l p in
    c.put_at.ensures.full is puts.view puts.there (subst (λ (v : Work). KeepsNumbers v.shelves) (sym puts.is) keeps)

pub returns-in-None-clause-done : goal.returns-in-None-clause-done
returns-in-None-clause-done c =
    let w = c.args.work.now in
    let p = position_is c.args.event.now.index c.as_slice-2.result.now w.shelves.indexes c.as_slice.result.now c.place_of.result None
    c.place_of.ensures.value c.as_slice.ensures c.as_slice-2.ensures c.in-None.is in
    on_ok_weaker c.count_dropped.result
    (λ h. ap (with_pieces w.pieces) h
    ∙ ap (λ (o : Option IndexView). defs.put_in c.args.self.now.ledger.now c.args.self.now.moment c.args.event.now o w)
    (sym (stands_nowhere c.args.event.now.index w.shelves.indexes p)))
    c.count_dropped.ensures.done
