use Rattle.std.proofs.Common.{List, [], ◌∷◌, ◌++◌, take, ap, sym, ◌∙◌}
use Rattle.std.proofs.lemmas.List.{take_all, take_more}
use Rattle.ix_life.specs.declared.views.IndexView.{IndexView}
use Rattle.ix_bounds.specs.Shelving.{bucketed}
use Rattle.ix_bounds.specs.declared.shelving.Bucketed.{Bucketed}
use Rattle.ix_bounds.proofs.Steps.{bucketed_behind}
use Rattle.ix_bounds.proofs.reshelving.bucketed.Goals as goal

pub loop-view-preserved : goal.loop-view-preserved
loop-view-preserved c =
    let ledger = c.args.ledger.now in
    let xs = c.args.list.now in
    let i = c.loop-view.view-index in
    let x = c.view-item.result in
    c.in_ok-add_bucketed.ensures
    ∙ ap (λ (l : List Bucketed). l ++ bucketed ledger (x ∷ [])) c.loop-view.invariant
    ∙ sym (bucketed_behind ledger (take i xs) (x ∷ []))
    ∙ ap (bucketed ledger) (ap (λ (y : IndexView). take i xs ++ y ∷ []) c.view-item.is ∙ sym (take_more xs i x c.loop-view-test.true))

pub returns : goal.returns
returns c = c.loop-view.invariant ∙ ap (bucketed c.args.ledger.now) (take_all c.loop-view.view-index c.args.list.now c.loop-view-test.false)
