use Rattle.std.proofs.Common.{rules, subst, IsTrue}
use Rattle.std.specs.Prelude.{All}
use Rattle.std.proofs.lemmas.List.{take_all}
use Rattle.std.proofs.lemmas.List.Elements.{All-more}
use Rattle.ix_catalog.specs.Numbers.{KeepsIndex}
use Rattle.ix_effects.proofs.guards.keeps_indexes.Goals as goal

pub loop-view-preserved : goal.loop-view-preserved
loop-view-preserved c =
    let t = c.if-not-keeps_index.false in
    let yes : IsTrue c.keeps_index.result = search rules in
    All-more KeepsIndex c.args.indexes.now c.loop-view.view-index c.view-item.result c.loop-view-test.true c.loop-view.invariant
    (subst KeepsIndex c.view-item.is (c.keeps_index.ensures.0 yes))

pub returns : goal.returns
returns c = (
  (λ yes. subst (All KeepsIndex) (take_all c.loop-view.view-index c.args.indexes.now c.loop-view-test.false)
      c.loop-view.invariant),
  (λ all. search rules),
)
