use Rattle.std.proofs.Common.{rules, subst, IsTrue}
use Rattle.std.specs.Prelude.{All}
use Rattle.std.proofs.lemmas.List.{take_all}
use Rattle.std.proofs.lemmas.List.Elements.{All-more}
use Rattle.ix_replay.specs.Bounds.{IsSpared}
use Rattle.ix_replay.proofs.removed.all_spared.Goals as goal

pub loop-item-preserved : goal.loop-item-preserved
loop-item-preserved c =
    let t = c.if-not-is_spared.false in
    let yes : IsTrue c.is_spared.result = search rules in
    All-more (IsSpared c.args.removed.now) c.args.items.now c.loop-item.item-index c.item-item.result c.loop-item-test.true
    c.loop-item.invariant
    (subst (IsSpared c.args.removed.now) c.item-item.is (c.is_spared.ensures.0 yes))

pub returns : goal.returns
returns c = (
  (λ yes. subst (All (IsSpared c.args.removed.now)) (take_all c.loop-item.item-index c.args.items.now c.loop-item-test.false)
      c.loop-item.invariant),
  (λ all. search rules),
)
