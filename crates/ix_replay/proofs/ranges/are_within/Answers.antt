use Rattle.std.proofs.Common.{rules, subst, IsTrue}
use Rattle.std.specs.Prelude.{All}
use Rattle.std.proofs.lemmas.List.{take_all}
use Rattle.std.proofs.lemmas.List.Elements.{All-more}
use Rattle.ix_replay.specs.Bounds.{IsWithin}
use Rattle.ix_replay.proofs.ranges.are_within.Goals as goal

pub loop-item-preserved : goal.loop-item-preserved
loop-item-preserved c =
    let t = c.if-not-is_within.false in
    let yes : IsTrue c.is_within.result = search rules in
    All-more IsWithin c.args.items.now c.loop-item.item-index c.item-item.result c.loop-item-test.true c.loop-item.invariant
    (subst IsWithin c.item-item.is (c.is_within.ensures.0 yes))

pub returns : goal.returns
returns c = (
  (λ yes. subst (All IsWithin) (take_all c.loop-item.item-index c.args.items.now c.loop-item-test.false) c.loop-item.invariant),
  (λ all. search rules),
)
