use Rattle.std.proofs.Common.{rules, subst, IsTrue}
use Rattle.std.specs.Prelude.{All}
use Rattle.std.proofs.lemmas.List.{take_all}
use Rattle.std.proofs.lemmas.List.Elements.{All-more}
use Rattle.ix_items.specs.Spelling.{IsWritable}
use Rattle.ix_items.proofs.writable.are_writable.Goals as goal

pub loop-item-preserved : goal.loop-item-preserved
loop-item-preserved c =
    let t = c.if-not-is_writable.false in
    let yes : IsTrue c.is_writable.result = search rules in
    All-more IsWritable c.args.list.now c.loop-item.item-index c.item-item.result c.loop-item-test.true c.loop-item.invariant
    (subst IsWritable c.item-item.is (c.is_writable.ensures.0 yes))

pub returns : goal.returns
returns c = (
  (λ yes. subst (All IsWritable) (take_all c.loop-item.item-index c.args.list.now c.loop-item-test.false) c.loop-item.invariant),
  (λ all. search rules),
)
