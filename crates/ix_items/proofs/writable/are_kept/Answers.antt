use Rattle.std.proofs.Common.{rules, subst, IsTrue}
use Rattle.std.specs.Prelude.{All}
use Rattle.std.proofs.lemmas.List.{take_all}
use Rattle.std.proofs.lemmas.List.Elements.{All-more}
use Rattle.ix_items.specs.Spelling.{IsKept}
use Rattle.ix_items.proofs.writable.are_kept.Goals as goal

pub loop-one-preserved : goal.loop-one-preserved
loop-one-preserved c =
    let t = c.if-not-is_kept.false in
    let yes : IsTrue c.is_kept.result = search rules in
    All-more IsKept c.args.kept.now c.loop-one.one-index c.one-item.result c.loop-one-test.true c.loop-one.invariant
    (subst IsKept c.one-item.is (c.is_kept.ensures.0 yes))

pub returns : goal.returns
returns c = (
  (λ yes. subst (All IsKept) (take_all c.loop-one.one-index c.args.kept.now c.loop-one-test.false) c.loop-one.invariant),
  (λ all. search rules),
)
