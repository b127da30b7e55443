use Rattle.std.proofs.Common.{rules, subst, IsTrue}
use Rattle.std.specs.Prelude.{All}
use Rattle.std.proofs.lemmas.List.{take_all}
use Rattle.std.proofs.lemmas.List.Elements.{All-more}
use Rattle.ix_effects.specs.Guarding.{IsWritableEntry}
use Rattle.ix_effects.proofs.guards.are_writable.Goals as goal

pub loop-entry-preserved : goal.loop-entry-preserved
loop-entry-preserved c =
    let t = c.if-not-is_writable.false in
    let yes : IsTrue c.is_writable.result = search rules in
    All-more IsWritableEntry c.args.entries.now c.loop-entry.entry-index c.entry-item.result c.loop-entry-test.true c.loop-entry.invariant
    (subst IsWritableEntry c.entry-item.is (c.is_writable.ensures.0 yes))

pub returns : goal.returns
returns c = (
  (λ yes. subst (All IsWritableEntry) (take_all c.loop-entry.entry-index c.args.entries.now c.loop-entry-test.false)
      c.loop-entry.invariant),
  (λ all. search rules),
)
