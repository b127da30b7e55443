use Rattle.std.proofs.Common.{rules, IsTrue, ◌<◌, ◌-◌, length, arith, true}
use Rattle.std.proofs.lemmas.List.Elements.{pair_read}
use Rattle.std.proofs.lemmas.List.Sorted.{all_adjacent_more}
use Rattle.ix_effects.specs.Guarding.{Ascends}
use Rattle.ix_effects.proofs.Rising.{steps_ascend, ascending_at}
use Rattle.ix_effects.proofs.guards.stand_by_name.Goals as goal

pub returns-then-not-is_before : goal.returns-then-not-is_before
returns-then-not-is_before c = (
  (λ yes. search rules),
  (λ all. c.if-not-is_before.ensures.1
      (ascending_at c.args.indexes.now c.loop-at.at c.index-indexes-at.result c.index-indexes-at-in-loop-at.result all
      (omega arith) c.loop-at-test.true c.index-indexes-at.is c.index-indexes-at-in-loop-at.is)),
)

pub loop-at-preserved : goal.loop-at-preserved
loop-at-preserved c =
    let xs = c.args.indexes.now in
    let at = c.loop-at.at in
    let yes : IsTrue true = search rules in
    let before : at - 1 < length xs = omega arith in
    all_adjacent_more xs Ascends at (omega arith) c.loop-at.invariant
    (pair_read xs Ascends (at - 1) at c.index-indexes-at.result c.index-indexes-at-in-loop-at.result before c.loop-at-test.true
    c.index-indexes-at.is c.index-indexes-at-in-loop-at.is
    (c.if-not-is_before.ensures.0 yes))

pub returns : goal.returns
returns c = ((λ yes. steps_ascend c.args.indexes.now (λ k d l. c.loop-at.invariant k d (omega arith))), (λ all. search rules))
