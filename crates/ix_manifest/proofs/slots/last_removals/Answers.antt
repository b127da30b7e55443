use Rattle.std.proofs.Common.{◌≡◌, ◌+◌, ◌∙◌, List, ap, subst, sym, take}
use Rattle.std.proofs.lemmas.List.{take_all}
use Rattle.ix_manifest.specs.Book.{empty, replay, removals_in}
use Rattle.ix_manifest.specs.Slots.{AreRemovals, items_of}
use Rattle.ix_manifest.specs.declared.staged_item.StagedItem.{StagedItem}
use Rattle.ix_manifest.proofs.Runs.{removals_behind, removals_last}
use Rattle.ix_manifest.proofs.slots.last_removals.Goals as goal

pub loop-slot-preserved : goal.loop-slot-preserved
loop-slot-preserved c = record {
  are = subst (AreRemovals (take (c.loop-slot.slot-index + 1) c.args.slots.now)) (sym c.removals_after-files.ensures)
      (removals_behind c.args.slots.now c.loop-slot.slot-index c.slot-item.result c.loop-slot.files.now c.loop-slot-test.true c.slot-item.is
      c.loop-slot.invariant.are);
  last = c.removals_after-files.ensures
      ∙ removals_last c.args.slots.now c.loop-slot.slot-index c.slot-item.result c.loop-slot.files.now c.loop-slot-test.true c.slot-item.is
      c.loop-slot.invariant.last;
}

pub returns-clause-are : goal.returns-clause-are
returns-clause-are c = subst (λ (l : List StagedItem). AreRemovals l c.loop-slot.files.now)
    (take_all c.loop-slot.slot-index c.args.slots.now c.loop-slot-test.false) c.loop-slot.invariant.are

pub returns-clause-last : goal.returns-clause-last
returns-clause-last c = c.loop-slot.invariant.last ∙ ap (λ (l : List StagedItem). removals_in (replay (items_of l) empty))
    (take_all c.loop-slot.slot-index c.args.slots.now c.loop-slot-test.false)
