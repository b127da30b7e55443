use Rattle.std.proofs.Common.{◌≡◌, ◌∷◌, ◌++◌, List, [], take, ap, subst, sym, ◌∙◌}
use Rattle.std.proofs.lemmas.List.{take_more}
use Rattle.ix_manifest.specs.Repeats.{Tells}
use Rattle.ix_manifest.specs.declared.staged_item.StagedItem.{StagedItem}
use Rattle.ix_manifest.proofs.repeats.repeats_of.Goals as goal

pub loop-slot-preserved : goal.loop-slot-preserved
loop-slot-preserved c =
    let slots = c.args.slots.now in
    let i = c.loop-slot.slot-index in
    let one = c.slot-item.result in
    let more = take_more slots i one c.loop-slot-test.true ∙ ap (λ (s : StagedItem). take i slots ++ s ∷ []) (sym c.slot-item.is) in
    subst (Tells c.note.new.seen) (sym more) (c.in_ok-note.ensures (take i slots) c.loop-slot.invariant)
