use Rattle.std.proofs.Common.{Bool, take, ap, sym, ◌∙◌}
use Rattle.ix_items.specs.declared.items.Item.{Item}
use Rattle.ix_manifest.specs.Book.{empty, replay, has_settings}
use Rattle.ix_manifest.specs.Plain.{settled_after}
use Rattle.ix_manifest.proofs.Runs.{settled_more}
use Rattle.ix_manifest.proofs.plain.PlainBookManifestState.has_settings.Goals as goal

pub loop-item-preserved : goal.loop-item-preserved
loop-item-preserved c =
    c.settled_after-settled.ensures ∙ ap (λ (t : Bool). settled_after c.item-item.result t) c.loop-item.invariant
    ∙ ap (λ (i : Item). settled_after i (has_settings (replay (take c.loop-item.item-index c.as_slice-items.result.now) empty)))
    c.item-item.is
    ∙ sym (settled_more c.as_slice-items.result.now c.loop-item.item-index c.item-item.result c.loop-item-test.true)
