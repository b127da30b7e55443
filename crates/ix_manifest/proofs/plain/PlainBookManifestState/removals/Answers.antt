use Rattle.std.proofs.Common.{List, take, ap, sym, ◌∙◌}
use Rattle.ix_base.specs.declared.files.File.{File}
use Rattle.ix_items.specs.declared.items.Item.{Item}
use Rattle.ix_manifest.specs.Book.{empty, replay, removals_in}
use Rattle.ix_manifest.specs.Plain.{removals_after}
use Rattle.ix_manifest.proofs.Runs.{removals_more}
use Rattle.ix_manifest.proofs.plain.PlainBookManifestState.removals.Goals as goal

pub loop-item-preserved : goal.loop-item-preserved
loop-item-preserved c =
    c.removals_after-files.ensures ∙ ap (λ (l : List File). removals_after c.item-item.result l) c.loop-item.invariant
    ∙ ap (λ (i : Item). removals_after i (removals_in (replay (take c.loop-item.item-index c.as_slice-items.result.now) empty)))
    c.item-item.is
    ∙ sym (removals_more c.as_slice-items.result.now c.loop-item.item-index c.item-item.result c.loop-item-test.true)
