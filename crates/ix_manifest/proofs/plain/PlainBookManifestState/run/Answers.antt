use Rattle.std.proofs.Common.{ℕ, take, ap, sym, ◌∙◌}
use Rattle.ix_items.specs.declared.items.Item.{Item}
use Rattle.ix_manifest.specs.Book.{empty, replay, run_in}
use Rattle.ix_manifest.specs.Plain.{run_after}
use Rattle.ix_manifest.proofs.Runs.{run_more}
use Rattle.ix_manifest.proofs.plain.PlainBookManifestState.run.Goals as goal

pub loop-item-preserved : goal.loop-item-preserved
loop-item-preserved c =
    c.run_after-run.ensures ∙ ap (λ (n : ℕ). run_after c.item-item.result n) c.loop-item.invariant
    ∙ ap (λ (i : Item). run_after i (run_in (replay (take c.loop-item.item-index c.as_slice-items.result.now) empty))) c.item-item.is
    ∙ sym (run_more c.as_slice-items.result.now c.loop-item.item-index c.item-item.result c.loop-item-test.true)
