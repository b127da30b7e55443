use Rattle.std.proofs.Common.{◌≤◌, ◌-◌, List, length, take, drop}
use Rattle.ix_items.specs.declared.items.Item.{Item}
use Rattle.ix_manifest.specs.Book.{AreItems}
use Rattle.ix_manifest.specs.Replaying.{HasApplied}
use Rattle.ix_manifest.proofs.manifest_state.apply_all.Given as goal

abbrev pub invariant-loop-at : goal.invariant-loop-at
invariant-loop-at g l = record {
  within : l.at ≤ length l.body;
  done : HasApplied (take l.at l.body) (g.B.ManifestState.stands l.fn.state) (g.B.ManifestState.stands l.state);
  left : (items : List Item) → AreItems items l.fn.body → (more : List Item) × AreItems more (drop l.at l.body);
}

abbrev pub decreases-loop-at : goal.decreases-loop-at
decreases-loop-at g l = length l.body - l.at
