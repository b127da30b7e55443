use Rattle.std.proofs.Common.{◌≡◌, ◌≤◌, ◌-◌, List, length, drop}
use Rattle.std.specs.Prelude.{◌||◌}
use Rattle.std.specs.List.{list_any}
use Rattle.ix_items.specs.declared.items.Item.{Item}
use Rattle.ix_manifest.specs.Book.{AreItems}
use Rattle.ix_store.specs.Finding.{name_in, is_under}
use Rattle.ix_store.proofs.finding.says.Given as goal

abbrev pub invariant-loop-at : goal.invariant-loop-at
invariant-loop-at l = record {
  within : l.at ≤ length l.body;
  left : (items : List Item) → AreItems items l.fn.body →
      (more : List Item) × AreItems more (drop l.at l.body)
      × (list_any (is_under (name_in l.subject)) items ≡ (l.found || list_any (is_under (name_in l.subject)) more));
}

abbrev pub decreases-loop-at : goal.decreases-loop-at
decreases-loop-at l = length l.body - l.at
