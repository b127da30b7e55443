use Rattle.std.proofs.Common.{◌≡◌, ◌≤◌, ◌-◌, take, get_or, false}
use Rattle.std.specs.Prelude.{All}
use Rattle.ix_manifest.specs.Book.{name_of, is_same}
use Rattle.ix_manifest.specs.declared.staged_item.StagedItem.{StagedItem}
use Rattle.ix_manifest.proofs.slots.earlier.Given as goal

abbrev pub invariant-loop-k : goal.invariant-loop-k
invariant-loop-k l = record {
  within : l.k ≤ l.at;
  none : (d : StagedItem) → All (λ slot. is_same (name_of slot.item) (name_of (get_or l.slots l.at d).item) ≡ false) (take l.k l.slots);
}

abbrev pub decreases-loop-k : goal.decreases-loop-k
decreases-loop-k l = l.at - l.k
