use Rattle.std.proofs.Common.{◌≡◌, ◌-◌, ◌^◌, length, take}
use Rattle.std.specs.Prelude.{min}
use Rattle.std.specs.List.{sum_by}
use Rattle.ix_items.specs.Spelling.{item_bytes}
use Rattle.ix_items.specs.declared.items.Item.{Item}
use Rattle.ix_replay.proofs.room.have_room.Given as goal

abbrev pub invariant-loop-item : goal.invariant-loop-item
invariant-loop-item l = l.total ≡ min (sum_by (λ (x : Item). length (item_bytes x)) (take l.item-index l.items)) (2 ^ 64 - 1)
