use Rattle.std.proofs.Common.{take}
use Rattle.std.specs.Prelude.{All}
use Rattle.std.proofs.Common.{◌≡◌, [], false}
use Rattle.ix_items.specs.declared.items.Item.{Item}
use Rattle.ix_manifest.specs.Book.{name_of, named, is_same}
use Rattle.ix_replay.proofs.standing.walk_for.Given as goal

abbrev pub invariant-loop-item : goal.invariant-loop-item
invariant-loop-item l = All (λ (x : Item). is_same (name_of x) (named l.kind [] 0) ≡ false) (take l.item-index l.items)
