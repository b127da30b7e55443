use Rattle.std.proofs.Common.{take}
use Rattle.std.specs.Prelude.{All}
use Rattle.ix_replay.specs.Bounds.{IsSpared}
use Rattle.ix_replay.proofs.removed.all_spared.Given as goal

abbrev pub invariant-loop-item : goal.invariant-loop-item
invariant-loop-item l = All (IsSpared l.removed) (take l.item-index l.items)
