use Rattle.std.proofs.Common.{take}
use Rattle.std.specs.Prelude.{All}
use Rattle.ix_replay.specs.Bounds.{IsWithin}
use Rattle.ix_replay.proofs.ranges.are_within.Given as goal

abbrev pub invariant-loop-item : goal.invariant-loop-item
invariant-loop-item l = All (IsWithin) (take l.item-index l.items)
