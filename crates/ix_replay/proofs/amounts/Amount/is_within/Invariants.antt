use Rattle.std.proofs.Common.{◌≡◌, ◌+◌, take}
use Rattle.std.specs.List.{sum_by}
use Rattle.ix_replay.specs.Amounts.{amount_in, most}
use Rattle.ix_replay.proofs.amounts.Amount.is_within.Given as goal

abbrev pub invariant-loop-item : goal.invariant-loop-item
invariant-loop-item l = l.room + sum_by (amount_in l.self) (take l.item-index l.items) ≡ most l.self
