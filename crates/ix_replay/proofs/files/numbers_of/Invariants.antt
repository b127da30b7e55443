use Rattle.std.proofs.Common.{◌≡◌, ℕ, take}
use Rattle.std.specs.List.{sum_by}
use Rattle.ix_replay.specs.Amounts.{uses}
use Rattle.ix_replay.proofs.Counting.{often}
use Rattle.ix_replay.proofs.files.numbers_of.Given as goal

abbrev pub invariant-loop-item : goal.invariant-loop-item
invariant-loop-item l = (n : ℕ) → often l.numbers.items n ≡ sum_by (uses n) (take l.item-index l.items)
