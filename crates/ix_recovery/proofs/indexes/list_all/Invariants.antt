use Rattle.std.proofs.Common.{take}
use Rattle.std.specs.List.{AllZip}
use Rattle.ix_recovery.specs.Recalled.{IsListed}
use Rattle.ix_recovery.proofs.indexes.list_all.Given as goal

abbrev pub invariant-loop-name : goal.invariant-loop-name
invariant-loop-name l = AllZip (IsListed l.placed) (take l.name-index l.names) l.indexes.items
