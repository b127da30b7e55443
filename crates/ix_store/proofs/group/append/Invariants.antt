use Rattle.std.proofs.Common.{◌≡◌, ◌++◌, take}
use Rattle.ix_store.specs.Filing.{AreNumbered}
use Rattle.ix_store.proofs.group.append.Given as goal

abbrev pub invariant-loop-file : goal.invariant-loop-file
invariant-loop-file l = record {
  list : l.list ≡ l.fn.list ++ take l.file-index l.files;
  numbered : AreNumbered l.fn.list → AreNumbered l.list;
}
