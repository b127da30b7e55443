use Rattle.std.proofs.Common.{◌≡◌, ◌++◌, take, drop}
use Rattle.ix_fs.specs.Trees.{with_name}
use Rattle.ix_fs.proofs.trees.place_of.Given as goal

abbrev pub invariant-loop-at : goal.invariant-loop-at
invariant-loop-at l = with_name l.name l.names ≡ take l.at l.names ++ with_name l.name (drop l.at l.names)
