use Rattle.std.proofs.Common.{take}
use Rattle.std.specs.Prelude.{All}
use Rattle.ix_items.specs.Spelling.{IsWritable}
use Rattle.ix_items.proofs.writable.are_writable.Given as goal

abbrev pub invariant-loop-item : goal.invariant-loop-item
invariant-loop-item l = All IsWritable (take l.item-index l.list)
