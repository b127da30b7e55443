use Rattle.std.proofs.Common.{take}
use Rattle.std.specs.Prelude.{All}
use Rattle.ix_items.specs.Spelling.{IsKept}
use Rattle.ix_items.proofs.writable.are_kept.Given as goal

abbrev pub invariant-loop-one : goal.invariant-loop-one
invariant-loop-one l = All IsKept (take l.one-index l.kept)
