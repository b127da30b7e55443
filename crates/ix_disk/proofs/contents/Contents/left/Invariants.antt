use Rattle.std.proofs.Common.{take}
use Rattle.ix_disk.proofs.Copies.{AreLeft}
use Rattle.ix_disk.proofs.contents.Contents.left.Given as goal

-- the first of them are copied
abbrev pub invariant-loop-held : goal.invariant-loop-held
invariant-loop-held l = AreLeft l.torn l.files.items (take l.held-index l.self.files.items)
