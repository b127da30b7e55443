use Rattle.std.proofs.Common.{◌≡◌, drop}
use Rattle.ix_fs.specs.Trees.{bytes_at}
use Rattle.ix_fs.proofs.trees.bytes_at.Given as goal

abbrev pub invariant-loop-file : goal.invariant-loop-file
invariant-loop-file l = bytes_at l.files l.path ≡ bytes_at (drop l.file-index l.files) l.path
