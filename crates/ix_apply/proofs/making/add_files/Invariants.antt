use Rattle.std.proofs.Common.{◌≡◌, ◌++◌, take}
use Rattle.ix_apply.proofs.making.add_files.Given as goal

abbrev pub invariant-loop-file : goal.invariant-loop-file
invariant-loop-file l = l.list ≡ l.fn.list ++ take l.file-index l.files
