use Rattle.std.proofs.Common.{◌≡◌, ◌++◌, length, take}
use Rattle.std.specs.List.{flat_map}
use Rattle.ix_coding.specs.Spelling.{four}
use Rattle.ix_coding.specs.Writing.{Extends}
use Rattle.ix_items.specs.Spelling.{file_bytes}
use Rattle.ix_items.proofs.writing.put_files.Given as goal

abbrev pub invariant-loop-file : goal.invariant-loop-file
invariant-loop-file l = record {
  put : l.out ≡ l.fn.out ++ (four (length l.files) ++ flat_map file_bytes (take l.file-index l.files));
  begun : Extends l.fn.out l.out;
}
