use Rattle.std.proofs.Common.{◌≡◌, ◌++◌, length, take}
use Rattle.std.specs.List.{flat_map}
use Rattle.ix_coding.specs.Spelling.{four}
use Rattle.ix_coding.specs.Writing.{Extends}
use Rattle.ix_items.specs.Spelling.{kept_bytes}
use Rattle.ix_items.proofs.writing.put_settings.Given as goal

abbrev pub invariant-loop-kept : goal.invariant-loop-kept
invariant-loop-kept l = record {
  put : l.out ≡ l.fn.out ++ (four (length l.settings) ++ flat_map kept_bytes (take l.kept-index l.settings));
  begun : Extends l.fn.out l.out;
}
