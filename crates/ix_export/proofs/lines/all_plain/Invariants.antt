use Rattle.std.proofs.Common.{◌≡◌, drop}
use Rattle.std.specs.Prelude.{◌&&◌}
use Rattle.std.specs.List.{list_all}
use Rattle.ix_export.specs.EventLine.{is_plain}
use Rattle.ix_export.proofs.lines.all_plain.Given as goal

abbrev pub invariant-loop-b : goal.invariant-loop-b
invariant-loop-b l = list_all is_plain l.bytes ≡ (l.all && list_all is_plain (drop l.b-index l.bytes))
