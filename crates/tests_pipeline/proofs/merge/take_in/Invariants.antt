use Rattle.std.proofs.Common.{◌≡◌, IsFalse}
use Rattle.tests_pipeline.proofs.merge.take_in.Given as goal

abbrev pub invariant-loop-line : goal.invariant-loop-line
invariant-loop-line l = record {
  whole : IsFalse l.merge.broken;
  on : l.merge.on ≡ l.lines.on;
  max_lines : l.merge.max_lines ≡ l.lines.max_lines;
}
