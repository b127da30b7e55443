use Rattle.std.proofs.Common.{◌≡◌, List}
use Rattle.std.specs.Prelude.{IsFalse}
use Rattle.std.specs.List.{All}
use Rattle.ix_merge.specs.Stands.{Holds}
use Rattle.ix_merge.specs.Starts.{MarkedLine}
use Rattle.ix_parse.specs.Limits.{KeepsLimits, IsSmall}
use Rattle.ix_parse.specs.Stage.{Takes}
use Rattle.ix_parse.proofs.outcomes.Owner.take_lines.Given as goal

abbrev pub invariant-loop-line : goal.invariant-loop-line
invariant-loop-line l = record {
  takes : (earlier : List MarkedLine) → Holds earlier l.fn.merge →
      Takes l.self.settings.now l.self.meta.now earlier l.yielded l.fn.merge l.merge l.fn.outcomes l.outcomes;
  small : KeepsLimits l.self.settings.now l.self.meta.now → All IsSmall l.fn.outcomes.routed → All IsSmall l.outcomes.routed;
  whole : IsFalse l.merge.broken;
  on : l.merge.on ≡ l.fn.merge.on;
  max_lines : l.merge.max_lines ≡ l.fn.merge.max_lines;
}
