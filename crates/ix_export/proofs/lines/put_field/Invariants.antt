use Rattle.std.proofs.Common.{◌≤◌, ◌-◌, length, take}
use Rattle.ix_export.specs.EventLine.{field}
use Rattle.ix_base.specs.Told.{HasWritten}
use Rattle.ix_export.proofs.lines.put_field.Given as goal

abbrev pub invariant-loop-at : goal.invariant-loop-at
invariant-loop-at g l = record {
  within : l.at ≤ length l.bytes;
  written : HasWritten (field (take l.at l.bytes)) (g.W.Sink.given l.initial.out) (g.W.Sink.given l.out);
  later : g.W.Sink.faults l.initial.out ≤ g.W.Sink.faults l.out;
}

abbrev pub decreases-loop-at : goal.decreases-loop-at
decreases-loop-at g l = length l.bytes - l.at
