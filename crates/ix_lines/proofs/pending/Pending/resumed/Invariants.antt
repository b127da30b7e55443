use Rattle.std.proofs.Common.{◌≡◌, take}
use Rattle.ix_lines.specs.Carry.{dated_of}
use Rattle.ix_lines.specs.Pending.{IsPaired, dated_in}
use Rattle.ix_lines.proofs.pending.Pending.resumed.Given as goal

abbrev pub invariant-loop-run : goal.invariant-loop-run
invariant-loop-run l = record {
  before : l.pending.before ≡ l.fn.before;
  paired : IsPaired l.pending;
  dated : dated_in l.pending ≡ dated_of (take l.run-index l.runs);
}
