use Rattle.std.proofs.Common.{◌≡◌, ◌≤◌, ◌+◌, ℕ, true, length}
use Rattle.ix_conf.specs.Lines.{physical_lines, joined, logical_lines}
use Rattle.ix_conf.proofs.lines.join.Given as goal

abbrev pub invariant-loop-goes_on : goal.invariant-loop-goes_on
invariant-loop-goes_on l = record {
  same : (number at : ℕ) → joined number l.line (logical_lines true (at + l.count) (physical_lines l.rest))
      ≡ joined number l.fn.line (logical_lines true at (physical_lines l.text));
  shorter : length l.rest + l.count ≤ length l.text;
}

abbrev pub decreases-loop-goes_on : goal.decreases-loop-goes_on
decreases-loop-goes_on l = length l.rest
