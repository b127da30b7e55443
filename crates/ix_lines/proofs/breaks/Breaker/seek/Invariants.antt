use Rattle.std.proofs.Common.{length, ◌≡◌, ◌+◌, ◌*◌, ◌-◌, ◌≤◌}
use Rattle.ix_lines.specs.Begun.{IsBegun}
use Rattle.ix_lines.specs.Breaks.{breaks_by}
use Rattle.ix_lines.proofs.SeekLemmas.{Sought}
use Rattle.ix_lines.proofs.breaks.Breaker.seek.Given as goal

abbrev pub invariant-loop-at : goal.invariant-loop-at
invariant-loop-at g l = record {
  within : l.at ≤ length l.bytes;
  sought : Sought (breaks_by l.initial.self.pattern) l.unfinished l.before l.bytes l.at;
  pattern : l.self.pattern ≡ l.initial.self.pattern;
  first : l.at ≡ 0 → l.self ≡ l.initial.self;
  counted : l.steps ≤ l.initial.steps + l.initial.self.pattern.weight * 512 * l.at;
  again : IsBegun l.initial.self → l.steps ≤ l.initial.steps + l.initial.self.pattern.weight * 512 * (l.at - 1);
  later : l.initial.steps ≤ l.steps;
}

abbrev pub decreases-loop-at : goal.decreases-loop-at
decreases-loop-at g l = length l.bytes - l.at
