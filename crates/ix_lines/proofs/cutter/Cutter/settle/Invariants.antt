use Rattle.std.proofs.Common.{◌≡◌, ◌+◌, ◌*◌, ◌-◌, ◌≤◌, length, List, take, drop}
use Rattle.ix_match.specs.Scans.{GoesOn}
use Rattle.ix_lines.specs.Begun.{IsBegun}
use Rattle.ix_lines.specs.Seek.{last_byte}
use Rattle.std.specs.List.{All}
use Rattle.ix_base.specs.Stream.{Dated}
use Rattle.ix_lines.specs.Lines.{IsShort}
use Rattle.ix_lines.specs.Walk.{walk}
use Rattle.ix_lines.specs.Breaks.{breaks_by}
use Rattle.ix_lines.specs.Kept.{Keeps}
use Rattle.ix_lines.specs.Moments.{PointsInto}
use Rattle.ix_lines.specs.Pending.{dated_in}
use Rattle.ix_lines.specs.Settle.{CameTo}
use Rattle.ix_lines.proofs.cutter.Cutter.settle.Given as goal

abbrev pub invariant-loop-found : goal.invariant-loop-found
invariant-loop-found g l = record {
  order : l.start ≤ l.at;
  within : l.at ≤ length l.bytes;
  points : PointsInto l.runs l.cursor;
  behind : l.cursor.passed ≤ l.start;
  came : (stretch : List Dated) → Keeps l.initial.self.truncate stretch l.initial.self.kept →
      CameTo (breaks_by l.initial.self.breaker.pattern) l.unfinished l.initial.self.truncate
      (walk (breaks_by l.initial.self.breaker.pattern) l.unfinished l.pending.before stretch 0 (dated_in l.pending)) l.pending.before
      (dated_in l.pending) l.start l.at l.self.kept l.initial.out l.out;
  breaker : l.self.breaker.pattern ≡ l.initial.self.breaker.pattern;
  goes_on : GoesOn l.self.breaker.scan (last_byte l.pending.before (take l.at l.pending.bytes)) (drop l.at l.pending.bytes);
  first : l.at ≡ 0 → l.self.breaker ≡ l.initial.self.breaker;
  counted : l.steps ≤ l.initial.steps + l.initial.self.breaker.pattern.weight * 512 * l.at;
  again : IsBegun l.initial.self.breaker → l.steps ≤ l.initial.steps + l.initial.self.breaker.pattern.weight * 512 * (l.at - 1);
  truncate : l.self.truncate ≡ l.initial.self.truncate;
  lines : All IsShort l.initial.out → All IsShort l.out;
  later : l.initial.steps ≤ l.steps;
}

abbrev pub decreases-loop-found : goal.decreases-loop-found
decreases-loop-found g l = length l.bytes - l.at
