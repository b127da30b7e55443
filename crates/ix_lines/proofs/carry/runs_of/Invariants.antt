use Rattle.std.proofs.Common.{◌≡◌, ◌≤◌, ◌++◌, length}
use Rattle.std.specs.List.{zip}
use Rattle.ix_lines.specs.Carry.{runs_of}
use Rattle.ix_lines.specs.Moments.{moments_of}
use Rattle.ix_lines.proofs.MomentLemmas.{waiting}
use Rattle.ix_lines.proofs.carry.runs_of.Given as goal

abbrev pub invariant-loop-part : goal.invariant-loop-part
invariant-loop-part l = record {
  short : length l.rest ≤ length l.bytes;
  same : length l.rest ≡ length (waiting l.«open» l.moments l.part-index);
  value : l.runs ++ runs_of (zip l.rest (waiting l.«open» l.moments l.part-index)) ≡ runs_of (zip l.bytes (moments_of l.moments));
}
