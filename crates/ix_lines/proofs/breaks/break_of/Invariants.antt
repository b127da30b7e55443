use Rattle.std.proofs.Common.{◌≡◌, drop}
use Rattle.ix_lines.specs.Breaks.{break_of}
use Rattle.ix_lines.proofs.breaks.break_of.Given as goal

abbrev pub invariant-loop-group : goal.invariant-loop-group
invariant-loop-group l = break_of (drop l.group-index l.groups) ≡ break_of l.groups
