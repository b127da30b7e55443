use Rattle.std.proofs.Common.{◌≡◌, drop}
use Rattle.ix_monitor.specs.Paths.{has_star_before_slash}
use Rattle.ix_monitor.proofs.paths.has_star_before_slash.Given as goal

abbrev pub invariant-loop-at : goal.invariant-loop-at
invariant-loop-at l = has_star_before_slash (drop l.at l.path) ≡ has_star_before_slash l.path
