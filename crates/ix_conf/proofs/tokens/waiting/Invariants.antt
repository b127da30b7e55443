use Rattle.std.proofs.Common.{◌≡◌, ◌≤◌, ◌+◌, length, drop}
use Rattle.std.specs.Prelude.{Some}
use Rattle.ix_conf.specs.Names.{waiting}
use Rattle.ix_conf.proofs.tokens.waiting.Given as goal

abbrev pub invariant-loop-at : goal.invariant-loop-at
invariant-loop-at l = record {
  counted : waiting (drop l.at l.tokens) ≡ Some l.count;
  within : l.at + l.count ≤ length l.tokens;
}

abbrev pub decreases-loop-at : goal.decreases-loop-at
decreases-loop-at l = l.at
