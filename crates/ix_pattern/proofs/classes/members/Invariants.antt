use Rattle.std.proofs.Common.{◌≡◌, ◌-◌}
use Rattle.ix_pattern.specs.Tokens.{members}
use Rattle.ix_pattern.proofs.classes.members.Given as goal

abbrev pub invariant-loop : goal.invariant-loop
invariant-loop l = members (l.most - l.counter) l.set l.rest ≡ members l.most l.initial.set l.bytes
