use Rattle.std.proofs.Common.{◌≡◌, ◌-◌}
use Rattle.ix_pattern.specs.Tokens.{modifiers}
use Rattle.ix_pattern.proofs.modifiers.modifiers.Given as goal

abbrev pub invariant-loop : goal.invariant-loop
invariant-loop l = modifiers (l.most - l.counter) l.flags l.rest ≡ modifiers l.most l.initial.flags l.bytes
