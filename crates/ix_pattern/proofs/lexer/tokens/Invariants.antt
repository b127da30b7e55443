use Rattle.std.proofs.Common.{◌≡◌, ◌-◌}
use Rattle.ix_pattern.specs.Tokens.{tokens}
use Rattle.ix_pattern.proofs.LexLemmas.{with_front}
use Rattle.ix_pattern.proofs.lexer.tokens.Given as goal

abbrev pub invariant-loop : goal.invariant-loop
invariant-loop l = with_front l.found.items (tokens (l.most - l.counter) l.flags l.rest) ≡ tokens l.most l.flags l.bytes
