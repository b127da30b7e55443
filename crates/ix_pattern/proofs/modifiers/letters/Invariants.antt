use Rattle.std.proofs.Common.{◌≡◌, length}
use Rattle.ix_pattern.specs.Tokens.{letters}
use Rattle.ix_pattern.proofs.modifiers.letters.Given as goal

abbrev pub invariant-loop-rest : goal.invariant-loop-rest
invariant-loop-rest l = letters l.flags l.rest ≡ letters l.initial.flags l.bytes

abbrev pub decreases-loop-rest : goal.decreases-loop-rest
decreases-loop-rest l = length l.rest
