use Rattle.std.proofs.Common.{◌≡◌, drop}
use Rattle.ix_life.specs.Stanzas.{contains}
use Rattle.ix_life.proofs.stanzas.contains.Given as goal

abbrev pub invariant-loop-at : goal.invariant-loop-at
invariant-loop-at l = contains l.word (drop l.at l.text) ≡ contains l.word l.text
