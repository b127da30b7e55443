use Rattle.std.proofs.Common.{◌≡◌, drop, None}
use Rattle.ix_parse.specs.Reading.{fit}
use Rattle.ix_parse.proofs.reading.fit.Given as goal

abbrev pub invariant-loop-run : goal.invariant-loop-run
invariant-loop-run l = record { left : fit l.before l.room (drop l.run-index l.runs) ≡ fit None 16383 l.runs }
