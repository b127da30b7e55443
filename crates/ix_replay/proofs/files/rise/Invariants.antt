use Rattle.ix_replay.proofs.Counting.{IsRising}
use Rattle.ix_replay.proofs.files.rise.Given as goal

abbrev pub invariant-loop-number : goal.invariant-loop-number
invariant-loop-number l = IsRising l.numbers l.next l.number-index l.least
