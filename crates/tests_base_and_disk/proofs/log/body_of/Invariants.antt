use Rattle.std.proofs.Common.{◌≡◌, length}
use Rattle.tests_base_and_disk.proofs.log.body_of.Given as goal

abbrev pub invariant-loop-at : goal.invariant-loop-at
invariant-loop-at l = length l.body ≡ l.at
