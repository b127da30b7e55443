use Rattle.std.proofs.Common.{arith}
use Rattle.ix_replay.proofs.file_numbers.FileNumbers.none.Goals as goal

pub returns : goal.returns
returns c = record { used = λ n. omega arith; from_one = omega arith; below = λ n above. omega arith }
