use Rattle.std.proofs.Common.{◌≤◌, arith}
use Rattle.std.proofs.lemmas.Bool.Decides.{nat_tests}
use Rattle.ix_replay.proofs.Covered.{files_apart}
use Rattle.ix_replay.proofs.file_numbers.FileNumbers.are_below.Goals as goal

pub returns : goal.returns
returns c = λ yes items covers.
    let low : c.args.self.now.next ≤ c.args.next = grind (arith, nat_tests) in
    files_apart c.args.self.now items c.args.next low covers
