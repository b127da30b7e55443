use Rattle.std.proofs.Common.{rules, ◌≡◌, refl}
use Rattle.ix_pikevm.proofs.AttemptLemmas.{stands-same}
use Rattle.ix_pikevm.proofs.attempt.Attempt.copy.Goals as goal

pub returns : goal.returns
returns c = λ rows program before bytes s.
    let threads : c.in_ok-threads.threads.items ≡ c.args.self.now.threads.items = search rules in
    let cells : c.in_ok-cells.cells.items ≡ c.args.self.now.cells.items = search rules in
    stands-same rows program c.args.self.now _ before bytes refl threads cells refl s
