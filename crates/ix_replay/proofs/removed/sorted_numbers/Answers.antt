use Rattle.std.proofs.Common.{ℕ}
use Rattle.std.proofs.lemmas.List.Sorted.{IsNonDecreasingBy-from_sort}
use Rattle.ix_replay.proofs.Unnamed.{all_among}
use Rattle.ix_replay.proofs.removed.sorted_numbers.Goals as goal

pub returns-clause-rises : goal.returns-clause-rises
returns-clause-rises c = IsNonDecreasingBy-from_sort (λ (n : ℕ). n) c.sort_unstable.new.self.items c.sort_unstable.ensures.sorted

pub returns-clause-all : goal.returns-clause-all
returns-clause-all c = all_among c.args.files.now c.in_ok-numbers.numbers.items c.sort_unstable.new.self.items c.in_ok-numbers.ensures
    c.sort_unstable.ensures.permutation
