use Rattle.std.proofs.Common.{◌≡◌, ℕ, List, ap, subst, sym, ◌∙◌}
use Rattle.std.specs.List.{sum_by}
use Rattle.std.specs.List.Sorted.{IsNonDecreasing}
use Rattle.std.proofs.lemmas.List.Sorted.{IsNonDecreasingBy-from_sort}
use Rattle.ix_replay.specs.Amounts.{uses}
use Rattle.ix_replay.proofs.Counting.{often, often_moved, apart_as}
use Rattle.ix_replay.proofs.files.are_apart.Goals as goal

pub rise-requires : goal.rise-requires
rise-requires c = subst IsNonDecreasing (sym c.as_slice.ensures.value)
    (IsNonDecreasingBy-from_sort (λ (n : ℕ). n) c.sort_unstable.new.self.items c.sort_unstable.ensures.sorted)

pub returns : goal.returns
returns c =
    let sorted = c.sort_unstable.new.self.items in
    let numbers = c.in_ok-numbers.numbers.items in
    let same : (n : ℕ) → often c.as_slice.result.now n ≡ sum_by (uses n) c.args.items.now =
    λ n. ap (λ (l : List ℕ). often l n) c.as_slice.ensures.value ∙ often_moved numbers sorted n c.sort_unstable.ensures.permutation
    ∙ c.in_ok-numbers.ensures n in (
      (λ yes. apart_as (often c.as_slice.result.now) (λ n. sum_by (uses n) c.args.items.now) c.args.next same (c.rise.ensures.0 yes)),
      (λ apart. c.rise.ensures.1 (apart_as (λ n. sum_by (uses n) c.args.items.now) (often c.as_slice.result.now) c.args.next
          (λ n. sym (same n)) apart)),
    )
