use Rattle.std.proofs.Common.{rules}
use Rattle.std.proofs.lemmas.List.Sorted.{answers_always}
use Rattle.ix_life.specs.Order as defs
use Rattle.ix_life.proofs.OrderLemmas.{sorted_by-from_sort, buckets_ranked}
use Rattle.ix_life.proofs.order.ordered.Goals as goal

pub returns-clause-rising : goal.returns-clause-rising
returns-clause-rising c = c.in_ok-sort_by_key.ensures.sorted defs.key (answers_always _ _ _ (λ f a r g h. search rules))

pub returns-clause-value : goal.returns-clause-value
returns-clause-value c =
    sorted_by-from_sort defs.is_before buckets_ranked _ _
    (c.in_ok-sort_by_key.ensures.sorted defs.key (answers_always _ _ _ (λ f a r g h. search rules)))
    (c.in_ok-sort_by_key.ensures.stable defs.key (answers_always _ _ _ (λ f a r g h. search rules)))
