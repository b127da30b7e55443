use Rattle.std.proofs.Common.{ap, ◌∙◌, rules}
use Rattle.std.proofs.lemmas.List.Sorted.{answers_always}
use Rattle.ix_model.specs.Ranked.{ranks_before, ranked}
use Rattle.ix_model.proofs.Ranking.{entries_compared, ranked_by_sort}
use Rattle.ix_state.proofs.ranking.ranked.Goals as goal

pub returns : goal.returns
returns c =
    c.from_vec.ensures
    ∙ ranked_by_sort _ _
    (c.in_ok-sort_by.ensures.sorted ranks_before entries_compared (answers_always _ _ _ (λ f a r g h. search rules)))
    (c.in_ok-sort_by.ensures.stable ranks_before entries_compared (answers_always _ _ _ (λ f a r g h. search rules)))
    ∙ ap ranked c.into_vec-items.ensures
