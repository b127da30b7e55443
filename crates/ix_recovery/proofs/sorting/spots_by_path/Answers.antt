use Rattle.std.proofs.Common.{rules}
use Rattle.std.proofs.lemmas.Cmp.{nat_list_cmp_total}
use Rattle.std.proofs.lemmas.List.Sorted.{ranks_by, answers_always}
use Rattle.ix_catalog.specs.Lists.{stands_before}
use Rattle.ix_model.specs.State.{spot_path}
use Rattle.ix_recovery.proofs.sorting.spots_by_path.Goals as goal

pub returns : goal.returns
returns c = record {
  same = c.sort_unstable_by.ensures.permutation;
  rising =
      c.sort_unstable_by.ensures.sorted (stands_before spot_path) (ranks_by nat_list_cmp_total spot_path)
      (answers_always _ _ _ (λ f a r g h. search rules));
}
