use Rattle.std.proofs.Common.{rules}
use Rattle.std.proofs.lemmas.Cmp.{nat_list_cmp_total}
use Rattle.std.proofs.lemmas.List.Sorted.{ranks_by, answers_always}
use Rattle.ix_catalog.specs.Lists.{stands_before}
use Rattle.ix_recovery.specs.Recalled.{carried_name}
use Rattle.ix_recovery.proofs.sorting.channels_by_name.Goals as goal

pub returns : goal.returns
returns c = record {
  same = c.sort_unstable_by.ensures.permutation;
  rising =
      c.sort_unstable_by.ensures.sorted (stands_before carried_name) (ranks_by nat_list_cmp_total carried_name)
      (answers_always _ _ _ (λ f a r g h. search rules));
}
