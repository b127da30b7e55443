use Rattle.std.proofs.Common.{rules, subst, sym}
use Rattle.std.specs.List.Sorted.{IsPermutation}
use Rattle.std.proofs.lemmas.List.Sorted.{answers_always}
use Rattle.ix_recovery.specs.Recalled.{bucket_id, AreBucketsOf}
use Rattle.ix_recovery.proofs.indexes.buckets_of.Goals as goal

pub returns : goal.returns
returns c =
    let sorted = c.sort_unstable_by_key.new.self.items in
    subst (AreBucketsOf c.args.placed.now c.args.index.now) (sym c.from_vec.ensures) (record {
      same = subst (λ l. IsPermutation l sorted) c.in_ok-buckets.ensures c.sort_unstable_by_key.ensures.permutation;
      rising = c.sort_unstable_by_key.ensures.sorted bucket_id (answers_always _ _ _ (λ f a r g h. search rules));
    })
