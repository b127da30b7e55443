use Rattle.ix_recovery.proofs.Resting.{rest_is}
use Rattle.ix_recovery.proofs.whole.put_rest.Goals as goal

pub returns : goal.returns
returns c =
    rest_is c.args.held.now _ _ _ _ c.args.said.now _ _ _ _ _ _ c.as_slice.ensures.value c.as_slice-indexes.ensures
    c.as_slice-ledger.ensures c.as_slice-2.ensures.value
    (c.in_ok-put_counts.ensures.put, c.in_ok-put_counts.ensures.ranged) c.in_ok-put_channels.ensures
    (c.in_ok-put_buckets.ensures.put, c.in_ok-put_buckets.ensures.ranged) (
      c.in_ok-put_entries.ensures.put,
      c.in_ok-put_entries.ensures.ranged,
    )
    (c.in_ok-put_spots.ensures.put, c.in_ok-put_spots.ensures.ranged) (c.in_ok-put_numbers.ensures.put, c.in_ok-put_numbers.ensures.ranged)
