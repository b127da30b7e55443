use Rattle.std.proofs.Common.{◌≡◌, ◌≤◌, ◌<◌, ◌-◌, ℕ, false, length, get_or}
use Rattle.ix_conf.specs.declared.layers.MergedEntry.{MergedEntry}
use Rattle.ix_conf.specs.Value.{is_at}
use Rattle.ix_conf.proofs.merged.find.Given as goal

abbrev pub invariant-loop-low : goal.invariant-loop-low
invariant-loop-low l = record {
  in_order : l.low ≤ l.high;
  within : l.high ≤ length l.entries;
  below : (i : ℕ) (d : MergedEntry) → i < l.low → is_at l.stanza l.key (get_or l.entries i d) ≡ false;
  above : (i : ℕ) (d : MergedEntry) → l.high ≤ i → i < length l.entries → is_at l.stanza l.key (get_or l.entries i d) ≡ false;
}

abbrev pub decreases-loop-low : goal.decreases-loop-low
decreases-loop-low l = l.high - l.low
