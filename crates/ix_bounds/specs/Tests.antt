-- Bounds as tests.
use Rattle.std.specs.Prelude.{◌^◌, ◌+◌, ◌&&◌, ℕ, ℤ, Bool, nat_le, nat_lt, List, unsigned_abs}
use Rattle.std.specs.List.{list_all}
use Rattle.ix_items.specs.declared.items.Bucket.{Bucket}
use Rattle.ix_items.specs.declared.items.Entry.{Entry}
use Rattle.ix_items.specs.declared.items.Kept.{Kept}
use Rattle.ix_life.specs.declared.views.IndexView.{IndexView}
use Rattle.ix_model.specs.Judged.{most_channels}
use Rattle.ix_catalog.specs.Measures.{capped, all_bytes, all_events, shelf_size}
use Rattle.ix_catalog.specs.declared.index_table.IndexTable.{IndexTable}
use Rattle.ix_bounds.specs.Within.{settings_size}
use Rattle.ix_bounds.specs.declared.totals.Channels.{Channels}
use Rattle.ix_bounds.specs.declared.totals.Spots.{Spots}

abbrev pub is_time : ℤ → Bool
is_time time = nat_le (unsigned_abs time) (2 ^ 62)

abbrev pub has_times : Bucket → Bool
has_times b = is_time b.newest && is_time b.oldest

abbrev pub entry_has_times : Entry → Bool
entry_has_times e = is_time e.newest && is_time e.oldest

abbrev pub all_have_times : IndexView → Bool
all_have_times v = list_all has_times v.buckets

abbrev pub are_numbers : List Entry → IndexTable → Bool
are_numbers ledger s =
    nat_lt s.settled (2 ^ 63) && nat_lt s.next_file (2 ^ 63) && nat_lt (all_bytes ledger s) (2 ^ 63) && nat_lt (all_events ledger s)
    (2 ^ 63)

abbrev pub are_few : List Kept → ℕ → List Entry → IndexTable → Bool
are_few kept others ledger s = nat_lt (settings_size kept + others + shelf_size ledger s) (2 ^ 29)

abbrev pub are_within : List Kept → Channels → Spots → List Entry → IndexTable → Bool
are_within kept channels spots ledger s =
    nat_le channels.count most_channels && spots.within && are_numbers ledger s && list_all all_have_times s.indexes && list_all
    entry_has_times ledger
    && are_few kept (capped (channels.size + spots.size)) ledger s
