-- What an index stores, and what was frozen of it.
use Rattle.std.specs.Prelude.{ℕ, Bool, true, false, if◌then◌else◌, List, bytes_eq}
use Rattle.std.specs.List.{sum_by}
use Rattle.ix_items.specs.declared.items.Bucket.{Bucket}
use Rattle.ix_items.specs.declared.items.Entry.{Entry}
use Rattle.ix_items.specs.declared.items.State.{State}
use Rattle.ix_items.specs.declared.items.State.TheVariants.{Hot, Quarantine, Warm, Cold, Thawed}

-- what was thawed is not stored again: it is in the ledger
abbrev pub counts : State → Bool
counts Hot = true
counts Quarantine = true
counts Warm = true
counts Cold = true
counts Thawed = false

abbrev pub stored_count : Bucket → ℕ
stored_count b = if counts b.state then b.count else 0

abbrev pub stored_size : Bucket → ℕ
stored_size b = if counts b.state then b.bytes else 0

abbrev pub stored_events : List Bucket → ℕ
stored_events buckets = sum_by stored_count buckets

abbrev pub stored_bytes : List Bucket → ℕ
stored_bytes buckets = sum_by stored_size buckets

-- the events that an entry says were frozen of this index
abbrev pub frozen_count : List ℕ → Entry → ℕ
frozen_count index e = if bytes_eq e.index index then e.count else 0

abbrev pub frozen_events : List ℕ → List Entry → ℕ
frozen_events index ledger = sum_by (frozen_count index) ledger
