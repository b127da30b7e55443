-- The listing of what a store holds.
use Rattle.std.specs.Prelude.{ℕ, List, ◌++◌, codes, decimal}
use Rattle.std.specs.List.{flat_map}
use Rattle.ix_items.specs.declared.items.Bucket.{Bucket}
use Rattle.ix_items.specs.declared.items.Entry.{Entry}
use Rattle.ix_life.specs.declared.views.IndexView.{IndexView}
use Rattle.ix_life.specs.declared.views.View.{View}
use Rattle.ix_report.specs.Names.{bucket_name, closed_name, seconds_text, state_text, rule_text, fate_text}
use Rattle.ix_report.specs.Sums.{stored_events, stored_bytes, frozen_events}

abbrev pub index_row : List ℕ → ℕ → ℕ → ℕ → List ℕ
index_row name stored size frozen =
    codes "index " ++ name ++ codes " stored " ++ decimal stored ++ codes " bytes " ++ decimal size
    ++ codes " frozen " ++ decimal frozen ++ codes "\n"

abbrev pub bucket_row : List ℕ → Bucket → List ℕ
bucket_row index b =
    codes "bucket " ++ index ++ codes " " ++ bucket_name b ++ codes " " ++ state_text b.state
    ++ codes " " ++ decimal b.count ++ codes " " ++ decimal b.bytes ++ codes "\n"

-- an index, and then its buckets
abbrev pub index_rows : List Entry → IndexView → List ℕ
index_rows ledger index =
    index_row index.name (stored_events index.buckets) (stored_bytes index.buckets) (frozen_events index.name ledger)
    ++ flat_map (bucket_row index.name) index.buckets

-- what was frozen, by which rule and when, how many events that were, and what became of them
abbrev pub frozen_name : Entry → List ℕ
frozen_name e = codes "frozen " ++ e.index ++ codes " " ++ closed_name e.newest e.oldest e.id

abbrev pub cause : Entry → List ℕ
cause e = codes " " ++ rule_text e.rule ++ codes " " ++ seconds_text e.moment

abbrev pub fate : Entry → List ℕ
fate e = codes " " ++ decimal e.count ++ codes " " ++ fate_text e.archive ++ codes "\n"

abbrev pub frozen_row : Entry → List ℕ
frozen_row e = frozen_name e ++ cause e ++ fate e

abbrev pub counts_row : View → List ℕ
counts_row view =
    codes "events settled " ++ decimal view.settled ++ codes " nulled " ++ decimal view.nulled
    ++ codes " dropped " ++ decimal view.dropped ++ codes "\n"

-- all indexes, the ledger, and the counts
abbrev pub listing : View → List ℕ
listing view = flat_map (index_rows view.ledger) view.indexes ++ flat_map frozen_row view.ledger ++ counts_row view
