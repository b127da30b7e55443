-- What stands under each name in the log of a store, by its state.
use Rattle.std.specs.Prelude.{◌==◌, ℕ, if◌then◌else◌, List, [], length, Option, Some, None, slice_get}
use Rattle.std.specs.Option.{option_map}
use Rattle.ix_manifest.specs.Book.{Name, NamedItems, name_of, is_same}
use Rattle.ix_parse.specs.Spelling.{spell}
use Rattle.ix_items.specs.declared.items.Bucket.{Bucket}
use Rattle.ix_items.specs.declared.items.Entry.{Entry}
use Rattle.ix_items.specs.declared.items.Item.{Item}
use Rattle.ix_items.specs.declared.items.Item.TheVariants as items
use Rattle.ix_parse.specs.Carry.{carry_of}
use Rattle.ix_model.specs.Buckets.{Slot, Index, listed, entered}
use Rattle.ix_model.specs.State.{State, ChannelHistory, index_name, life_in, slots_in, spot_path}
use Rattle.ix_catalog.specs.Lists.{find}

-- ---- items by their names

-- an item that stands under its own name alone
abbrev pub once : Item → Name → Option Item
once item name = if is_same (name_of item) name then Some item else None

-- one of the things of a kind, by its text; none of them has a number
abbrev pub by_text : Option Item → Name → Option Item
by_text found name = if name.number == 0 then found else None

-- an open channel, with what is carried of its stream
abbrev pub life_item : ChannelHistory → Item
life_item life = items.Channel life.name life.meta (spell (carry_of life.settings life.stream))

abbrev pub number_item : Index → Item
number_item i = items.NextId i.name (length i.slots)

abbrev pub listed_at : Option Slot → Option Bucket
listed_at None = None
listed_at (Some s) = listed s.standing

abbrev pub entered_at : Option Slot → Option Entry
entered_at None = None
entered_at (Some s) = entered s.standing

-- the bucket of this number that is seen of an index, and its entry in the ledger
abbrev pub bucket_in : State → List ℕ → ℕ → Option Bucket
bucket_in m index id = listed_at (slice_get (slots_in m.catalog.indexes index) id)

abbrev pub entry_in : State → List ℕ → ℕ → Option Entry
entry_in m index id = entered_at (slice_get (slots_in m.catalog.indexes index) id)

-- ---- the book

-- by the kind of the name
abbrev pub book_of : State → NamedItems
book_of m name =
    if name.kind == 1 then once (items.Settings m.force) name
    else if name.kind == 3 then once (items.Moments m.last m.tick) name
    else if name.kind == 4 then by_text (option_map life_item (life_in m name.text)) name
    else if name.kind == 6 then option_map (items.Bucket name.text) (bucket_in m name.text name.number)
    else if name.kind == 8 then option_map items.Ledger (entry_in m name.text name.number)
    else if name.kind == 9 then
    once (items.Counts m.catalog.counts.settled m.catalog.counts.nulled m.catalog.counts.dropped m.catalog.counts.placed) name
    else if name.kind == 10 then by_text (option_map items.Spot (find spot_path name.text m.spots)) name
    else if name.kind == 11 then once (items.NextFile m.catalog.next_file) name
    else if name.kind == 13 then by_text (option_map number_item (find index_name name.text m.catalog.indexes)) name
    else None

-- that of a store that has accepted nothing: no settings are set, and nothing else stands in it
abbrev pub first_book : NamedItems
first_book name = once (items.Settings []) name
