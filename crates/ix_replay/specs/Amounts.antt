-- What an item counts for.
use Rattle.std.specs.Prelude.{◌-◌, ◌^◌, ◌==◌, if◌then◌else◌, ℕ, [], length, Option, Some, None}
use Rattle.ix_base.specs.declared.files.Area.TheVariants.{Frozen}
use Rattle.ix_base.specs.declared.files.File.{File}
use Rattle.ix_items.specs.declared.items.Item.{Item}
use Rattle.ix_items.specs.declared.items.Item.TheVariants as items
use Rattle.ix_items.specs.Spelling.{item_bytes}
use Rattle.ix_manifest.specs.Book.{NamedItems, named}
use Rattle.ix_replay.specs.declared.amounts.Amount.{Amount}
use Rattle.ix_replay.specs.declared.amounts.Amount.TheVariants as amounts

-- ---- files

abbrev pub number_of : File → ℕ
number_of file = file.number

abbrev pub archive_file : Option ℕ → Option File
archive_file None = None
archive_file (Some number) = Some (record { area = Frozen; number = number })

-- the file of a bucket, or of the archive of a frozen one
abbrev pub file_in : Item → Option File
file_in (items.Settings kept) = None
file_in (items.Run run) = None
file_in (items.Moments last tick) = None
file_in (items.Channel name meta carry) = None
file_in (items.Ended name) = None
file_in (items.Bucket index bucket) = Some bucket.file
file_in (items.Gone index id) = None
file_in (items.Ledger entry) = archive_file entry.archive
file_in (items.Counts settled nulled dropped placed) = None
file_in (items.Spot spot) = None
file_in (items.NextFile number) = None
file_in (items.Removals files) = None
file_in (items.NextId index id) = None

abbrev pub is_numbered : ℕ → Option File → ℕ
is_numbered n None = 0
is_numbered n (Some file) = if file.number == n then 1 else 0

-- how often a number is that of the item's file
abbrev pub uses : ℕ → Item → ℕ
uses n item = is_numbered n (file_in item)

-- the number of the next file, by the item that stands for it: 1 where there is none
abbrev pub next_of : Option Item → ℕ
next_of None = 1
next_of (Some (items.Settings kept)) = 1
next_of (Some (items.Run run)) = 1
next_of (Some (items.Moments last tick)) = 1
next_of (Some (items.Channel name meta carry)) = 1
next_of (Some (items.Ended name)) = 1
next_of (Some (items.Bucket index bucket)) = 1
next_of (Some (items.Gone index id)) = 1
next_of (Some (items.Ledger entry)) = 1
next_of (Some (items.Counts settled nulled dropped placed)) = 1
next_of (Some (items.Spot spot)) = 1
next_of (Some (items.NextFile number)) = number
next_of (Some (items.Removals files)) = 1
next_of (Some (items.NextId index id)) = 1

abbrev pub next_in : NamedItems → ℕ
next_in book = next_of (book (named 11 [] 0))

-- ---- sums

-- the bytes of a bucket's records, also of a frozen one
abbrev pub bytes_in : Item → ℕ
bytes_in (items.Settings kept) = 0
bytes_in (items.Run run) = 0
bytes_in (items.Moments last tick) = 0
bytes_in (items.Channel name meta carry) = 0
bytes_in (items.Ended name) = 0
bytes_in (items.Bucket index bucket) = bucket.bytes
bytes_in (items.Gone index id) = 0
bytes_in (items.Ledger entry) = entry.bytes
bytes_in (items.Counts settled nulled dropped placed) = 0
bytes_in (items.Spot spot) = 0
bytes_in (items.NextFile number) = 0
bytes_in (items.Removals files) = 0
bytes_in (items.NextId index id) = 0

-- the events of a bucket, also of a frozen one
abbrev pub events_in : Item → ℕ
events_in (items.Settings kept) = 0
events_in (items.Run run) = 0
events_in (items.Moments last tick) = 0
events_in (items.Channel name meta carry) = 0
events_in (items.Ended name) = 0
events_in (items.Bucket index bucket) = bucket.count
events_in (items.Gone index id) = 0
events_in (items.Ledger entry) = entry.count
events_in (items.Counts settled nulled dropped placed) = 0
events_in (items.Spot spot) = 0
events_in (items.NextFile number) = 0
events_in (items.Removals files) = 0
events_in (items.NextId index id) = 0

-- an open channel counts once
abbrev pub channels_in : Item → ℕ
channels_in (items.Settings kept) = 0
channels_in (items.Run run) = 0
channels_in (items.Moments last tick) = 0
channels_in (items.Channel name meta carry) = 1
channels_in (items.Ended name) = 0
channels_in (items.Bucket index bucket) = 0
channels_in (items.Gone index id) = 0
channels_in (items.Ledger entry) = 0
channels_in (items.Counts settled nulled dropped placed) = 0
channels_in (items.Spot spot) = 0
channels_in (items.NextFile number) = 0
channels_in (items.Removals files) = 0
channels_in (items.NextId index id) = 0

-- How many bytes an item has that a whole state is written with: a channel without what is carried
-- of its stream, the next bucket of an index where it has had one.
abbrev pub size_in : Item → ℕ
size_in (items.Settings kept) = length (item_bytes (items.Settings kept))
size_in (items.Run run) = 0
size_in (items.Moments last tick) = 0
size_in (items.Channel name meta carry) = length (item_bytes (items.Channel name meta []))
size_in (items.Ended name) = 0
size_in (items.Bucket index bucket) = length (item_bytes (items.Bucket index bucket))
size_in (items.Gone index id) = 0
size_in (items.Ledger entry) = length (item_bytes (items.Ledger entry))
size_in (items.Counts settled nulled dropped placed) = 0
size_in (items.Spot spot) = length (item_bytes (items.Spot spot))
size_in (items.NextFile number) = 0
size_in (items.Removals files) = 0
size_in (items.NextId index id) = if id == 0 then 0 else length (item_bytes (items.NextId index id))

abbrev pub amount_in : Amount → Item → ℕ
amount_in amounts.Bytes = bytes_in
amount_in amounts.Events = events_in
amount_in amounts.Channels = channels_in
amount_in amounts.Size = size_in

-- the most that all items of a state may come to
abbrev pub most : Amount → ℕ
most amounts.Bytes = 2 ^ 63 - 1
most amounts.Events = 2 ^ 63 - 1
most amounts.Channels = 256
most amounts.Size = 2 ^ 29 - 1
