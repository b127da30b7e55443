-- Which items can be written, as a test.
use Rattle.std.specs.Prelude.{◌^◌, ◌&&◌, ◌==◌, ℕ, ℤ, pos, negsuc, Bool, true, not, nat_lt, nat_le, List, length, Option, Some, None}
use Rattle.std.specs.List.{list_all}
use Rattle.ix_base.specs.declared.events.ChannelMeta.{ChannelMeta}
use Rattle.ix_base.specs.declared.files.File.{File}
use Rattle.ix_items.specs.Spelling.{archive_number}
use Rattle.ix_items.specs.declared.items.Bucket.{Bucket}
use Rattle.ix_items.specs.declared.items.Entry.{Entry}
use Rattle.ix_items.specs.declared.items.Item.{Item}
use Rattle.ix_items.specs.declared.items.Item.TheVariants as items
use Rattle.ix_items.specs.declared.items.Kept.{Kept}

-- ---- strings and lists

abbrev pub is_short : {A : Type 0} → List A → Bool
is_short list = nat_lt (length list) (2 ^ 32)

abbrev pub is_short_option : Option (List ℕ) → Bool
is_short_option None = true
is_short_option (Some text) = is_short text

abbrev pub is_kept : Kept → Bool
is_kept k = nat_le 1 k.file && (nat_le k.file 4 && (is_short k.stanza && (is_short k.key && is_short k.value)))

abbrev pub is_meta : ChannelMeta → Bool
is_meta m = is_short m.host && (is_short m.source && (is_short_option m.sourcetype && is_short_option m.index))

-- no archive has the number 0
abbrev pub is_archive : Option ℕ → Bool
is_archive None = true
is_archive (Some number) = not (number == 0)

abbrev pub is_writable : Item → Bool
is_writable (items.Settings kept) = is_short kept && list_all is_kept kept
is_writable (items.Run run) = true
is_writable (items.Moments last tick) = true
is_writable (items.Channel name meta carry) = is_short name && (is_meta meta && is_short carry)
is_writable (items.Ended name) = is_short name
is_writable (items.Bucket index bucket) = is_short index
is_writable (items.Gone index id) = is_short index
is_writable (items.Ledger entry) = is_short entry.index && is_archive entry.archive
is_writable (items.Counts settled nulled dropped placed) = true
is_writable (items.Spot spot) = is_short spot.path && is_short spot.head
is_writable (items.NextFile number) = true
is_writable (items.Removals files) = is_short files
is_writable (items.NextId index id) = is_short index

-- ---- numbers

abbrev pub is_64 : ℕ → Bool
is_64 n = nat_lt n (2 ^ 64)

abbrev pub is_signed : ℤ → Bool
is_signed (pos n) = nat_lt n (2 ^ 63)
is_signed (negsuc n) = nat_lt n (2 ^ 63)

abbrev pub is_bucket : Bucket → Bool
is_bucket b =
    is_64 b.id && (is_64 b.file.number && (is_64 b.bytes && (is_64 b.count
    && (is_signed b.newest && (is_signed b.oldest && (is_64 b.used && is_signed b.touched))))))

abbrev pub is_entry : Entry → Bool
is_entry e =
    is_64 e.id && (is_signed e.moment && (is_64 e.count
    && (is_signed e.newest && (is_signed e.oldest && (is_64 e.bytes && is_64 (archive_number e.archive))))))

abbrev pub is_numbered : File → Bool
is_numbered file = is_64 file.number

abbrev pub is_in_range : Item → Bool
is_in_range (items.Settings kept) = true
is_in_range (items.Run run) = is_64 run
is_in_range (items.Moments last tick) = is_signed last && is_signed tick
is_in_range (items.Channel name meta carry) = true
is_in_range (items.Ended name) = true
is_in_range (items.Bucket index bucket) = is_bucket bucket
is_in_range (items.Gone index id) = is_64 id
is_in_range (items.Ledger entry) = is_entry entry
is_in_range (items.Counts settled nulled dropped placed) = is_64 settled && (is_64 nulled && (is_64 dropped && is_64 placed))
is_in_range (items.Spot spot) = is_64 spot.offset
is_in_range (items.NextFile number) = is_64 number
is_in_range (items.Removals files) = list_all is_numbered files
is_in_range (items.NextId index id) = is_64 id

-- an item has a spelling
abbrev pub can_write : Item → Bool
can_write item = is_writable item && is_in_range item
