-- Items that are brief can be written.
use Rattle.std.proofs.Common.{◌≤◌, ◌<◌, ◌^◌, ℕ, ◌+◌, List, [], ◌∷◌, ◌++◌, length, arith, length-append}
use Rattle.std.specs.Prelude.{Option, Some, None, true}
use Rattle.std.specs.List.{AllByRecursion, flat_map}
use Rattle.ix_base.specs.declared.events.ChannelMeta.{ChannelMeta}
use Rattle.ix_base.specs.declared.events.Spot.{Spot}
use Rattle.ix_coding.specs.Spelling.{IsShort, IsShortOption, byte, four, eight, signed, flag, string, option}
use Rattle.ix_items.specs.Spelling.{rule_byte, archive_number, IsKept, IsMeta, IsWritable, kept_bytes, settings_bytes, meta_bytes}
use Rattle.ix_items.specs.Spelling.{bucket_bytes, entry_bytes, spot_bytes, field_bytes, item_bytes, body_bytes}
use Rattle.ix_items.specs.declared.items.Bucket.{Bucket}
use Rattle.ix_items.specs.declared.items.Entry.{Entry}
use Rattle.ix_items.specs.declared.items.Item.{Item}
use Rattle.ix_items.specs.declared.items.Item.TheVariants as items
use Rattle.ix_items.specs.declared.items.Kept.{Kept}

abbrev pub IsBrief : Item → Type 0
IsBrief item = length (item_bytes item) < 2 ^ 29

-- each of the items of a brief body
pub all_brief : (list : List Item) → length (body_bytes list) < 2 ^ 29 → AllByRecursion IsBrief list
all_brief [] h = tt
all_brief (x ∷ xs) h =
    let a = length-append (item_bytes x) (body_bytes xs) in
    ((let p : IsBrief x = omega (arith, a, h) in p), all_brief xs (omega (arith, a, h)))

length_string : (text : List ℕ) → length text + 4 ≤ length (string text)
unfolding string four
length_string text = omega arith

front_long : (a b : List ℕ) → length a ≤ length (a ++ b)
front_long a b = let e = length-append a b in omega (arith, e)

first_long : (a b c d e f g h i : List ℕ) → length a ≤ length (a ++ b ++ c ++ d ++ e ++ f ++ g ++ h ++ i)
first_long a b c d e f g h i = simp length-append (omega arith)

-- an item is longer than what it holds
field_long : (item : Item) → length (field_bytes item) ≤ length (item_bytes item)
unfolding item_bytes byte
field_long item = omega arith

-- ---- settings

abbrev pub HasFile : Kept → Type 0
HasFile kept = (1 ≤ kept.file) × (kept.file ≤ 4)

kept_long : (k : Kept) → ((length k.stanza + length k.key) + length k.value) + 12 ≤ length (kept_bytes k)
kept_long k =
    let a = length-append ((byte k.file ++ string k.stanza) ++ string k.key) (string k.value) in
    let b = length-append (byte k.file ++ string k.stanza) (string k.key) in
    let c = length-append (byte k.file) (string k.stanza) in
    let d = length_string k.stanza in
    let e = length_string k.key in
    let f = length_string k.value in
    omega (arith, a, b, c, d, e, f)

all_kept : (kept : List Kept) → length (flat_map kept_bytes kept) < 2 ^ 29 → AllByRecursion HasFile kept → AllByRecursion IsKept kept
all_kept [] l h = tt
all_kept (k ∷ kept) l h =
    let a = length-append (kept_bytes k) (flat_map kept_bytes kept) in
    let b = kept_long k in (
      record {
        from = h.0.0;
        to = h.0.1;
        stanza = omega (arith, a, b, l);
        key = omega (arith, a, b, l);
        value = omega (arith, a, b, l);
      },
      all_kept kept (omega (arith, a, l)) h.1,
    )

as_many : (kept : List Kept) → length kept ≤ length (flat_map kept_bytes kept)
as_many [] = omega arith
as_many (k ∷ kept) =
    let a = length-append (kept_bytes k) (flat_map kept_bytes kept) in
    let b = kept_long k in
    let c = as_many kept in
    omega (arith, a, b, c)

settings_long : (kept : List Kept) → length (flat_map kept_bytes kept) ≤ length (item_bytes (items.Settings kept))
unfolding field_bytes settings_bytes
settings_long kept =
    let a = length-append (four (length kept)) (flat_map kept_bytes kept) in
    let b = field_long (items.Settings kept) in
    omega (arith, a, b)

pub settings_written : (kept : List Kept) → IsBrief (items.Settings kept) → AllByRecursion HasFile kept → IsWritable (items.Settings kept)
settings_written kept h files =
    let a = settings_long kept in
    let b = as_many kept in
    (omega (arith, a, b, h), all_kept kept (omega (arith, a, h)) files)

-- ---- texts

pub bucket_written : (index : List ℕ) (b : Bucket) → IsBrief (items.Bucket index b) → IsShort index
unfolding field_bytes
bucket_written index b h =
    let a = field_long (items.Bucket index b) in
    let c = front_long (string index) (bucket_bytes b) in
    let d = length_string index in
    omega (arith, a, c, d, h)

pub number_written : (index : List ℕ) (id : ℕ) → IsBrief (items.NextId index id) → IsShort index
unfolding field_bytes
number_written index id h =
    let a = field_long (items.NextId index id) in
    let c = front_long (string index) (eight id) in
    let d = length_string index in
    omega (arith, a, c, d, h)

pub entry_written : (e : Entry) → IsBrief (items.Ledger e) → IsShort e.index
unfolding field_bytes entry_bytes
entry_written e h =
    let a = field_long (items.Ledger e) in
    let c = first_long (string e.index) (eight e.id) (byte (rule_byte e.rule)) (signed e.moment) (eight e.count) (signed e.newest)
    (signed e.oldest) (eight e.bytes) (eight (archive_number e.archive)) in
    let d = length_string e.index in
    omega (arith, a, c, d, h)

pub spot_written : (s : Spot) → IsBrief (items.Spot s) → IsShort s.path × IsShort s.head
unfolding field_bytes spot_bytes
spot_written s h =
    let a = field_long (items.Spot s) in
    let b = length_string s.path in
    let c = length_string s.head in
    let d = length-append (string s.path ++ string s.head) (eight s.offset) in
    let e = length-append (string s.path) (string s.head) in
    (omega (arith, a, b, c, d, e, h), omega (arith, a, b, c, d, e, h))

-- ---- channels

-- the bytes of a text that may be stated
abbrev size_of : Option (List ℕ) → ℕ
size_of None = 0
size_of (Some text) = length text

option_size : (o : Option (List ℕ)) → size_of o ≤ length (option string o)
unfolding option
option_size None = omega arith
option_size (Some text) = omega (arith, length-append (flag true) (string text), length_string text)

abbrev sizes : ChannelMeta → ℕ
sizes meta = length meta.host + length meta.source + size_of meta.sourcetype + size_of meta.index

meta_size : (meta : ChannelMeta) → sizes meta ≤ length (meta_bytes meta)
unfolding meta_bytes
meta_size meta =
    omega (
      arith,
      length-append (string meta.host ++ string meta.source ++ option string meta.sourcetype) (option string meta.index),
      length-append (string meta.host ++ string meta.source) (option string meta.sourcetype),
      length-append (string meta.host) (string meta.source),
      length_string meta.host,
      length_string meta.source,
      option_size meta.sourcetype,
      option_size meta.index,
    )

short_option : (o : Option (List ℕ)) → size_of o < 2 ^ 32 → IsShortOption o
short_option None h = tt
short_option (Some text) h = h

channel_size : (name : List ℕ) (meta : ChannelMeta) → length name + sizes meta ≤ length (item_bytes (items.Channel name meta []))
unfolding field_bytes
channel_size name meta =
    omega (
      arith,
      field_long (items.Channel name meta []),
      length-append (string name ++ meta_bytes meta) (string []),
      length-append (string name) (meta_bytes meta),
      length_string name,
      meta_size meta,
    )

pub channel_written : (name : List ℕ) (meta : ChannelMeta) → IsBrief (items.Channel name meta []) → IsShort name × IsMeta meta
channel_written name meta h =
    let a = channel_size name meta in (
      omega (arith, a, h),
      record {
        host = omega (arith, a, h);
        source = omega (arith, a, h);
        sourcetype = short_option meta.sourcetype (omega (arith, a, h));
        index = short_option meta.index (omega (arith, a, h));
      },
    )
