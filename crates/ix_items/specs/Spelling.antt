-- The bytes of an item. Each value has one spelling.
use Rattle.std.specs.Prelude.{◌≡◌, ◌≢◌, ℕ, ◌≤◌, List, ◌++◌, length, Option, Some, None}
use Rattle.std.specs.List.{flat_map, AllByRecursion}
use Rattle.ix_coding.specs.Spelling.{byte, four, eight, signed, string, option, IsShort, IsShortOption, Is64, IsSigned64}
use Rattle.ix_base.specs.declared.files.Area.{Area}
use Rattle.ix_base.specs.declared.files.Area.TheVariants.{Meta, Home, Cold, Frozen, Thawed}
use Rattle.ix_base.specs.declared.files.File.{File}
use Rattle.ix_base.specs.declared.events.ChannelMeta.{ChannelMeta}
use Rattle.ix_base.specs.declared.events.Spot.{Spot}
use Rattle.ix_items.specs.declared.items.State.{State}
use Rattle.ix_items.specs.declared.items.State.TheVariants as states
use Rattle.ix_items.specs.declared.items.Rule.{Rule}
use Rattle.ix_items.specs.declared.items.Rule.TheVariants as rules
use Rattle.ix_items.specs.declared.items.Bucket.{Bucket}
use Rattle.ix_items.specs.declared.items.Entry.{Entry}
use Rattle.ix_items.specs.declared.items.Kept.{Kept}
use Rattle.ix_items.specs.declared.items.Item.{Item}
use Rattle.ix_items.specs.declared.items.Item.TheVariants as items

-- ---- bytes that stand for a value

abbrev pub area_byte : Area → ℕ
area_byte Meta = 1
area_byte Home = 2
area_byte Cold = 3
area_byte Frozen = 4
area_byte Thawed = 5

abbrev pub state_byte : State → ℕ
state_byte states.Hot = 1
state_byte states.Quarantine = 2
state_byte states.Warm = 3
state_byte states.Cold = 4
state_byte states.Thawed = 5

abbrev pub rule_byte : Rule → ℕ
rule_byte rules.Age = 1
rule_byte rules.Cold = 2
rule_byte rules.Total = 3

-- no archive is written as the number 0
abbrev pub archive_number : Option ℕ → ℕ
archive_number None = 0
archive_number (Some number) = number

-- ---- what an item holds

abbrev pub file_bytes : File → List ℕ
file_bytes f = byte (area_byte f.area) ++ eight f.number

abbrev pub kept_bytes : Kept → List ℕ
kept_bytes k = byte k.file ++ string k.stanza ++ string k.key ++ string k.value

unfoldable pub files_bytes : List File → List ℕ
files_bytes files = four (length files) ++ flat_map file_bytes files

unfoldable pub settings_bytes : List Kept → List ℕ
settings_bytes kept = four (length kept) ++ flat_map kept_bytes kept

unfoldable pub meta_bytes : ChannelMeta → List ℕ
meta_bytes m = string m.host ++ string m.source ++ option string m.sourcetype ++ option string m.index

unfoldable pub bucket_bytes : Bucket → List ℕ
bucket_bytes b =
    eight b.id ++ byte (state_byte b.state) ++ file_bytes b.file ++ eight b.bytes ++ eight b.count
    ++ signed b.newest ++ signed b.oldest ++ eight b.used ++ signed b.touched

unfoldable pub entry_bytes : Entry → List ℕ
entry_bytes e =
    string e.index ++ eight e.id ++ byte (rule_byte e.rule) ++ signed e.moment ++ eight e.count
    ++ signed e.newest ++ signed e.oldest ++ eight e.bytes ++ eight (archive_number e.archive)

unfoldable pub spot_bytes : Spot → List ℕ
spot_bytes s = string s.path ++ string s.head ++ eight s.offset

-- the byte that an item begins with
abbrev pub kind_byte : Item → ℕ
kind_byte (items.Settings kept) = 1
kind_byte (items.Run run) = 2
kind_byte (items.Moments last tick) = 3
kind_byte (items.Channel name meta carry) = 4
kind_byte (items.Ended name) = 5
kind_byte (items.Bucket index bucket) = 6
kind_byte (items.Gone index id) = 7
kind_byte (items.Ledger entry) = 8
kind_byte (items.Counts settled nulled dropped placed) = 9
kind_byte (items.Spot spot) = 10
kind_byte (items.NextFile number) = 11
kind_byte (items.Removals files) = 12
kind_byte (items.NextId index id) = 13

-- what stands behind it
unfoldable pub field_bytes : Item → List ℕ
field_bytes (items.Settings kept) = settings_bytes kept
field_bytes (items.Run run) = eight run
field_bytes (items.Moments last tick) = signed last ++ signed tick
field_bytes (items.Channel name meta carry) = string name ++ meta_bytes meta ++ string carry
field_bytes (items.Ended name) = string name
field_bytes (items.Bucket index bucket) = string index ++ bucket_bytes bucket
field_bytes (items.Gone index id) = string index ++ eight id
field_bytes (items.Ledger entry) = entry_bytes entry
field_bytes (items.Counts settled nulled dropped placed) = eight settled ++ eight nulled ++ eight dropped ++ eight placed
field_bytes (items.Spot spot) = spot_bytes spot
field_bytes (items.NextFile number) = eight number
field_bytes (items.Removals files) = files_bytes files
field_bytes (items.NextId index id) = string index ++ eight id

unfoldable pub item_bytes : Item → List ℕ
item_bytes item = byte (kind_byte item) ++ field_bytes item

-- one behind the other
abbrev pub body_bytes : List Item → List ℕ
body_bytes list = flat_map item_bytes list

-- ---- what has a spelling

pub record IsKept (kept : Kept) : Type 0 where
  pub from : 1 ≤ kept.file
  pub to : kept.file ≤ 4
  pub stanza : IsShort kept.stanza
  pub key : IsShort kept.key
  pub value : IsShort kept.value

pub record IsMeta (meta : ChannelMeta) : Type 0 where
  pub host : IsShort meta.host
  pub source : IsShort meta.source
  pub sourcetype : IsShortOption meta.sourcetype
  pub index : IsShortOption meta.index

-- Each string and list is short, the file of each setting is 1 to 4, and no archive has the number
-- 0.
abbrev pub IsWritable : Item → Type 0
IsWritable (items.Settings kept) = IsShort kept × AllByRecursion IsKept kept
IsWritable (items.Run run) = Unit {0}
IsWritable (items.Moments last tick) = Unit {0}
IsWritable (items.Channel name meta carry) = IsShort name × IsMeta meta × IsShort carry
IsWritable (items.Ended name) = IsShort name
IsWritable (items.Bucket index bucket) = IsShort index
IsWritable (items.Gone index id) = IsShort index
IsWritable (items.Ledger entry) = IsShort entry.index × (entry.archive ≢ Some 0)
IsWritable (items.Counts settled nulled dropped placed) = Unit {0}
IsWritable (items.Spot spot) = IsShort spot.path × IsShort spot.head
IsWritable (items.NextFile number) = Unit {0}
IsWritable (items.Removals files) = IsShort files
IsWritable (items.NextId index id) = IsShort index

-- ---- the numbers are of their types

pub record BucketInRange (b : Bucket) : Type 0 where
  pub id : Is64 b.id
  pub number : Is64 b.file.number
  pub bytes : Is64 b.bytes
  pub count : Is64 b.count
  pub newest : IsSigned64 b.newest
  pub oldest : IsSigned64 b.oldest
  pub used : Is64 b.used
  pub touched : IsSigned64 b.touched

pub record EntryInRange (e : Entry) : Type 0 where
  pub id : Is64 e.id
  pub moment : IsSigned64 e.moment
  pub count : Is64 e.count
  pub newest : IsSigned64 e.newest
  pub oldest : IsSigned64 e.oldest
  pub bytes : Is64 e.bytes
  pub archive : Is64 (archive_number e.archive)

-- Each number is of its type: what a value of the program has by itself.
abbrev pub IsInRange : Item → Type 0
IsInRange (items.Settings kept) = Unit {0}
IsInRange (items.Run run) = Is64 run
IsInRange (items.Moments last tick) = IsSigned64 last × IsSigned64 tick
IsInRange (items.Channel name meta carry) = Unit {0}
IsInRange (items.Ended name) = Unit {0}
IsInRange (items.Bucket index bucket) = BucketInRange bucket
IsInRange (items.Gone index id) = Is64 id
IsInRange (items.Ledger entry) = EntryInRange entry
IsInRange (items.Counts settled nulled dropped placed) = Is64 settled × Is64 nulled × Is64 dropped × Is64 placed
IsInRange (items.Spot spot) = Is64 spot.offset
IsInRange (items.NextFile number) = Is64 number
IsInRange (items.Removals files) = AllByRecursion (λ f. Is64 f.number) files
IsInRange (items.NextId index id) = Is64 id

-- a value that has a spelling
pub record HasSpelling (item : Item) : Type 0 where
  pub writable : IsWritable item
  pub in_range : IsInRange item

-- ---- laws

-- No item begins another: bytes have at most one item at their front.
abbrev pub HaveOneItem : Type 0
HaveOneItem = (a b : Item) (x y : List ℕ) → HasSpelling a → HasSpelling b → item_bytes a ++ x ≡ item_bytes b ++ y → (a ≡ b) × (x ≡ y)

-- Bytes are at most one list of items.
abbrev pub HaveOneList : Type 0
HaveOneList = (xs ys : List Item) → AllByRecursion HasSpelling xs → AllByRecursion HasSpelling ys → body_bytes xs ≡ body_bytes ys → xs ≡ ys
