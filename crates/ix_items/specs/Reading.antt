-- Reading from left to right: a value and the bytes after it, or nothing.
use Rattle.std.specs.Prelude.{◌≡◌, ℕ, ℤ, zero, suc, List, [], ◌∷◌, Option, Some, None, Result, Ok, Err, nat_le, ◌==◌, ◌&&◌, if◌then◌else◌}
use Rattle.ix_coding.specs.Reading.{◌>>=◌, byte_at, four_at, eight_at, signed_at, string_at, option_at}
use Rattle.ix_base.specs.declared.files.Area.{Area}
use Rattle.ix_base.specs.declared.files.Area.TheVariants.{Meta, Home, Cold, Frozen, Thawed}
use Rattle.ix_base.specs.declared.files.File.{File}
use Rattle.ix_base.specs.declared.events.ChannelMeta.{ChannelMeta}
use Rattle.ix_base.specs.declared.events.Spot.{Spot}
use Rattle.ix_items.specs.declared.items.State.{State}
use Rattle.ix_items.specs.declared.items.State.TheVariants as states
use Rattle.ix_items.specs.declared.items.Rule.{Rule}
use Rattle.ix_items.specs.declared.items.Rule.TheVariants as rules
use Rattle.ix_items.specs.declared.items.Bucket.{Bucket}
use Rattle.ix_items.specs.declared.items.Entry.{Entry}
use Rattle.ix_items.specs.declared.items.Kept.{Kept}
use Rattle.ix_items.specs.declared.items.Item.{Item}
use Rattle.ix_items.specs.declared.items.Item.TheVariants as items
use Rattle.ix_items.specs.declared.items.ItemFault.{ItemFault}
use Rattle.ix_items.specs.declared.items.ItemFault.TheVariants as faults

-- What a function returned, seen by view, is what reading gives, unless memory ran out.
abbrev pub Fails : {Y : Type 0} → ItemFault → Option Y → Type 0
Fails faults.NoMemory read = Unit {0}
Fails faults.BadItem read = read ≡ None

abbrev pub Gives : {X Y : Type 0} → (X → Y) → Result X ItemFault → Option Y → Type 0
Gives view (Ok x) read = read ≡ Some (view x)
Gives view (Err e) read = Fails e read

-- ---- bytes that stand for a value

unfoldable pub state_of : ℕ → Option State
state_of n =
    if n == 1 then Some states.Hot
    else if n == 2 then Some states.Quarantine
    else if n == 3 then Some states.Warm
    else if n == 4 then Some states.Cold
    else if n == 5 then Some states.Thawed
    else None

unfoldable pub area_of : ℕ → Option Area
area_of n =
    if n == 1 then Some Meta
    else if n == 2 then Some Home
    else if n == 3 then Some Cold
    else if n == 4 then Some Frozen
    else if n == 5 then Some Thawed
    else None

unfoldable pub rule_of : ℕ → Option Rule
rule_of n =
    if n == 1 then Some rules.Age
    else if n == 2 then Some rules.Cold
    else if n == 3 then Some rules.Total
    else None

-- a byte that stands for a value
abbrev pub coded_at : {A : Type 0} → (ℕ → Option A) → List ℕ → Option (A × List ℕ)
coded_at code bytes = byte_at bytes >>= λ b. code b.0 >>= λ x. Some (x, b.1)

-- so many values, one behind the other
unfoldable pub list_at : {A : Type 0} → (List ℕ → Option (A × List ℕ)) → ℕ → List ℕ → Option (List A × List ℕ)
list_at one zero bytes = Some ([], bytes)
list_at one (suc n) bytes = do
  first ← one bytes
  others ← list_at one n first.1
  Some (first.0 ∷ others.0, others.1)

-- ---- what an item holds

unfoldable pub file_at : List ℕ → Option (File × List ℕ)
file_at bytes = do
  area ← coded_at area_of bytes
  number ← eight_at area.1
  Some (record { area = area.0; number = number.0 }, number.1)

unfoldable pub file_number_at : List ℕ → Option (ℕ × List ℕ)
file_number_at bytes = do
  b ← byte_at bytes
  if nat_le 1 b.0 && nat_le b.0 4 then Some b else None

unfoldable pub kept_at : List ℕ → Option (Kept × List ℕ)
kept_at bytes = do
  file ← file_number_at bytes
  stanza ← string_at file.1
  key ← string_at stanza.1
  value ← string_at key.1
  Some (record { file = file.0; stanza = stanza.0; key = key.0; value = value.0 }, value.1)

unfoldable pub settings_at : List ℕ → Option (List Kept × List ℕ)
settings_at bytes = do
  n ← four_at bytes
  list_at kept_at n.0 n.1

unfoldable pub files_at : List ℕ → Option (List File × List ℕ)
files_at bytes = do
  n ← four_at bytes
  list_at file_at n.0 n.1

unfoldable pub meta_at : List ℕ → Option (ChannelMeta × List ℕ)
meta_at bytes = do
  host ← string_at bytes
  source ← string_at host.1
  sourcetype ← option_at string_at source.1
  index ← option_at string_at sourcetype.1
  Some (record { host = host.0; source = source.0; sourcetype = sourcetype.0; index = index.0 }, index.1)

-- how many events, and the latest and the earliest time of one
unfoldable pub span_at : List ℕ → Option ((ℕ × ℤ × ℤ) × List ℕ)
span_at bytes = do
  count ← eight_at bytes
  newest ← signed_at count.1
  oldest ← signed_at newest.1
  Some ((count.0, newest.0, oldest.0), oldest.1)

-- a bucket's number, what it does, its file and how many bytes of it count
unfoldable pub place_at : List ℕ → Option ((ℕ × State × File × ℕ) × List ℕ)
place_at bytes = do
  id ← eight_at bytes
  state ← coded_at state_of id.1
  file ← file_at state.1
  size ← eight_at file.1
  Some ((id.0, state.0, file.0, size.0), size.1)

unfoldable pub bucket_at : List ℕ → Option (Bucket × List ℕ)
bucket_at bytes = do
  place ← place_at bytes
  span ← span_at place.1
  used ← eight_at span.1
  touched ← signed_at used.1
  Some (
    record {
      id = place.0.0;
      state = place.0.1;
      file = place.0.2;
      bytes = place.0.3;
      count = span.0.0;
      newest = span.0.1;
      oldest = span.0.2;
      used = used.0;
      touched = touched.0;
    },
    touched.1,
  )

unfoldable pub archive_of : ℕ → Option ℕ
archive_of n = if n == 0 then None else Some n

-- a bucket's number, why it was frozen, and when
unfoldable pub frozen_at : List ℕ → Option ((ℕ × Rule × ℤ) × List ℕ)
frozen_at bytes = do
  id ← eight_at bytes
  rule ← coded_at rule_of id.1
  moment ← signed_at rule.1
  Some ((id.0, rule.0, moment.0), moment.1)

unfoldable pub entry_at : List ℕ → Option (Entry × List ℕ)
entry_at bytes = do
  index ← string_at bytes
  frozen ← frozen_at index.1
  span ← span_at frozen.1
  size ← eight_at span.1
  archive ← eight_at size.1
  Some (
    record {
      index = index.0;
      id = frozen.0.0;
      rule = frozen.0.1;
      moment = frozen.0.2;
      count = span.0.0;
      newest = span.0.1;
      oldest = span.0.2;
      bytes = size.0;
      archive = archive_of archive.0;
    },
    archive.1,
  )

unfoldable pub spot_at : List ℕ → Option (Spot × List ℕ)
spot_at bytes = do
  path ← string_at bytes
  head ← string_at path.1
  offset ← eight_at head.1
  Some (record { path = path.0; head = head.0; offset = offset.0 }, offset.1)

unfoldable pub moments_at : List ℕ → Option (Item × List ℕ)
moments_at bytes = do
  last ← signed_at bytes
  tick ← signed_at last.1
  Some (items.Moments last.0 tick.0, tick.1)

unfoldable pub channel_at : List ℕ → Option (Item × List ℕ)
channel_at bytes = do
  name ← string_at bytes
  meta ← meta_at name.1
  carry ← string_at meta.1
  Some (items.Channel name.0 meta.0 carry.0, carry.1)

unfoldable pub counts_at : List ℕ → Option (Item × List ℕ)
counts_at bytes = do
  settled ← eight_at bytes
  nulled ← eight_at settled.1
  dropped ← eight_at nulled.1
  placed ← eight_at dropped.1
  Some (items.Counts settled.0 nulled.0 dropped.0 placed.0, placed.1)

-- the string and the number that some items are
unfoldable pub named_at : List ℕ → Option ((List ℕ × ℕ) × List ℕ)
named_at bytes = do
  index ← string_at bytes
  id ← eight_at index.1
  Some ((index.0, id.0), id.1)

unfoldable pub in_index_at : List ℕ → Option (Item × List ℕ)
in_index_at bytes = do
  index ← string_at bytes
  bucket ← bucket_at index.1
  Some (items.Bucket index.0 bucket.0, bucket.1)

-- the value made of another
abbrev pub made : {A B : Type 0} → (A → B) → Option (A × List ℕ) → Option (B × List ℕ)
made f read = read >>= λ x. Some (f x.0, x.1)

-- what stands behind a kind byte
unfoldable pub fields_at : ℕ → List ℕ → Option (Item × List ℕ)
fields_at kind bytes =
    if kind == 1 then made items.Settings (settings_at bytes)
    else if kind == 2 then made items.Run (eight_at bytes)
    else if kind == 3 then moments_at bytes
    else if kind == 4 then channel_at bytes
    else if kind == 5 then made items.Ended (string_at bytes)
    else if kind == 6 then in_index_at bytes
    else if kind == 7 then made (λ x. items.Gone x.0 x.1) (named_at bytes)
    else if kind == 8 then made items.Ledger (entry_at bytes)
    else if kind == 9 then counts_at bytes
    else if kind == 10 then made items.Spot (spot_at bytes)
    else if kind == 11 then made items.NextFile (eight_at bytes)
    else if kind == 12 then made items.Removals (files_at bytes)
    else if kind == 13 then made (λ x. items.NextId x.0 x.1) (named_at bytes)
    else None

unfoldable pub item_at : List ℕ → Option (Item × List ℕ)
item_at bytes = do
  kind ← byte_at bytes
  fields_at kind.0 kind.1
