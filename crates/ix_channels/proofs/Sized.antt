-- Names and metadata of open channels have a spelling where the bounds are kept.
use Rattle.std.proofs.Common.{◌≡◌, ℕ, ◌+◌, ◌<◌, ◌≤◌, ◌^◌, List, [], ◌∷◌, ◌++◌, map, length, ap, arith, length-append}
use Rattle.std.specs.Prelude.{true, Option, Some, None, bytes_eq}
use Rattle.std.specs.List.{AllByRecursion, flat_map}
use Rattle.std.proofs.lemmas.List.Concat.{flat_map-append}
use Rattle.ix_base.specs.declared.events.ChannelMeta.{ChannelMeta}
use Rattle.ix_coding.specs.Spelling.{byte, string, option, flag, IsShort, IsShortOption}
use Rattle.ix_items.specs.Spelling.{meta_bytes, kind_byte, field_bytes, item_bytes, body_bytes, IsMeta}
use Rattle.ix_items.specs.declared.items.Item.{Item}
use Rattle.ix_items.specs.declared.items.Item.TheVariants as items
use Rattle.ix_model.specs.Bounds.{bucket_items, entry_items, next_item, channel_item, sized_items, KeepsBounds}
use Rattle.ix_model.specs.State.{State, ChannelHistory, life_name}
use Rattle.ix_model.proofs.Named.{by_test}
use Rattle.ix_catalog.specs.Lists.{find}
use Rattle.ix_channels.proofs.Carries.{length_string}

none_some : {X : Type 0} {x : X} → None ≡ Some x → ⊥
none_some e = cc

some_same : {X : Type 0} {x y : X} → Some x ≡ Some y → x ≡ y
some_same e = cc

-- ---- one channel

-- the bytes of a text that may be stated
abbrev size_of : Option (List ℕ) → ℕ
size_of None = 0
size_of (Some text) = length text

option_size : (o : Option (List ℕ)) → size_of o ≤ length (option string o)
unfolding option
option_size None = omega arith
option_size (Some text) = omega (arith, length-append (flag true) (string text), length_string text)

abbrev sizes : ChannelMeta → ℕ
sizes meta = length meta.host + length meta.source + size_of meta.sourcetype + size_of meta.index

meta_size : (meta : ChannelMeta) → sizes meta ≤ length (meta_bytes meta)
unfolding meta_bytes
meta_size meta =
    omega (
      arith,
      length-append (string meta.host ++ string meta.source ++ option string meta.sourcetype) (option string meta.index),
      length-append (string meta.host ++ string meta.source) (option string meta.sourcetype),
      length-append (string meta.host) (string meta.source),
      length_string meta.host,
      length_string meta.source,
      option_size meta.sourcetype,
      option_size meta.index,
    )

channel_size : (life : ChannelHistory) → length life.name + sizes life.meta ≤ length (item_bytes (channel_item life))
unfolding item_bytes field_bytes
channel_size life =
    omega (
      arith,
      length-append (byte (kind_byte (channel_item life))) (string life.name ++ meta_bytes life.meta ++ string []),
      length-append (string life.name ++ meta_bytes life.meta) (string []),
      length-append (string life.name) (meta_bytes life.meta),
      length_string life.name,
      meta_size life.meta,
    )

-- ---- among all

among_size : (name : List ℕ) (life : ChannelHistory) (ls : List ChannelHistory) → find life_name name ls ≡ Some life →
    length life.name + sizes life.meta ≤ length (body_bytes (map channel_item ls))
among_size name life [] e = absurd (none_some e)
among_size name life (l ∷ ls) e =
    by_test (bytes_eq l.name name)
    (λ t. first (some_same (rw t at e)))
    (λ t. (let rest = among_size name life ls (rw t at e) in
    omega (arith, length-append (item_bytes (channel_item l)) (body_bytes (map channel_item ls)), rest)))
  where
    first : l ≡ life → length life.name + sizes life.meta ≤ length (body_bytes (map channel_item (l ∷ ls)))
    first is =
        let here = channel_size l in
        let name_is : length l.name ≡ length life.name = ap (λ (x : ChannelHistory). length x.name) is in
        let sizes_are : sizes l.meta ≡ sizes life.meta = ap (λ (x : ChannelHistory). sizes x.meta) is in
        omega (arith, length-append (item_bytes (channel_item l)) (body_bytes (map channel_item ls)), here, name_is, sizes_are)

behind_size : (front back : List Item) → length (body_bytes back) ≤ length (body_bytes (front ++ back))
behind_size front back =
    let all = ap length (flat_map-append item_bytes front back) in
    omega (arith, all, length-append (body_bytes front) (body_bytes back))

short_option : (o : Option (List ℕ)) → size_of o < 2 ^ 32 → IsShortOption o
short_option None h = tt
short_option (Some text) h = h

pub sized_short : (m : State) (name : List ℕ) (life : ChannelHistory) → KeepsBounds m → find life_name name m.channels ≡ Some life →
    IsShort life.name × IsMeta life.meta
sized_short m name life bounds e =
    let within = among_size name life m.channels e in
    let front = items.Settings m.force ∷ flat_map bucket_items m.catalog.indexes ++ flat_map entry_items m.catalog.indexes
    ++ map items.Spot m.spots ++ map next_item m.catalog.indexes in
    let behind = behind_size front (map channel_item m.channels) in
    let all = bounds.items in (
      omega (arith, within, behind, all),
      record {
        host = omega (arith, within, behind, all);
        source = omega (arith, within, behind, all);
        sourcetype = short_option life.meta.sourcetype (omega (arith, within, behind, all));
        index = short_option life.meta.index (omega (arith, within, behind, all));
      },
    )

each_short : (n : ℕ) (ls : List ChannelHistory) → n < 2 ^ 32 → length (body_bytes (map channel_item ls)) ≤ n →
    AllByRecursion (λ (life : ChannelHistory). IsShort life.name) ls
each_short n [] b h = tt
each_short n (l ∷ ls) b h =
    let all = length-append (item_bytes (channel_item l)) (body_bytes (map channel_item ls)) in
    let here = channel_size l in
    (omega (arith, all, here, h, b), each_short n ls b (omega (arith, all, h)))

-- so have the names of all that are open
pub names_short : (m : State) → KeepsBounds m → AllByRecursion (λ (life : ChannelHistory). IsShort life.name) m.channels
names_short m bounds =
    let front = items.Settings m.force ∷ flat_map bucket_items m.catalog.indexes ++ flat_map entry_items m.catalog.indexes
    ++ map items.Spot m.spots ++ map next_item m.catalog.indexes in
    let behind = behind_size front (map channel_item m.channels) in
    let all = bounds.items in
    each_short (length (body_bytes (sized_items m))) m.channels (omega (arith, all)) behind
