-- The tests of what is measured decide whether the parts are within their bounds.
use Rattle.std.proofs.Common.{◌≡◌, ◌≤◌, ◌<◌, ◌+◌, ◌^◌, ℕ, Bool, List, [], ◌∷◌, length, refl, sym, ap, ◌∙◌, arith}
use Rattle.std.specs.Prelude.{nat_le, nat_lt, ◌&&◌}
use Rattle.std.specs.Bool.{Decides}
use Rattle.std.specs.List.{AllByRecursion, list_all, sum_by}
use Rattle.std.proofs.lemmas.Bool.Decides.{nat_tests, Decides-at, Decides-like, Decides-and, Decides-ltb}
use Rattle.ix_base.specs.declared.events.Spot.{Spot}
use Rattle.ix_items.specs.declared.items.Bucket.{Bucket}
use Rattle.ix_items.specs.declared.items.Entry.{Entry}
use Rattle.ix_items.specs.declared.items.Kept.{Kept}
use Rattle.ix_model.specs.Judged.{most_channels}
use Rattle.ix_catalog.specs.Measures.{capped, all_bytes, all_events, shelf_size}
use Rattle.ix_catalog.specs.declared.index_table.IndexTable.{IndexTable}
use Rattle.ix_bounds.specs.Parts.{Parts}
use Rattle.ix_bounds.specs.Tests.{is_time, has_times, entry_has_times, all_have_times, are_numbers, are_few, are_within}
use Rattle.ix_bounds.specs.Totals.{has_offset, AreMeasured}
use Rattle.ix_bounds.specs.Within.{HasTimes, EntryHasTimes, AllHaveTimes, channel_size, spot_size, settings_size, HasOffset, size}
use Rattle.ix_bounds.specs.Within.{AreWithin}
use Rattle.ix_bounds.specs.declared.totals.Channels.{Channels}
use Rattle.ix_bounds.specs.declared.totals.Spots.{Spots}

le_decides : (a b : ℕ) → Decides (nat_le a b) (a ≤ b)
le_decides a b = (λ e. grind (arith, nat_tests), λ h. grind (arith, nat_tests))

all_decide : {X : Type 0} (p : X → Bool) (P : X → Type 0) → ((x : X) → Decides (p x) (P x)) → (xs : List X) →
    Decides (list_all p xs) (AllByRecursion P xs)
all_decide p P k [] = (λ e. tt, λ h. refl)
all_decide p P k (x ∷ xs) = Decides-and (p x) (list_all p xs) (k x) (all_decide p P k xs)

times_decide : (b : Bucket) → Decides (has_times b) (HasTimes b)
times_decide b = Decides-and (is_time b.newest) (is_time b.oldest) (le_decides _ _) (le_decides _ _)

entry_decides : (e : Entry) → Decides (entry_has_times e) (EntryHasTimes e)
entry_decides e = Decides-and (is_time e.newest) (is_time e.oldest) (le_decides _ _) (le_decides _ _)

-- ---- numbers

pub record AreNumbers (ledger : List Entry) (s : IndexTable) : Type 0 where
  pub settled : s.settled < 2 ^ 63
  pub next_file : s.next_file < 2 ^ 63
  pub bytes : all_bytes ledger s < 2 ^ 63
  pub events : all_events ledger s < 2 ^ 63

numbers_decide : (ledger : List Entry) (s : IndexTable) → Decides (are_numbers ledger s) (AreNumbers ledger s)
numbers_decide ledger s =
    let a = Decides-ltb s.settled (2 ^ 63) in
    let b = Decides-ltb s.next_file (2 ^ 63) in
    let c = Decides-ltb (all_bytes ledger s) (2 ^ 63) in
    let d = Decides-ltb (all_events ledger s) (2 ^ 63) in
    let ab = Decides-and (nat_lt s.settled (2 ^ 63)) (nat_lt s.next_file (2 ^ 63)) a b in
    let abc = Decides-and (nat_lt s.settled (2 ^ 63) && nat_lt s.next_file (2 ^ 63)) (nat_lt (all_bytes ledger s) (2 ^ 63)) ab c in
    Decides-like (are_numbers ledger s)
    (λ h. record { settled = h.0.0.0; next_file = h.0.0.1; bytes = h.0.1; events = h.1 })
    (λ h. (((h.settled, h.next_file), h.bytes), h.events))
    (Decides-and (nat_lt s.settled (2 ^ 63) && nat_lt s.next_file (2 ^ 63) && nat_lt (all_bytes ledger s) (2 ^ 63))
    (nat_lt (all_events ledger s) (2 ^ 63)) abc d)

-- ---- all of it

offset_decides : (s : Spot) → Decides (has_offset s) (HasOffset s)
offset_decides s = Decides-ltb s.offset (2 ^ 63)

offsets_decide : (p : Parts) (spots : Spots) → spots.within ≡ list_all has_offset p.spots →
    Decides spots.within (AllByRecursion HasOffset p.spots)
offsets_decide p spots e = Decides-at spots.within (list_all has_offset p.spots) e (all_decide has_offset HasOffset offset_decides p.spots)

channels_decide : (n count : ℕ) → count ≡ capped n → Decides (nat_le count most_channels) (n ≤ most_channels)
channels_decide n count e =
    Decides-like (nat_le count most_channels) (λ h. omega (arith, e, h)) (λ h. omega (arith, e, h)) (le_decides count most_channels)

few_decide : (kept : List Kept) (channels spots channels_size spots_size : ℕ) (ledger : List Entry) (s : IndexTable) →
    channels_size ≡ capped channels → spots_size ≡ capped spots →
    Decides (are_few kept (capped (channels_size + spots_size)) ledger s)
    (settings_size kept + channels + spots + shelf_size ledger s < 2 ^ 29)
few_decide kept channels spots channels_size spots_size ledger s c d =
    Decides-like (are_few kept (capped (channels_size + spots_size)) ledger s) (λ h. omega (arith, c, d, h)) (λ h. omega (arith, c, d, h))
    (Decides-ltb (settings_size kept + capped (channels_size + spots_size) + shelf_size ledger s) (2 ^ 29))

abbrev AllWithin : Parts → Type 0
AllWithin p =
    ((((length p.channels ≤ most_channels × AllByRecursion HasOffset p.spots) × AreNumbers p.ledger p.shelves)
    × AllByRecursion AllHaveTimes p.shelves.indexes)
    × AllByRecursion EntryHasTimes p.ledger) × (size p < 2 ^ 29)

from_all : (p : Parts) → AllWithin p → AreWithin p
from_all p h = record {
  times = h.0.0.1;
  frozen_times = h.0.1;
  settled = h.0.0.0.1.settled;
  next_file = h.0.0.0.1.next_file;
  offsets = h.0.0.0.0.1;
  bytes = h.0.0.0.1.bytes;
  events = h.0.0.0.1.events;
  channels = h.0.0.0.0.0;
  items = h.1;
}

to_all : (p : Parts) → AreWithin p → AllWithin p
to_all p h = (
  (
    (((h.channels, h.offsets), record { settled = h.settled; next_file = h.next_file; bytes = h.bytes; events = h.events }), h.times),
    h.frozen_times,
  ),
  h.items,
)

measured : (p : Parts) (channels : Channels) (spots : Spots) → AreMeasured p p.kept channels spots p.shelves p.ledger →
    Decides (are_within p.kept channels spots p.ledger p.shelves) (AreWithin p)
measured p channels spots h =
    let a = nat_le channels.count most_channels in
    let b = spots.within in
    let c = are_numbers p.ledger p.shelves in
    let d = list_all all_have_times p.shelves.indexes in
    let e = list_all entry_has_times p.ledger in
    let f = are_few p.kept (capped (channels.size + spots.size)) p.ledger p.shelves in
    Decides-like (are_within p.kept channels spots p.ledger p.shelves) (from_all p) (to_all p)
    (Decides-and (a && b && c && d && e) f
    (Decides-and (a && b && c && d) e
    (Decides-and (a && b && c) d
    (Decides-and (a && b) c
    (Decides-and a b (channels_decide (length p.channels) channels.count h.channels_are.count) (offsets_decide p spots h.spots_are.within))
    (numbers_decide p.ledger p.shelves))
    (all_decide all_have_times AllHaveTimes (λ v. all_decide has_times HasTimes times_decide v.buckets) p.shelves.indexes))
    (all_decide entry_has_times EntryHasTimes entry_decides p.ledger))
    (few_decide p.kept (sum_by channel_size p.channels) (sum_by spot_size p.spots) channels.size spots.size p.ledger p.shelves
    h.channels_are.size h.spots_are.size))

pub decides : (p : Parts) (kept : List Kept) (channels : Channels) (spots : Spots) (shelves : IndexTable) (ledger : List Entry) →
    AreMeasured p kept channels spots shelves ledger → Decides (are_within kept channels spots ledger shelves) (AreWithin p)
decides p kept channels spots shelves ledger h =
    let same : are_within p.kept channels spots p.ledger p.shelves ≡ are_within kept channels spots ledger shelves =
    ap (λ (k : List Kept). are_within k channels spots p.ledger p.shelves) h.kept_are
    ∙ ap (λ (l : List Entry). are_within kept channels spots l p.shelves) h.ledger_is
    ∙ ap (λ (s : IndexTable). are_within kept channels spots ledger s) h.shelves_are in
    Decides-at (are_within kept channels spots ledger shelves) (are_within p.kept channels spots p.ledger p.shelves) (sym same)
    (measured p channels spots (record {
      kept_are = refl;
      channels_are = h.channels_are;
      spots_are = h.spots_are;
      shelves_are = refl;
      ledger_is = refl;
    }))
