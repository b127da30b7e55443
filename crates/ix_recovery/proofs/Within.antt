-- A state within the bounds of what a store can keep has a log that fits.
use Rattle.std.proofs.Common.{◌≡◌, ◌≢◌, ◌≤◌, ◌<◌, ◌^◌, ℕ, zero, suc, ◌+◌, Bool, true, false, List, [], ◌∷◌, map, length, refl, sym, ap}
use Rattle.std.proofs.Common.{◌∙◌, arith, subst}
use Rattle.std.specs.Prelude.{Option, Some, None, All, IfSome, if◌then◌else◌, option_to_list, unwrap_or, slice_get, nat_le}
use Rattle.std.specs.List.{AllByRecursion, flat_map, sum_by}
use Rattle.std.proofs.lemmas.Bool.Decides.{Decides-eqb, nat_tests}
use Rattle.std.proofs.lemmas.Int.{ints}
use Rattle.std.proofs.lemmas.List.Elements.{All-from_recursion}
use Rattle.ix_base.specs.declared.events.Event.{Event}
use Rattle.ix_base.specs.declared.files.Area.{Area}
use Rattle.ix_base.specs.declared.files.Area.TheVariants.{Meta}
use Rattle.ix_base.specs.declared.files.Area.TheVariants as areas
use Rattle.ix_base.specs.declared.files.File.{File}
use Rattle.ix_manifest.specs.Book.{NamedItems, removals_in}
use Rattle.ix_items.specs.declared.items.Bucket.{Bucket}
use Rattle.ix_items.specs.declared.items.Entry.{Entry}
use Rattle.ix_items.specs.declared.items.Item.{Item}
use Rattle.ix_items.specs.declared.items.Item.TheVariants as items
use Rattle.ix_model.specs.Bounds.{HasTime, AreTimes}
use Rattle.ix_model.specs.Bounds as machine
use Rattle.ix_model.specs.Buckets.{Standing, live, frozen, Slot, Index, listed, entered}
use Rattle.ix_model.specs.Files.{once_if, standing_uses, slot_uses, index_uses}
use Rattle.ix_model.specs.Files as files
use Rattle.ix_model.specs.Given.{Chooser}
use Rattle.ix_model.specs.State.{State, Catalog}
use Rattle.ix_model.specs.Step.{state_after}
use Rattle.ix_model.specs.Sums.{IsStandingOf, IsSound}
use Rattle.ix_model.specs.declared.commands.TimedCommand.{TimedCommand}
use Rattle.ix_model.proofs.Balanced.{balanced_after}
use Rattle.ix_model.proofs.Moments.{moments_after}
use Rattle.ix_model.proofs.Named.{by_test}
use Rattle.ix_model.proofs.Renewing.{apart_after}
use Rattle.ix_model.proofs.Stepping.{sound_after}
use Rattle.ix_replay.specs.Amounts.{file_in, is_numbered, uses, next_in, bytes_in, events_in, channels_in, size_in}
use Rattle.ix_replay.specs.Bounds.{IsMoment, IsNumber, IsFileNumber, IsBucket, IsEntry, IsWithin, IsSpared}
use Rattle.ix_model.specs.Contents.{is_meta_area}
use Rattle.ix_model.specs.Done.{IsDone}
use Rattle.ix_model.specs.Snap.{snapshot_of}
use Rattle.ix_model.specs.Books.{life_item, number_item}
use Rattle.ix_model.proofs.Areas.{IsApartFromLogs, SlotApart, IndexApart, apart_from_logs}
use Rattle.ix_model.proofs.Putting.{sound_from_start}
use Rattle.ix_store.specs.Written.{over, AreDone}
use Rattle.ix_recovery.specs.Among.{IsAmong}
use Rattle.ix_recovery.specs.ListLaws.{WithinFits}
use Rattle.ix_recovery.specs.Listed.{index_items, state_items, left_items, removal_item, all_items}
use Rattle.ix_recovery.proofs.Listing.{states_are_listed}
use Rattle.ix_recovery.proofs.Members.{all_among, all_append, all_from, all_map, all_flat, every, every_among, among_got}
use Rattle.ix_recovery.proofs.Ranged.{IsRanged, SlotRanged, IndexRanged, range_moment, ranged_after}
use Rattle.ix_recovery.proofs.Slots.{at_each}
use Rattle.ix_recovery.proofs.Summing.{sum_among, amounts_left, over_sum}
use Rattle.ix_recovery.proofs.Times.{bounds_time}

none_some : {X : Type 0} {x : X} → None ≡ Some x → ⊥
none_some e = cc

some_same : {X : Type 0} {x y : X} → Some x ≡ Some y → x ≡ y
some_same e = cc

true_false : true ≡ false → ⊥
true_false e = cc

got_below : {X : Type 0} (xs : List X) (n : ℕ) (x : X) → slice_get xs n ≡ Some x → n < length xs
got_below [] n x e = absurd (none_some e)
got_below (y ∷ xs) zero x e = omega arith
got_below (y ∷ xs) (suc n) x e = let a = got_below xs n x e in omega (arith, a)

once_itself : (n : ℕ) → once_if n n ≡ 1
once_itself n = ap (λ (b : Bool). if b then 1 else 0) ((Decides-eqb n n).1 refl)

below_by : (k next used : ℕ) → (next ≤ k → used ≤ 0) → 1 ≤ used → next < 2 ^ 63 → k < 2 ^ 63
below_by k next used none one few =
    by_test (nat_le next k)
    (λ t. absurd (let l : next ≤ k = grind (arith, nat_tests) in let z = none l in omega (arith, z, one)))
    (λ t. let l : k < next = grind (arith, nat_tests) in omega (arith, l, few))

-- ---- a bucket and an entry

-- what is known of the bucket of a place
record IsKnown (index : List ℕ) (n placed : ℕ) (events : List Event) (standing : Standing) : Type 0 where
  sound : IsStandingOf index n events standing
  times : AllByRecursion HasTime events
  ranged : IsRanged placed standing
  apart : IsApartFromLogs standing
  most : placed < 2 ^ 63
  number : n < 2 ^ 63
  files : (k : ℕ) → 1 ≤ standing_uses k standing → k < 2 ^ 63

not_log : (area : Area) → is_meta_area area ≡ false → area ≢ Meta
not_log area h e = true_false (sym (ap is_meta_area e) ∙ h)

thawed_apart : (area : Area) → area ≡ areas.Thawed → area ≢ Meta
thawed_apart area h e = true_false (sym (ap is_meta_area e) ∙ ap is_meta_area h)

bucket_within : (index : List ℕ) (n placed : ℕ) (events : List Event) (standing : Standing) (b : Bucket) →
    IsKnown index n placed events standing → listed standing ≡ Some b → IsBucket b
bucket_within index n placed events (live c) b h e = subst IsBucket (some_same e) (record {
  id = (let k = h.sound.is_of.id_is in let l = h.number in omega (arith, k, l));
  area = not_log c.file.area h.apart;
  number = h.files c.file.number (let o = once_itself c.file.number in omega (arith, o));
  newest = (bounds_time events c.count c.bytes c.newest c.oldest h.sound.is_of.sums h.times).0;
  oldest = (bounds_time events c.count c.bytes c.newest c.oldest h.sound.is_of.sums h.times).1;
  used = (let u = h.ranged.0 in let m = h.most in omega (arith, u, m));
  touched = h.ranged.1;
})
bucket_within index n placed events (frozen f None) b h e = absurd (none_some e)
bucket_within index n placed events (frozen f (Some c)) b h e = subst IsBucket (some_same e) (record {
  id = (let k = h.sound.1.is_of.id_is in let l = h.number in omega (arith, k, l));
  area = thawed_apart c.file.area h.sound.1.file_is;
  number = h.files c.file.number (let o = once_itself c.file.number in omega (arith, o));
  newest = (bounds_time events c.count c.bytes c.newest c.oldest h.sound.1.is_of.sums h.times).0;
  oldest = (bounds_time events c.count c.bytes c.newest c.oldest h.sound.1.is_of.sums h.times).1;
  used = (let u = h.ranged.1.0 in let m = h.most in omega (arith, u, m));
  touched = h.ranged.1.1;
})

archive_within : (archive : Option ℕ) (other : Option Bucket) →
    ((k : ℕ) → 1 ≤ files.archive_uses k archive + files.bucket_uses k other → k < 2 ^ 63) → IfSome archive IsNumber
archive_within None other k = tt
archive_within (Some number) other k = k number (let o = once_itself number in omega (arith, o))

entry_within : (index : List ℕ) (n placed : ℕ) (events : List Event) (standing : Standing) (x : Entry) →
    IsKnown index n placed events standing → entered standing ≡ Some x → IsEntry x
entry_within index n placed events (live c) x h e = absurd (none_some e)
entry_within index n placed events (frozen f other) x h e = subst IsEntry (some_same e) (record {
  id = (let k = h.sound.0.id_is in let l = h.number in omega (arith, k, l));
  moment = h.ranged.0;
  newest = (bounds_time events f.count f.bytes f.newest f.oldest h.sound.0.sums h.times).0;
  oldest = (bounds_time events f.count f.bytes f.newest f.oldest h.sound.0.sums h.times).1;
  archive = archive_within f.archive other h.files;
})

-- ---- the items of a state

module _ (choose : Chooser) (history : List TimedCommand) (bounds : machine.KeepsBounds (state_after choose history)) where
  abbrev m : State
  m = state_after choose history

  abbrev s : Catalog
  s = m.catalog

  placed_most : s.counts.placed < 2 ^ 63
  placed_most =
      let b = balanced_after choose history in
      let p = b.placed in
      let q = b.settled in
      let r = bounds.settled in
      omega (arith, p, q, r)

  nulled_most : s.counts.nulled < 2 ^ 63
  nulled_most = let q = (balanced_after choose history).settled in let r = bounds.settled in omega (arith, q, r)

  dropped_most : s.counts.dropped < 2 ^ 63
  dropped_most = let q = (balanced_after choose history).settled in let r = bounds.settled in omega (arith, q, r)

  -- a number that is used is below the next
  used_below : (k : ℕ) → 1 ≤ files.uses k s → k < 2 ^ 63
  used_below k l = let none = (apart_after choose history).below k in let r = bounds.next_file in
      below_by k s.next_file (files.uses k s) none l r

  known : (i : Index) (n : ℕ) (x : Slot) → IsAmong i s.indexes → slice_get i.slots n ≡ Some x →
      IsKnown i.name n s.counts.placed x.events x.standing
  known i n x at found =
      let got = among_got x n i.slots found in
      record {
        sound = sound_from_start i.name n i.slots x (all_among IsSound i s.indexes (sound_after choose history) at) found;
        times = all_among (λ (y : Slot). AllByRecursion HasTime y.events) x i.slots (all_among AreTimes i s.indexes bounds.times at) got;
        ranged = all_among (SlotRanged s.counts.placed) x i.slots
            (all_among (IndexRanged s.counts.placed) i s.indexes (ranged_after choose history).each at) got;
        apart = all_among SlotApart x i.slots (all_among IndexApart i s.indexes (apart_from_logs choose history).each at) got;
        most = placed_most;
        number = (let a = got_below i.slots n x found in
            let b = all_among (λ (j : Index). length j.slots < 2 ^ 63) i s.indexes bounds.next_ids at in
            omega (arith, a, b));
        files = λ k l. used_below k (let a = sum_among (slot_uses k) x i.slots got in let b = sum_among (index_uses k) i s.indexes at in
            omega (arith, l, a, b));
      }

  index_within : (i : Index) → IsAmong i s.indexes → AllByRecursion IsWithin (index_items i)
  index_within i at =
      at_each IsWithin i.name (slice_get i.slots) 0 i.slots (all_among IsSound i s.indexes (sound_after choose history) at)
      (λ j. ap (slice_get i.slots) (let e : 0 + j ≡ j = omega arith in e))
      (record {
        bucket = λ n x b l found is id. bucket_within i.name n s.counts.placed x.events x.standing b (known i n x at found) is;
        entry = λ n x e l found is its id. entry_within i.name n s.counts.placed x.events x.standing e (known i n x at found) is;
      })

  moments_within : IsMoment m.last × IsMoment m.tick
  moments_within =
      let a = moments_after choose history in (
        range_moment m.last a.from_start a.to_end,
        range_moment m.tick a.tick_from_start (let p = a.tick_before in let q = a.to_end in
            omega (arith, ints, p, q)),
      )

  pub state_within : AllByRecursion IsWithin (state_items m)
  state_within = (
    tt,
    (
      moments_within,
      (
        (bounds.settled, nulled_most, dropped_most, placed_most),
        (
          bounds.next_file,
          all_append IsWithin (map life_item m.channels) _
              (all_map IsWithin life_item m.channels (every (λ l. IsWithin (life_item l)) m.channels (λ l. tt)))
              (all_append IsWithin (flat_map index_items s.indexes) _
              (all_flat IsWithin index_items s.indexes (every_among (λ (i : Index). AllByRecursion IsWithin (index_items i)) s.indexes
              index_within))
              (all_append IsWithin (map items.Spot m.spots) (map number_item s.indexes)
              (all_map IsWithin items.Spot m.spots bounds.offsets) (all_map IsWithin number_item s.indexes bounds.next_ids))),
        ),
      ),
    ),
  )

pub left_within : (choose : Chooser) (history : List TimedCommand) → machine.KeepsBounds (state_after choose history) →
    AllByRecursion IsWithin (left_items choose history)
left_within choose [] bounds = (tt, tt)
left_within choose (o ∷ history) bounds = state_within choose (o ∷ history) bounds

-- ---- last removals

removals_within : (s : Catalog) (list : List File) → s.next_file < 2 ^ 63 → AreDone s list → All IsFileNumber list
removals_within s list next done =
    All-from_recursion IsFileNumber list (all_from IsFileNumber (IsDone s) list (λ f d. let t = d.taken in omega (arith, t, next)) done)

removal_within : (s : Catalog) (removed : Option (List File)) → s.next_file < 2 ^ 63 → AreDone s (unwrap_or removed []) →
    AllByRecursion IsWithin (option_to_list (removal_item removed))
removal_within s None next done = tt
removal_within s (Some list) next done = (removals_within s list next done, tt)

-- where a number is used by none of the items, none of them has its file
is_spared : (said : List Item) (x : Item) (f : File) → IsAmong x said → sum_by (uses f.number) said ≡ 0 → file_in x ≢ Some f
is_spared said x f at none e =
    let a = sum_among (uses f.number) x said at in
    let b : uses f.number x ≡ 1 = ap (is_numbered f.number) e
    ∙ ap (λ (t : Bool). if t then 1 else 0) ((Decides-eqb f.number f.number).1 refl) in
    omega (arith, a, b, none)

all_spared : (said : List Item) (list : List File) → AllByRecursion (λ (f : File). sum_by (uses f.number) said ≡ 0) list →
    All (IsSpared list) said
all_spared said list none =
    All-from_recursion (IsSpared list) said
    (every_among (IsSpared list) said (λ x at. All-from_recursion (λ (f : File). file_in x ≢ Some f) list
    (all_from (λ (f : File). file_in x ≢ Some f) (λ (f : File). sum_by (uses f.number) said ≡ 0) list (λ f e. is_spared said x f at e)
    none)))

-- ---- all of it

next_is : (choose : Chooser) (history : List TimedCommand) (run : ℕ) (removed : Option Item) →
    next_in (over run removed (snapshot_of choose history).book) ≡ (state_after choose history).catalog.next_file
next_is choose [] run removed = refl
next_is choose (o ∷ history) run removed = refl

removals_are : (book : NamedItems) (run : ℕ) (removed : Option (List File)) →
    removals_in (over run (removal_item removed) book) ≡ unwrap_or removed []
removals_are book run None = refl
removals_are book run (Some list) = refl

pub within_fits : WithinFits
within_fits choose history run removed few done bounds =
    let m : State = state_after choose history in
    let said = left_items choose history in
    let all = all_items run removed said in
    let lists = states_are_listed choose history run removed in
    let amounts = amounts_left choose history in
    let apart = apart_after choose history in
    let numbers : (n : ℕ) → sum_by (uses n) all ≡ files.uses n m.catalog = λ n. over_sum (uses n) run removed said refl (λ list. refl)
    ∙ amounts.numbers n in (
      all,
      lists,
      record {
        within = All-from_recursion IsWithin all (
          few,
          all_append IsWithin (option_to_list (removal_item removed)) said
              (removal_within m.catalog removed bounds.next_file done) (left_within choose history bounds),
        );
        apart = record {
          one_each = λ n. (let e = numbers n in let h = apart.one_each n in omega (arith, e, h));
          from_one = (let e = numbers 0 in let h = apart.from_one in omega (arith, e, h));
          below = λ n l. (let e = numbers n in
              let k = ap next_in lists.stands in
              let j = next_is choose history run (removal_item removed) in
              let h = apart.below n (omega (arith, l, k, j)) in
              omega (arith, e, h));
        };
        spared = subst (λ (list : List File). All (IsSpared list) all) (sym (removals_are (snapshot_of choose history).book run removed)
            ∙ ap removals_in lists.stands)
            (all_spared all (unwrap_or removed []) (all_from (λ (f : File). sum_by (uses f.number) all ≡ 0) (IsDone m.catalog)
            (unwrap_or removed [])
            (λ f d. numbers f.number ∙ d.unused) done));
        bytes = (let e = over_sum bytes_in run removed said refl (λ list. refl) in let a = amounts.bytes in let b = bounds.bytes in
            omega (arith, e, a, b));
        events = (let e = over_sum events_in run removed said refl (λ list. refl) in let a = amounts.events in let b = bounds.events in
            omega (arith, e, a, b));
        channels = (let e = over_sum channels_in run removed said refl (λ list. refl) in let a = amounts.channels in
            let b = bounds.channels in omega (arith, e, a, b));
        size = (let e = over_sum size_in run removed said refl (λ list. refl) in let a = amounts.size in let b = bounds.items in
            omega (arith, e, a, b));
      },
    )
