-- The items of a state are what stands in its book.
use Rattle.std.proofs.Common.{◌≡◌, ℕ, zero, suc, ◌+◌, ◌==◌, Bool, true, false, List, [], ◌∷◌, ◌++◌, map, refl, sym, ap, ◌∙◌, arith, inl}
use Rattle.std.proofs.Common.{inr, subst}
use Rattle.std.specs.Prelude.{Option, Some, None, if◌then◌else◌, unwrap_or, slice_get, option_to_list}
use Rattle.std.specs.List.{AllByRecursion, flat_map}
use Rattle.std.specs.Option.{option_map}
use Rattle.std.specs.declared.cmp.Ordering.TheVariants.{Less}
use Rattle.std.specs.Ordering.{nat_cmp}
use Rattle.std.specs.Cmp.Lexicographic.{slice_cmp}
use Rattle.std.proofs.lemmas.Bool.{eqb-true}
use Rattle.ix_base.specs.declared.events.Spot.{Spot}
use Rattle.ix_manifest.specs.Book.{Name, NoneUnder, named, name_of, is_same}
use Rattle.ix_manifest.specs.Slots.{AreOnce}
use Rattle.ix_items.specs.declared.items.Bucket.{Bucket}
use Rattle.ix_items.specs.declared.items.Entry.{Entry}
use Rattle.ix_items.specs.declared.items.Item.{Item}
use Rattle.ix_items.specs.declared.items.Item.TheVariants as items
use Rattle.ix_model.specs.Buckets.{Slot, Index, listed, entered}
use Rattle.ix_model.specs.Laws.{AreInOrder}
use Rattle.ix_model.specs.State.{State, ChannelHistory, index_name, life_name, spot_path, fresh_index, slots_in}
use Rattle.ix_model.specs.Step.{state_after}
use Rattle.ix_model.specs.Sums.{IsSound}
use Rattle.ix_model.proofs.Ascending.{in_order_after}
use Rattle.ix_model.proofs.Named.{by_test}
use Rattle.ix_model.proofs.Stepping.{sound_after}
use Rattle.ix_replay.specs.Lists.{IsLeft, AreListed, Lists}
use Rattle.ix_catalog.specs.Lists.{find, AreAscending}
use Rattle.ix_model.specs.Books.{book_of, first_book, life_item, number_item, listed_at, entered_at}
use Rattle.ix_model.proofs.Filing.{slot_found}
use Rattle.ix_model.proofs.Names.{less_other, found_name}
use Rattle.ix_model.proofs.Putting.{sound_from_start}
use Rattle.ix_model.proofs.Saying.{at_kind, other_zero}
use Rattle.ix_recovery.specs.Among.{IsAmong}
use Rattle.ix_recovery.specs.ListLaws.{StatesAreListed}
use Rattle.ix_recovery.specs.Listed.{slot_items, index_items, state_items}
use Rattle.ix_recovery.proofs.Members.{all_among, all_append, all_from, all_map, all_flat, every, every_among, among_front, among_behind}
use Rattle.ix_recovery.proofs.Members.{among_map, among_flat, among_got, among_found, found_each}
use Rattle.ix_recovery.proofs.Booked.{StandsIn, IsOther, other_text, once_is, once_append, lists_by, lists_over}
use Rattle.ix_recovery.proofs.Slots.{each_of, at_each, once_indexes, listed_id, entered_id}

none_some : {X : Type 0} {x : X} → None ≡ Some x → ⊥
none_some e = cc

some_same : {X : Type 0} {x y : X} → Some x ≡ Some y → x ≡ y
some_same e = cc

-- ---- things that stand by their names

once_named : {X : Type 0} (kind : ℕ) (f : X → Item) (key : X → List ℕ) → ((x : X) → name_of (f x) ≡ named kind (key x) 0) → (xs : List X) →
    AreAscending key xs → AreOnce (map f xs)
once_named kind f key k [] h = tt
once_named {X = X} kind f key k (x ∷ xs) h = (
  all_map (λ (y : Item). is_same (name_of y) (name_of (f x)) ≡ false) f xs
      (all_from (λ (y : X). is_same (name_of (f y)) (name_of (f x)) ≡ false) (λ (y : X). slice_cmp nat_cmp (key x) (key y) ≡ Less) xs
      (λ y e. (λ i. is_same (k y i) (k x i)) ∙ other_text kind kind (key x) (key y) 0 0 (less_other (key x) (key y) e)) h.0),
  once_named kind f key k xs h.1,
)

named_in : {X : Type 0} (kind : ℕ) (f : X → Item) (key : X → List ℕ) → ((x : X) → name_of (f x) ≡ named kind (key x) 0) →
    (xs : List X) (text : List ℕ) (y : Item) →
    option_map f (find key text xs) ≡ Some y → IsAmong y (map f xs) × (name_of y ≡ named kind text 0)
named_in {X = X} kind f key k xs text y e = by (find key text xs) refl e
  where
    by : (o : Option X) → find key text xs ≡ o → option_map f o ≡ Some y → IsAmong y (map f xs) × (name_of y ≡ named kind text 0)
    by None is q = absurd (none_some q)
    by (Some x) is q = (
      subst (λ (z : Item). IsAmong z (map f xs)) (some_same q) (among_map f x xs (among_found key text x xs is)),
      ap name_of (sym (some_same q)) ∙ k x ∙ ap (λ (n : List ℕ). named kind n 0) (found_name key text x xs is),
    )

none_numbered : (o : Option Item) (n : ℕ) (y : Item) → (if suc n == 0 then o else None) ≡ Some y → ⊥
none_numbered o n y e = none_some (sym (ap (λ (b : Bool). if b then o else None) (other_zero n)) ∙ e)

module _ (m : State) (order : AreInOrder m) (sound : AllByRecursion IsSound m.catalog.indexes) where
  abbrev lives : List Item
  lives = map life_item m.channels

  abbrev shelves : List Item
  shelves = flat_map index_items m.catalog.indexes

  abbrev spots : List Item
  spots = map items.Spot m.spots

  abbrev numbers : List Item
  numbers = map number_item m.catalog.indexes

  abbrev named_items : List Item
  named_items = lives ++ (shelves ++ (spots ++ numbers))

  -- ---- each under a name of its own

  each_named : (P : Item → Type 0) → ((l : ChannelHistory) → P (life_item l)) → ((index : List ℕ) (b : Bucket) → P (items.Bucket index b)) →
      ((e : Entry) → P (items.Ledger e)) →
      ((s : Spot) → P (items.Spot s)) → ((i : Index) → P (number_item i)) → AllByRecursion P named_items
  each_named P life bucket entry spot number =
      all_append P lives (shelves ++ (spots ++ numbers))
      (all_map P life_item m.channels (every (λ (l : ChannelHistory). P (life_item l)) m.channels life))
      (all_append P shelves (spots ++ numbers) (each_of P bucket entry m.catalog.indexes)
      (all_append P spots numbers (all_map P items.Spot m.spots (every (λ (s : Spot). P (items.Spot s)) m.spots spot))
      (all_map P number_item m.catalog.indexes (every (λ (i : Index). P (number_item i)) m.catalog.indexes number))))

  once_spots : AreOnce (spots ++ numbers)
  once_spots =
      once_append spots numbers (once_named 10 items.Spot spot_path (λ s. refl) m.spots order.spots)
      (once_named 13 number_item index_name (λ i. refl) m.catalog.indexes order.indexes)
      (all_map (λ (x : Item). NoneUnder (name_of x) numbers) items.Spot m.spots
      (every (λ (s : Spot). NoneUnder (named 10 s.path 0) numbers) m.spots
      (λ s. all_map (λ (x : Item). is_same (name_of x) (named 10 s.path 0) ≡ false) number_item m.catalog.indexes
      (every (λ (i : Index). is_same (named 13 i.name 0) (named 10 s.path 0) ≡ false) m.catalog.indexes (λ i. refl)))))

  none_behind : (kind : ℕ) (text : List ℕ) (number : ℕ) → ((s : Spot) → is_same (named 10 s.path 0) (named kind text number) ≡ false) →
      ((i : Index) → is_same (named 13 i.name 0) (named kind text number) ≡ false) → NoneUnder (named kind text number) (spots ++ numbers)
  none_behind kind text number p q =
      all_append (λ (x : Item). is_same (name_of x) (named kind text number) ≡ false) spots numbers
      (all_map (λ (x : Item). is_same (name_of x) (named kind text number) ≡ false) items.Spot m.spots
      (every (λ (s : Spot). is_same (named 10 s.path 0) (named kind text number) ≡ false) m.spots p))
      (all_map (λ (x : Item). is_same (name_of x) (named kind text number) ≡ false) number_item m.catalog.indexes
      (every (λ (i : Index). is_same (named 13 i.name 0) (named kind text number) ≡ false) m.catalog.indexes q))

  once_shelves : AreOnce (shelves ++ (spots ++ numbers))
  once_shelves =
      once_append shelves (spots ++ numbers) (once_indexes m.catalog.indexes order.indexes sound) once_spots
      (each_of (λ (x : Item). NoneUnder (name_of x) (spots ++ numbers))
      (λ index b. none_behind 6 index b.id (λ s. refl) (λ i. refl)) (λ e. none_behind 8 e.index e.id (λ s. refl) (λ i. refl))
      m.catalog.indexes)

  none_channel : (text : List ℕ) → NoneUnder (named 4 text 0) (shelves ++ (spots ++ numbers))
  none_channel text =
      all_append (λ (x : Item). is_same (name_of x) (named 4 text 0) ≡ false) shelves (spots ++ numbers)
      (each_of (λ (x : Item). is_same (name_of x) (named 4 text 0) ≡ false) (λ index b. refl) (λ e. refl) m.catalog.indexes)
      (none_behind 4 text 0 (λ s. refl) (λ i. refl))

  once_all : AreOnce named_items
  once_all =
      once_append lives (shelves ++ (spots ++ numbers)) (once_named 4 life_item life_name (λ l. refl) m.channels order.channels)
      once_shelves
      (all_map (λ (x : Item). NoneUnder (name_of x) (shelves ++ (spots ++ numbers))) life_item m.channels
      (every (λ (l : ChannelHistory). NoneUnder (named 4 l.name 0) (shelves ++ (spots ++ numbers))) m.channels (λ l. none_channel l.name)))

  none_of : (kind : ℕ) → ((other : ℕ) (text : List ℕ) (number : ℕ) → (other == kind) ≡ false →
      is_same (named other text number) (named kind [] 0) ≡ false) →
      (4 == kind) ≡ false → (6 == kind) ≡ false → (8 == kind) ≡ false → (10 == kind) ≡ false → (13 == kind) ≡ false →
      NoneUnder (named kind [] 0) named_items
  none_of kind k a b c d e =
      each_named (λ (x : Item). is_same (name_of x) (named kind [] 0) ≡ false)
      (λ l. k 4 l.name 0 a) (λ index bucket. k 6 index bucket.id b) (λ entry. k 8 entry.index entry.id c) (λ s. k 10 s.path 0 d)
      (λ i. k 13 i.name 0 e)

  other_kind : (kind other : ℕ) (text : List ℕ) (number : ℕ) → (other == kind) ≡ false →
      is_same (named other text number) (named kind [] 0) ≡ false
  other_kind kind other text number t = rw t refl

  listed_state : AreListed (state_items m)
  listed_state = record {
    once = (
      (refl, (refl, (refl, none_of 1 (other_kind 1) refl refl refl refl refl))),
      (
        (refl, (refl, none_of 3 (other_kind 3) refl refl refl refl refl)),
        ((refl, none_of 9 (other_kind 9) refl refl refl refl refl), (none_of 11 (other_kind 11) refl refl refl refl refl, once_all)),
      ),
    );
    left = (refl, (refl, (refl, (refl, each_named IsLeft (λ l. refl) (λ index b. refl) (λ e. refl) (λ s. refl) (λ i. refl)))));
  }

  -- ---- each stands in the book

  slots_are : (i : Index) → IsAmong i m.catalog.indexes → slots_in m.catalog.indexes i.name ≡ i.slots
  slots_are i at =
      ap (λ (o : Option Index). (unwrap_or o (fresh_index i.name)).slots)
      (all_among (λ (y : Index). find index_name y.name m.catalog.indexes ≡ Some y) i m.catalog.indexes
      (found_each index_name m.catalog.indexes order.indexes) at)

  stand_index : (i : Index) → IsAmong i m.catalog.indexes → AllByRecursion (StandsIn (book_of m)) (index_items i)
  stand_index i at =
      at_each (StandsIn (book_of m)) i.name (slice_get i.slots) 0 i.slots (all_among IsSound i m.catalog.indexes sound at)
      (λ j. ap (slice_get i.slots) (let e : 0 + j ≡ j = omega arith in e))
      (record {
        bucket = λ n s b l found is id.
            ap (λ (slots : List Slot). option_map (items.Bucket i.name) (listed_at (slice_get slots b.id))) (slots_are i at)
            ∙ ap (λ (k : ℕ). option_map (items.Bucket i.name) (listed_at (slice_get i.slots k))) id
            ∙ ap (λ (o : Option Slot). option_map (items.Bucket i.name) (listed_at o)) found
            ∙ ap (option_map (items.Bucket i.name)) is;
        entry = λ n s e l found is its id.
            ap (λ (name : List ℕ). option_map items.Ledger (entered_at (slice_get (slots_in m.catalog.indexes name) e.id))) its
            ∙ ap (λ (slots : List Slot). option_map items.Ledger (entered_at (slice_get slots e.id))) (slots_are i at)
            ∙ ap (λ (k : ℕ). option_map items.Ledger (entered_at (slice_get i.slots k))) id
            ∙ ap (λ (o : Option Slot). option_map items.Ledger (entered_at o)) found
            ∙ ap (option_map items.Ledger) is;
      })

  stand_all : AllByRecursion (StandsIn (book_of m)) named_items
  stand_all =
      all_append (StandsIn (book_of m)) lives (shelves ++ (spots ++ numbers))
      (all_map (StandsIn (book_of m)) life_item m.channels
      (all_from (λ (l : ChannelHistory). StandsIn (book_of m) (life_item l))
      (λ (l : ChannelHistory). find life_name l.name m.channels ≡ Some l) m.channels
      (λ l e. ap (option_map life_item) e) (found_each life_name m.channels order.channels)))
      (all_append (StandsIn (book_of m)) shelves (spots ++ numbers)
      (all_flat (StandsIn (book_of m)) index_items m.catalog.indexes
      (every_among (λ (i : Index). AllByRecursion (StandsIn (book_of m)) (index_items i)) m.catalog.indexes stand_index))
      (all_append (StandsIn (book_of m)) spots numbers
      (all_map (StandsIn (book_of m)) items.Spot m.spots
      (all_from (λ (s : Spot). StandsIn (book_of m) (items.Spot s)) (λ (s : Spot). find spot_path s.path m.spots ≡ Some s) m.spots
      (λ s e. ap (option_map items.Spot) e) (found_each spot_path m.spots order.spots)))
      (all_map (StandsIn (book_of m)) number_item m.catalog.indexes
      (all_from (λ (i : Index). StandsIn (book_of m) (number_item i)) (λ (i : Index). find index_name i.name m.catalog.indexes ≡ Some i)
      m.catalog.indexes
      (λ i e. ap (option_map number_item) e) (found_each index_name m.catalog.indexes order.indexes)))))

  -- ---- what stands in the book is one of them

  abbrev IsIn : Name → Type 0
  IsIn name = (x : Item) → book_of m name ≡ Some x → IsAmong x (state_items m) × (name_of x ≡ name)

  behind_singles : (x : Item) → IsAmong x named_items → IsAmong x (state_items m)
  behind_singles x h = inr (inr (inr (inr h)))

  in_channels : (text : List ℕ) (number : ℕ) → IsIn (named 4 text number)
  in_channels text zero x e =
      let at = named_in 4 life_item life_name (λ l. refl) m.channels text x e in
      (behind_singles x (among_front x lives (shelves ++ (spots ++ numbers)) at.0), at.1)
  in_channels text (suc n) x e = absurd (none_numbered (option_map life_item (find life_name text m.channels)) n x e)

  in_spots : (text : List ℕ) (number : ℕ) → IsIn (named 10 text number)
  in_spots text zero x e =
      let at = named_in 10 items.Spot spot_path (λ s. refl) m.spots text x e in (
        behind_singles x (among_behind x lives (shelves ++ (spots ++ numbers))
            (among_behind x shelves (spots ++ numbers) (among_front x spots numbers at.0))),
        at.1,
      )
  in_spots text (suc n) x e = absurd (none_numbered (option_map items.Spot (find spot_path text m.spots)) n x e)

  in_numbers : (text : List ℕ) (number : ℕ) → IsIn (named 13 text number)
  in_numbers text zero x e =
      let at = named_in 13 number_item index_name (λ i. refl) m.catalog.indexes text x e in (
        behind_singles x (among_behind x lives (shelves ++ (spots ++ numbers))
            (among_behind x shelves (spots ++ numbers) (among_behind x spots numbers at.0))),
        at.1,
      )
  in_numbers text (suc n) x e = absurd (none_numbered (option_map number_item (find index_name text m.catalog.indexes)) n x e)

  -- an item of a bucket's place
  in_shelves : (text : List ℕ) (number : ℕ) (s : Slot) (x : Item) → slice_get (slots_in m.catalog.indexes text) number ≡ Some s →
      ((index : List ℕ) → index ≡ text → IsAmong x (slot_items index s)) → IsAmong x (state_items m)
  in_shelves text number s x at has =
      let i = slot_found m.catalog.indexes text number s at in
      let name = found_name index_name text i.0 m.catalog.indexes i.1.0 in
      behind_singles x (among_behind x lives (shelves ++ (spots ++ numbers)) (among_front x shelves (spots ++ numbers)
      (among_flat index_items i.0 x m.catalog.indexes (among_found index_name text i.0 m.catalog.indexes i.1.0)
      (among_flat (slot_items i.0.name) s x i.0.slots (among_got s number i.0.slots i.1.1) (has i.0.name name)))))

  place_sound : (text : List ℕ) (number : ℕ) (s : Slot) → slice_get (slots_in m.catalog.indexes text) number ≡ Some s →
      ((b : Bucket) → listed s.standing ≡ Some b → b.id ≡ number)
      × ((e : Entry) → entered s.standing ≡ Some e → (e.index ≡ text) × (e.id ≡ number))
  place_sound text number s at =
      let i = slot_found m.catalog.indexes text number s at in
      let name = found_name index_name text i.0 m.catalog.indexes i.1.0 in
      let h = sound_from_start i.0.name number i.0.slots s
      (all_among IsSound i.0 m.catalog.indexes sound (among_found index_name text i.0 m.catalog.indexes i.1.0)) i.1.1 in
      (λ b k. listed_id i.0.name number s b h k, λ e k. (let q = entered_id i.0.name number s e h k in (q.0 ∙ name, q.1)))

  listed_in : (text : List ℕ) (number : ℕ) (s : Slot) (x : Item) → slice_get (slots_in m.catalog.indexes text) number ≡ Some s →
      (o : Option Bucket) → listed s.standing ≡ o →
      option_map (items.Bucket text) o ≡ Some x → IsAmong x (state_items m) × (name_of x ≡ named 6 text number)
  listed_in text number s x at None is e = absurd (none_some e)
  listed_in text number s x at (Some b) is e = (
    in_shelves text number s x at (λ index same. among_front x (option_to_list (option_map (items.Bucket index) (listed s.standing)))
        (option_to_list (option_map items.Ledger (entered s.standing)))
        (subst (λ (p : Option Bucket). IsAmong x (option_to_list (option_map (items.Bucket index) p))) (sym is)
        (inl (ap (λ (n : List ℕ). items.Bucket n b) same ∙ some_same e)))),
    ap name_of (sym (some_same e)) ∙ ap (named 6 text) ((place_sound text number s at).0 b is),
  )

  entered_in : (text : List ℕ) (number : ℕ) (s : Slot) (x : Item) → slice_get (slots_in m.catalog.indexes text) number ≡ Some s →
      (o : Option Entry) → entered s.standing ≡ o →
      option_map items.Ledger o ≡ Some x → IsAmong x (state_items m) × (name_of x ≡ named 8 text number)
  entered_in text number s x at None is e = absurd (none_some e)
  entered_in text number s x at (Some entry) is e =
      let own = (place_sound text number s at).1 entry is in (
        in_shelves text number s x at (λ index same. among_behind x (option_to_list (option_map (items.Bucket index) (listed s.standing)))
            (option_to_list (option_map items.Ledger (entered s.standing)))
            (subst (λ (p : Option Entry). IsAmong x (option_to_list (option_map items.Ledger p))) (sym is) (inl (some_same e)))),
        ap name_of (sym (some_same e)) ∙ (λ i. named 8 (own.0 i) (own.1 i)),
      )

  in_buckets : (text : List ℕ) (number : ℕ) → IsIn (named 6 text number)
  in_buckets text number x e = by (slice_get (slots_in m.catalog.indexes text) number) refl e
    where
      by : (o : Option Slot) → slice_get (slots_in m.catalog.indexes text) number ≡ o →
          option_map (items.Bucket text) (listed_at o) ≡ Some x →
          IsAmong x (state_items m) × (name_of x ≡ named 6 text number)
      by None at q = absurd (none_some q)
      by (Some s) at q = listed_in text number s x at (listed s.standing) refl q

  in_entries : (text : List ℕ) (number : ℕ) → IsIn (named 8 text number)
  in_entries text number x e = by (slice_get (slots_in m.catalog.indexes text) number) refl e
    where
      by : (o : Option Slot) → slice_get (slots_in m.catalog.indexes text) number ≡ o → option_map items.Ledger (entered_at o) ≡ Some x →
          IsAmong x (state_items m) × (name_of x ≡ named 8 text number)
      by None at q = absurd (none_some q)
      by (Some s) at q = entered_in text number s x at (entered s.standing) refl q

  in_settings : (text : List ℕ) (number : ℕ) → IsIn (named 1 text number)
  in_settings text number x e = let o = once_is (items.Settings m.force) (named 1 text number) x e in (inl o.0, ap name_of (sym o.0) ∙ o.1)

  in_moments : (text : List ℕ) (number : ℕ) → IsIn (named 3 text number)
  in_moments text number x e = let o = once_is (items.Moments m.last m.tick) (named 3 text number) x e in
      (inr (inl o.0), ap name_of (sym o.0) ∙ o.1)

  in_counts : (text : List ℕ) (number : ℕ) → IsIn (named 9 text number)
  in_counts text number x e =
      let o = once_is (items.Counts m.catalog.counts.settled m.catalog.counts.nulled m.catalog.counts.dropped m.catalog.counts.placed)
      (named 9 text number) x e in
      (inr (inr (inl o.0)), ap name_of (sym o.0) ∙ o.1)

  in_next : (text : List ℕ) (number : ℕ) → IsIn (named 11 text number)
  in_next text number x e =
      let o = once_is (items.NextFile m.catalog.next_file) (named 11 text number) x e in
      (inr (inr (inr (inl o.0))), ap name_of (sym o.0) ∙ o.1)

  abbrev at : (kind : ℕ) → ((text : List ℕ) (number : ℕ) → IsIn (named kind text number)) → (name : Name) → (name.kind == kind) ≡ true →
      IsIn name
  at kind each name t = at_kind IsIn kind each name (sym (eqb-true name.kind kind t))

  in_state : (name : Name) → IsIn name
  in_state name =
      by_test (name.kind == 1) (λ t. at 1 in_settings name t)
      (λ k1. by_test (name.kind == 3) (λ t. at 3 in_moments name t)
      (λ k3. by_test (name.kind == 4) (λ t. at 4 in_channels name t)
      (λ k4. by_test (name.kind == 6) (λ t. at 6 in_buckets name t)
      (λ k6. by_test (name.kind == 8) (λ t. at 8 in_entries name t)
      (λ k8. by_test (name.kind == 9) (λ t. at 9 in_counts name t)
      (λ k9. by_test (name.kind == 10) (λ t. at 10 in_spots name t)
      (λ k10. by_test (name.kind == 11) (λ t. at 11 in_next name t)
      (λ k11. by_test (name.kind == 13) (λ t. at 13 in_numbers name t)
      (λ k13 x e. absurd (none_some (sym (nothing k1 k3 k4 k6 k8 k9 k10 k11 k13) ∙ e)))))))))))
    where
      nothing : (name.kind == 1) ≡ false → (name.kind == 3) ≡ false → (name.kind == 4) ≡ false → (name.kind == 6) ≡ false →
          (name.kind == 8) ≡ false → (name.kind == 9) ≡ false →
          (name.kind == 10) ≡ false → (name.kind == 11) ≡ false → (name.kind == 13) ≡ false → book_of m name ≡ None
      nothing k1 k3 k4 k6 k8 k9 k10 k11 k13 = rw (k1, k3, k4, k6, k8, k9, k10, k11, k13) refl

  pub lists_state : Lists (state_items m) (book_of m)
  lists_state = lists_by (state_items m) (book_of m) listed_state (refl, (refl, (refl, (refl, stand_all)))) in_state

  pub others_state : AllByRecursion IsOther (state_items m)
  others_state = (
    (refl, refl),
    (
      (refl, refl),
      (
        (refl, refl),
        (
          (refl, refl),
          each_named IsOther (λ l. (refl, refl)) (λ index b. (refl, refl)) (λ e. (refl, refl)) (λ s. (refl, refl)) (λ i. (refl, refl)),
        ),
      ),
    ),
  )

-- ---- histories

first_in : (name : Name) (x : Item) → first_book name ≡ Some x → IsAmong x (items.Settings [] ∷ []) × (name_of x ≡ name)
first_in name x e = let o = once_is (items.Settings []) name x e in (inl o.0, ap name_of (sym o.0) ∙ o.1)

pub lists_first : Lists (items.Settings [] ∷ []) first_book
lists_first = lists_by (items.Settings [] ∷ []) first_book (record { once = (tt, tt); left = (refl, tt) }) (refl, tt) first_in

pub states_are_listed : StatesAreListed
states_are_listed choose [] run removed = lists_over run removed (items.Settings [] ∷ []) first_book lists_first ((refl, refl), tt)
states_are_listed choose (o ∷ history) run removed =
    let m : State = state_after choose (o ∷ history) in
    let order = in_order_after choose (o ∷ history) in
    let sound = sound_after choose (o ∷ history) in
    lists_over run removed (state_items m) (book_of m) (lists_state m order sound) (others_state m order sound)
