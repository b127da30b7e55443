-- What changed on the shelves says all that a command changes in the book of them.
use Rattle.std.proofs.Common.{◌≡◌, ◌<◌, ℕ, zero, suc, ◌==◌, ◌&&◌, ℤ, Bool, true, false, List, [], ◌∷◌, ◌++◌, map, length, refl, sym, ap}
use Rattle.std.proofs.Common.{◌∙◌, arith, subst}
use Rattle.std.specs.Prelude.{Option, Some, None, if◌then◌else◌, unwrap_or, bytes_eq}
use Rattle.std.specs.List.{AllByRecursion, flat_map}
use Rattle.std.specs.Option.{option_map}
use Rattle.std.proofs.lemmas.Bool.{eqb-true}
use Rattle.ix_manifest.specs.Book.{Name, NamedItems, NoneUnder, named, name_of, is_same, replay}
use Rattle.ix_manifest.proofs.InPlace.{none_under}
use Rattle.ix_items.specs.declared.items.Bucket.{Bucket}
use Rattle.ix_items.specs.declared.items.Entry.{Entry}
use Rattle.ix_items.specs.declared.items.Item.{Item}
use Rattle.ix_items.specs.declared.items.Item.TheVariants as items
use Rattle.ix_life.specs.declared.views.IndexView.{IndexView}
use Rattle.ix_model.specs.Buckets.{Index, Slot, buckets}
use Rattle.ix_model.specs.Given.{Chooser}
use Rattle.ix_model.specs.Shown.{configured, index_view}
use Rattle.ix_model.specs.State.{State, index_name, fresh_index, slots_in}
use Rattle.ix_model.specs.Step.{state_after, stepped, effective}
use Rattle.ix_model.specs.declared.commands.Command.{Command}
use Rattle.ix_model.specs.declared.commands.Command.TheVariants.{Begin, Block, End, Tick, Roll, Thaw, Configure, Direct}
use Rattle.ix_model.specs.declared.commands.TimedCommand.{TimedCommand}
use Rattle.ix_model.proofs.Ascending.{in_order_after}
use Rattle.ix_model.proofs.Ledgers.{all_after, ticks_alone}
use Rattle.ix_model.proofs.Named.{by_test, all_found}
use Rattle.ix_model.proofs.Stepping.{sound_after}
use Rattle.ix_catalog.specs.Changes.{changed, with_number, index_changes, numbers, changes, is_shelf_kind, number_left, number_after, Leads}
use Rattle.ix_catalog.specs.Lists.{find}
use Rattle.ix_catalog.specs.Shelves.{view_name, buckets_in, next_number}
use Rattle.ix_catalog.specs.declared.index_table.IndexTable.{IndexTable}
use Rattle.ix_catalog.proofs.Leading.{each}
use Rattle.ix_catalog.proofs.LeadingShelves.{shelves_lead}
use Rattle.ix_catalog.proofs.Merging.{all_behind}
use Rattle.ix_model.specs.Books.{number_item}
use Rattle.ix_model.specs.Said.{new_entries, shelf_items, ShelvesAreSaid}
use Rattle.ix_model.specs.Shelved.{shelved}
use Rattle.ix_model.specs.Snap.{snapshot_of}
use Rattle.ix_model.proofs.Counting.{next_number_is}
use Rattle.ix_model.proofs.Names.{found_name}
use Rattle.ix_model.proofs.Listing.{among, or_fresh}
use Rattle.ix_model.proofs.Froze.{all_entered, entry_stays, entries_lead}
use Rattle.ix_model.proofs.Rising.{seen_by, seen_buckets, seen_rise}
use Rattle.ix_model.proofs.Saying.{at_kind, same_name, zero_other, other_zero, and_none}
use Rattle.ix_model.proofs.Stood.{left_more, after_push, left_entries, left_numbers, left_stand, seen_differ, keeps_indexes, followed}
use Rattle.ix_model.proofs.Stood.{ledger_grows, none_follow}
use Rattle.ix_model.proofs.Unchanged.{nothing_changed, turn_keeps, HasSome, some_after}
use Rattle.ix_model.proofs.Singles.{whole_after}

-- ---- of each item that the changes of shelves may say

every : {X : Type 0} (P : X → Type 0) → ((x : X) → P x) → (xs : List X) → AllByRecursion P xs
every P all [] = tt
every P all (x ∷ xs) = (all x, every P all xs)

every_mapped : (P : Item → Type 0) → ((e : Entry) → P (items.Ledger e)) → (es : List Entry) → AllByRecursion P (map items.Ledger es)
every_mapped P all [] = tt
every_mapped P all (e ∷ es) = (all e, every_mapped P all es)

record OfEach (P : Item → Type 0) (new : IndexTable) : Type 0 where
  gone : (index : List ℕ) (id : ℕ) → P (items.Gone index id)
  bucket : (index : List ℕ) (b : Bucket) → P (items.Bucket index b)
  next : (index : List ℕ) (id : ℕ) → P (items.NextId index id)
  entry : (e : Entry) → P (items.Ledger e)
  counts : P (items.Counts new.settled new.nulled new.dropped new.placed)
  file : P (items.NextFile new.next_file)

with_each : (P : Item → Type 0) (index : List ℕ) (number : ℕ) (xs : List Item) → P (items.NextId index number) → AllByRecursion P xs →
    AllByRecursion P (with_number index number xs)
with_each P index number [] n h = tt
with_each P index number (x ∷ xs) n h = (n, h)

of_index : (P : Item → Type 0) (new : IndexTable) (ledger : List Entry) (old : List IndexView) (v : IndexView) → OfEach P new →
    AllByRecursion P (index_changes ledger old v)
of_index P new ledger old v h =
    with_each P v.name (next_number v.name v.buckets ledger) (changed v.name (buckets_in v.name old) v.buckets)
    (h.next v.name (next_number v.name v.buckets ledger))
    (each P v.name (buckets_in v.name old) v.buckets
    (every (λ (b : Bucket). P (items.Gone v.name b.id)) (λ b. h.gone v.name b.id) (buckets_in v.name old))
    (every (λ (b : Bucket). P (items.Bucket v.name b)) (λ b. h.bucket v.name b) v.buckets))

of_indexes : (P : Item → Type 0) (new : IndexTable) (ledger : List Entry) (old vs : List IndexView) → OfEach P new →
    AllByRecursion P (flat_map (index_changes ledger old) vs)
of_indexes P new ledger old [] h = tt
of_indexes P new ledger old (v ∷ vs) h = all_behind P (index_changes ledger old v) (flat_map (index_changes ledger old) vs)
    (of_index P new ledger old v h) (of_indexes P new ledger old vs h)

of_all : (P : Item → Type 0) (ledger more : List Entry) (old new : IndexTable) → OfEach P new →
    AllByRecursion P (changes ledger more old new)
of_all P ledger more old new h =
    all_behind P (flat_map (index_changes ledger old.indexes) new.indexes ++ map items.Ledger more) (numbers new)
    (all_behind P (flat_map (index_changes ledger old.indexes) new.indexes) (map items.Ledger more)
    (of_indexes P new ledger old.indexes new.indexes h) (every_mapped P h.entry more))
    (h.counts, (h.file, tt))

pub all_own : (ledger more : List Entry) (old new : IndexTable) →
    AllByRecursion (λ (x : Item). is_shelf_kind (name_of x).kind ≡ true) (changes ledger more old new)
all_own ledger more old new = of_all (λ (x : Item). is_shelf_kind (name_of x).kind ≡ true) ledger more old new (record {
  gone = λ index id. refl;
  bucket = λ index b. refl;
  next = λ index id. refl;
  entry = λ e. refl;
  counts = refl;
  file = refl;
})

-- no item of them is under these names
none_counts : (ledger more : List Entry) (old new : IndexTable) (text : List ℕ) (number : ℕ) →
    is_same (named 9 [] 0) (named 9 text number) ≡ false → NoneUnder (named 9 text number) (changes ledger more old new)
none_counts ledger more old new text number other = of_all (λ (x : Item). is_same (name_of x) (named 9 text number) ≡ false) ledger more old
    new (record {
      gone = λ index id. refl;
      bucket = λ index b. refl;
      next = λ index id. refl;
      entry = λ e. refl;
      counts = other;
      file = refl;
    })

none_file : (ledger more : List Entry) (old new : IndexTable) (text : List ℕ) (number : ℕ) →
    is_same (named 11 [] 0) (named 11 text number) ≡ false → NoneUnder (named 11 text number) (changes ledger more old new)
none_file ledger more old new text number other = of_all (λ (x : Item). is_same (name_of x) (named 11 text number) ≡ false) ledger more old
    new (record {
      gone = λ index id. refl;
      bucket = λ index b. refl;
      next = λ index id. refl;
      entry = λ e. refl;
      counts = refl;
      file = other;
    })

none_next : (ledger more : List Entry) (old new : IndexTable) (text : List ℕ) (number : ℕ) →
    NoneUnder (named 13 text (suc number)) (changes ledger more old new)
none_next ledger more old new text number = of_all (λ (x : Item). is_same (name_of x) (named 13 text (suc number)) ≡ false) ledger more old
    new (record {
      gone = λ index id. refl;
      bucket = λ index b. refl;
      next = λ index id. ap (λ (t : Bool). bytes_eq index text && t) (zero_other number) ∙ and_none (bytes_eq index text);
      entry = λ e. refl;
      counts = refl;
      file = refl;
    })

-- ---- one command

module _ (choose : Chooser) (history : List TimedCommand) (order : TimedCommand) where
  abbrev m : State
  m = state_after choose history

  abbrev later : State
  later = state_after choose (history ++ order ∷ [])

  abbrev more : List Entry
  more = new_entries m later

  abbrev from : NamedItems
  from = (snapshot_of choose history).book

  abbrev to : NamedItems
  to = (snapshot_of choose (history ++ order ∷ [])).book

  abbrev old : IndexTable
  old = shelved m.force m.catalog

  abbrev new : IndexTable
  new = shelved later.force later.catalog

  abbrev said : List Item
  said = shelf_items m later

  leads : Leads later.catalog.ledger more old new from (replay said from)
  leads =
      shelves_lead later.catalog.ledger more old new from
      (seen_differ later.force later.catalog.indexes (in_order_after choose (history ++ order ∷ [])).indexes)
      (seen_rise m.force m.catalog.indexes (sound_after choose history))
      (seen_rise later.force later.catalog.indexes (sound_after choose (history ++ order ∷ [])))
      (keeps_indexes choose history (order ∷ []) m.force later.force)
      (left_stand choose history m.force)

  at_buckets : (index : List ℕ) (id : ℕ) → to (named 6 index id) ≡ replay said from (named 6 index id)
  at_buckets index id = left_stand choose (history ++ order ∷ []) later.force index id ∙ sym (leads.buckets index id)

  at_entries : (index : List ℕ) (id : ℕ) → to (named 8 index id) ≡ replay said from (named 8 index id)
  at_entries index id =
      let grows = ledger_grows choose history (order ∷ []) in
      let whole = whole_after choose (history ++ order ∷ []) in
      left_entries choose (history ++ order ∷ []) index id
      ∙ sym (entries_lead later index id more from (all_entered later m.catalog.ledger more whole grows)
      (λ none. left_entries choose history index id
      ∙ ap (option_map items.Ledger) (entry_stays m later more index id (whole_after choose history) whole grows
      (followed choose history (order ∷ []) index) none)))
      ∙ sym (leads.entries (named 8 index id) refl)

  -- ---- the counts and the number of the next file

  before_counts : (text : List ℕ) (number : ℕ) → is_same (named 9 [] 0) (named 9 text number) ≡ false → (h : List TimedCommand) →
      (snapshot_of choose h).book (named 9 text number) ≡ None
  before_counts text number other [] = refl
  before_counts text number other (o ∷ h) = rw other refl

  before_file : (text : List ℕ) (number : ℕ) → is_same (named 11 [] 0) (named 11 text number) ≡ false → (h : List TimedCommand) →
      (snapshot_of choose h).book (named 11 text number) ≡ None
  before_file text number other [] = refl
  before_file text number other (o ∷ h) = rw other refl

  at_counts : (text : List ℕ) (number : ℕ) → to (named 9 text number) ≡ replay said from (named 9 text number)
  at_counts text number = by_test (is_same (named 9 [] 0) (named 9 text number))
      (λ t. subst (λ (n : Name). to n ≡ replay said from n) (same_name (named 9 [] 0) (named 9 text number) t)
      (ap (λ s. s.book (named 9 [] 0)) (left_more choose history order) ∙ sym leads.counts))
      (λ t. before_counts text number t (history ++ order ∷ []) ∙ sym (before_counts text number t history)
      ∙ sym (none_under said (named 9 text number) from (none_counts later.catalog.ledger more old new text number t)))

  at_file : (text : List ℕ) (number : ℕ) → to (named 11 text number) ≡ replay said from (named 11 text number)
  at_file text number = by_test (is_same (named 11 [] 0) (named 11 text number))
      (λ t. subst (λ (n : Name). to n ≡ replay said from n) (same_name (named 11 [] 0) (named 11 text number) t)
      (ap (λ s. s.book (named 11 [] 0)) (left_more choose history order) ∙ sym leads.file))
      (λ t. before_file text number t (history ++ order ∷ []) ∙ sym (before_file text number t history)
      ∙ sym (none_under said (named 11 text number) from (none_file later.catalog.ledger more old new text number t)))

  -- ---- the numbers of next buckets

  before_next : (text : List ℕ) (number : ℕ) (h : List TimedCommand) → (snapshot_of choose h).book (named 13 text (suc number)) ≡ None
  before_next text number [] = refl
  before_next text number (o ∷ h) =
      ap (λ (t : Bool). if t then option_map number_item (find index_name text (state_after choose (o ∷ h)).catalog.indexes) else None)
      (other_zero number)

  -- where no listed bucket of an index changes, it has as many as before
  as_many : (name : List ℕ) → buckets (slots_in m.catalog.indexes name) ≡ buckets (slots_in later.catalog.indexes name) →
      length (slots_in m.catalog.indexes name) ≡ length (slots_in later.catalog.indexes name)
  as_many name same = by order.command (ap (λ (x : State). x) (after_push choose history order))
    where
      moment : ℤ
      moment = effective m.last order.moment

      numbers_same : later.catalog.ledger ≡ m.catalog.ledger →
          length (slots_in m.catalog.indexes name) ≡ length (slots_in later.catalog.indexes name)
      numbers_same ledger =
          sym (next_number_is m.catalog name (all_after choose history) (in_order_after choose history).indexes)
          ∙ ap (λ (bs : List Bucket). next_number name bs m.catalog.ledger) same
          ∙ ap (λ (es : List Entry). next_number name (buckets (slots_in later.catalog.indexes name)) es) (sym ledger)
          ∙ next_number_is later.catalog name (all_after choose (history ++ order ∷ []))
          (in_order_after choose (history ++ order ∷ [])).indexes

      by : (c : Command) → later ≡ stepped choose m c moment →
          length (slots_in m.catalog.indexes name) ≡ length (slots_in later.catalog.indexes name)
      by Tick e =
          sym (turn_keeps m.force moment m.catalog.next_file m.catalog.indexes name)
          ∙ ap (λ (x : State). length (slots_in x.catalog.indexes name)) (sym e)
      by (Begin channel meta) e = numbers_same (ap (λ (x : State). x.catalog.ledger) e
          ∙ ticks_alone choose m (Begin channel meta) moment (λ q. cc))
      by (Block channel bytes spot) e = numbers_same (ap (λ (x : State). x.catalog.ledger) e
          ∙ ticks_alone choose m (Block channel bytes spot) moment (λ q. cc))
      by (End channel) e = numbers_same (ap (λ (x : State). x.catalog.ledger) e ∙ ticks_alone choose m (End channel) moment (λ q. cc))
      by (Roll index) e = numbers_same (ap (λ (x : State). x.catalog.ledger) e ∙ ticks_alone choose m (Roll index) moment (λ q. cc))
      by (Thaw index id) e = numbers_same (ap (λ (x : State). x.catalog.ledger) e ∙ ticks_alone choose m (Thaw index id) moment (λ q. cc))
      by (Configure config) e = numbers_same (ap (λ (x : State). x.catalog.ledger) e
          ∙ ticks_alone choose m (Configure config) moment (λ q. cc))
      by (Direct events) e = numbers_same (ap (λ (x : State). x.catalog.ledger) e ∙ ticks_alone choose m (Direct events) moment (λ q. cc))

  nothing_left : (name : List ℕ) → slots_in later.catalog.indexes name ≡ [] → slots_in m.catalog.indexes name ≡ []
  nothing_left name e = none_follow (slots_in m.catalog.indexes name) (slots_in later.catalog.indexes name)
      (followed choose history (order ∷ []) name) e

  some_slots : (h : List TimedCommand) (name : List ℕ) (i : Index) → find index_name name (state_after choose h).catalog.indexes ≡ Some i →
      0 < length i.slots
  some_slots h name i e = all_found HasSome index_name name i (state_after choose h).catalog.indexes (some_after choose h) e

  found_slots : (is : List Index) (name : List ℕ) (o : Option Index) → find index_name name is ≡ o →
      slots_in is name ≡ (unwrap_or o (fresh_index name)).slots
  found_slots is name o e = ap (λ (x : Option Index). (unwrap_or x (fresh_index name)).slots) e

  -- an index that has no bucket now had none before
  none_before : (name : List ℕ) → find index_name name later.catalog.indexes ≡ None → find index_name name m.catalog.indexes ≡ None
  none_before name e = by (find index_name name m.catalog.indexes) refl
    where
      by : (o : Option Index) → find index_name name m.catalog.indexes ≡ o → find index_name name m.catalog.indexes ≡ None
      by None k = k
      by (Some i) k =
          let s = some_slots history name i k in
          let n : i.slots ≡ [] = sym (found_slots m.catalog.indexes name (Some i) k)
          ∙ nothing_left name (found_slots later.catalog.indexes name None e) in
          let l = ap (λ (xs : List Slot). length xs) n in
          absurd (omega (arith, s, l))

  -- what stood for an index whose listed buckets have not changed
  stood_before : (name : List ℕ) (j : Index) → find index_name name later.catalog.indexes ≡ Some j →
      buckets (slots_in m.catalog.indexes name) ≡ buckets j.slots →
      option_map number_item (find index_name name m.catalog.indexes) ≡ Some (number_item j)
  stood_before name j e same = by (find index_name name m.catalog.indexes) refl
    where
      many : length (slots_in m.catalog.indexes name) ≡ length j.slots
      many =
          as_many name (same ∙ ap buckets (sym (found_slots later.catalog.indexes name (Some j) e)))
          ∙ ap (λ (xs : List Slot). length xs) (found_slots later.catalog.indexes name (Some j) e)

      by : (o : Option Index) → find index_name name m.catalog.indexes ≡ o → option_map number_item o ≡ Some (number_item j)
      by None k =
          let s = some_slots (history ++ order ∷ []) name j e in
          let l = ap (λ (xs : List Slot). length xs) (found_slots m.catalog.indexes name None k) in
          let n = many in
          absurd (omega (arith, s, l, n))
      by (Some i) k =
          let n : i.name ≡ j.name = found_name index_name name i m.catalog.indexes k
          ∙ sym (found_name index_name name j later.catalog.indexes e) in
          let l : length i.slots ≡ length j.slots = sym (ap (λ (xs : List Slot). length xs) (found_slots m.catalog.indexes name (Some i) k))
          ∙ many in
          λ x. Some (items.NextId (n x) (l x))

  number_said : (name : List ℕ) (j : Index) → find index_name name later.catalog.indexes ≡ Some j →
      number_after later.catalog.ledger old.indexes (Some (index_view later.force j))
      (option_map number_item (find index_name name m.catalog.indexes)) ≡ Some (number_item j)
  number_said name j e = by (changed j.name (buckets_in j.name old.indexes) (buckets j.slots)) refl
    where
      title : j.name ≡ name
      title = found_name index_name name j later.catalog.indexes e

      number : next_number j.name (buckets j.slots) later.catalog.ledger ≡ length j.slots
      number =
          ap (λ (n : List ℕ). next_number n (buckets j.slots) later.catalog.ledger) title
          ∙ ap (λ (xs : List Slot). next_number name (buckets xs) later.catalog.ledger)
          (sym (found_slots later.catalog.indexes name (Some j) e))
          ∙ next_number_is later.catalog name (all_after choose (history ++ order ∷ []))
          (in_order_after choose (history ++ order ∷ [])).indexes
          ∙ ap (λ (xs : List Slot). length xs) (found_slots later.catalog.indexes name (Some j) e)

      by : (xs : List Item) → changed j.name (buckets_in j.name old.indexes) (buckets j.slots) ≡ xs →
          number_left j.name (next_number j.name (buckets j.slots) later.catalog.ledger) xs
          (option_map number_item (find index_name name m.catalog.indexes)) ≡ Some (number_item j)
      by [] k =
          let same : buckets (slots_in m.catalog.indexes name) ≡ buckets j.slots =
          sym (seen_buckets m.force m.catalog.indexes name) ∙ ap (λ (n : List ℕ). buckets_in n old.indexes) (sym title)
          ∙ nothing_changed j.name (buckets_in j.name old.indexes) (buckets j.slots) k in
          stood_before name j e same
      by (x ∷ xs) k = ap (λ (n : ℕ). Some (items.NextId j.name n)) number

  fresh_said : (name : List ℕ) (b : Bool) → find index_name name later.catalog.indexes ≡ None →
      number_after later.catalog.ledger old.indexes (option_map (index_view later.force) (or_fresh b name None)) None ≡ None
  fresh_said name false e = refl
  fresh_said name true e =
      ap (λ (bs : List Bucket). number_left name (next_number name [] later.catalog.ledger) (changed name bs []) None)
      (seen_buckets m.force m.catalog.indexes name ∙ ap buckets (nothing_left name (found_slots later.catalog.indexes name None e)))

  at_next : (name : List ℕ) → to (named 13 name 0) ≡ replay said from (named 13 name 0)
  at_next name =
      left_numbers choose (history ++ order ∷ []) name
      ∙ sym (by (find index_name name later.catalog.indexes) refl)
      ∙ sym (ap (λ (o : Option IndexView). number_after later.catalog.ledger old.indexes o
      (option_map number_item (find index_name name m.catalog.indexes))) (seen_by later.force later.catalog.indexes name))
      ∙ sym (ap (number_after later.catalog.ledger old.indexes (find view_name name new.indexes)) (left_numbers choose history name))
      ∙ sym (leads.next name)
    where
      by : (o : Option Index) → find index_name name later.catalog.indexes ≡ o →
          number_after later.catalog.ledger old.indexes
          (option_map (index_view later.force) (or_fresh (among (configured later.force) name) name
          (find index_name name later.catalog.indexes)))
          (option_map number_item (find index_name name m.catalog.indexes))
          ≡ option_map number_item (find index_name name later.catalog.indexes)
      by (Some j) e = rw e (number_said name j e)
      by None e = rw e (rw (none_before name e) (fresh_said name (among (configured later.force) name) e))

  at_number : (text : List ℕ) (number : ℕ) → to (named 13 text number) ≡ replay said from (named 13 text number)
  at_number text zero = at_next text
  at_number text (suc number) =
      before_next text number (history ++ order ∷ []) ∙ sym (before_next text number history)
      ∙ sym (none_under said (named 13 text (suc number)) from (none_next later.catalog.ledger more old new text number))

  at_all : (name : Name) → is_shelf_kind name.kind ≡ true → to name ≡ replay said from name
  at_all name is =
      by_test (6 == name.kind) (λ t. at_kind P 6 at_buckets name (eqb-true 6 name.kind t)) (λ t6.
      by_test (8 == name.kind) (λ t. at_kind P 8 at_entries name (eqb-true 8 name.kind t)) (λ t8.
      by_test (9 == name.kind) (λ t. at_kind P 9 at_counts name (eqb-true 9 name.kind t)) (λ t9.
      by_test (11 == name.kind) (λ t. at_kind P 11 at_file name (eqb-true 11 name.kind t)) (λ t11.
      at_kind P 13 at_number name (eqb-true 13 name.kind (rw (t6, t8, t9, t11) at is))))))
    where
      P : Name → Type 0
      P n = to n ≡ replay said from n

pub shelves_are_said : ShelvesAreSaid
shelves_are_said choose history order = record {
  own = all_own (later choose history order).catalog.ledger (more choose history order) (old choose history order)
      (new choose history order);
  lead = at_all choose history order;
}
