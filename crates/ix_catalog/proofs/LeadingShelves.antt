-- A book is led from old shelves to new ones.
use Rattle.std.proofs.Common.{◌≡◌, ◌==◌, ◌&&◌, ◌||◌, ℕ, List, [], ◌∷◌, ◌++◌, map, Bool, true, false, refl, sym, ap, ◌∙◌}
use Rattle.std.specs.Prelude.{bytes_eq}
use Rattle.std.specs.List.{flat_map}
use Rattle.std.proofs.lemmas.Bool.{eqb-true}
use Rattle.ix_items.specs.declared.items.Entry.{Entry}
use Rattle.ix_items.specs.declared.items.Item.{Item}
use Rattle.ix_items.specs.declared.items.Item.TheVariants as items
use Rattle.ix_manifest.specs.Book.{Name, NamedItems, NoneUnder, named, replay}
use Rattle.ix_manifest.proofs.Applying.{replay_behind}
use Rattle.ix_manifest.proofs.InPlace.{none_under}
use Rattle.ix_manifest.proofs.Renaming.{replay_at}
use Rattle.ix_catalog.specs.Changes.{index_changes, numbers, changes, ShelvesLead}
use Rattle.ix_catalog.specs.declared.index_table.IndexTable.{IndexTable}
use Rattle.ix_catalog.proofs.LeadingAll.{changes_lead}

or_false : (s t : Bool) → (s || t) ≡ false → (s ≡ false) × (t ≡ false)
or_false true t h = absurd cc
or_false false t h = (refl, h)

entries_elsewhere : (es : List Entry) (name : Name) → (8 == name.kind) ≡ false → NoneUnder name (map items.Ledger es)
entries_elsewhere [] name other = tt
entries_elsewhere (e ∷ es) name other = (
  ap (λ (t : Bool). t && (bytes_eq e.index name.text && (e.id == name.number))) other,
  entries_elsewhere es name other,
)

numbers_elsewhere : (s : IndexTable) (name : Name) → (9 == name.kind) ≡ false → (11 == name.kind) ≡ false → NoneUnder name (numbers s)
numbers_elsewhere s name nine eleven = (
  ap (λ (t : Bool). t && (bytes_eq [] name.text && (0 == name.number))) nine,
  (ap (λ (t : Bool). t && (bytes_eq [] name.text && (0 == name.number))) eleven, tt),
)

module _ (ledger more : List Entry) (old new : IndexTable) (book : NamedItems) where
  abbrev first : List Item
  first = flat_map (index_changes ledger old.indexes) new.indexes

  abbrev after_first : NamedItems
  after_first = replay first book

  abbrev after_second : NamedItems
  after_second = replay (map items.Ledger more) after_first

  whole_is : replay (changes ledger more old new) book ≡ replay (numbers new) after_second
  whole_is = replay_behind (first ++ map items.Ledger more) (numbers new) book
      ∙ ap (replay (numbers new)) (replay_behind first (map items.Ledger more) book)

  -- under a name of another kind the indexes alone count
  by_indexes : (name : Name) → (8 == name.kind) ≡ false → (9 == name.kind) ≡ false → (11 == name.kind) ≡ false →
      replay (changes ledger more old new) book name ≡ after_first name
  by_indexes name eight nine eleven =
      ap (λ (b : NamedItems). b name) whole_is ∙ none_under (numbers new) name after_second (numbers_elsewhere new name nine eleven)
      ∙ none_under (map items.Ledger more) name after_first (entries_elsewhere more name eight)

pub shelves_lead : ShelvesLead
shelves_lead ledger more old new book differ o n keeps stands =
    let led = changes_lead ledger old.indexes new.indexes book differ o n keeps stands in
    let whole = whole_is ledger more old new book in
    let second = after_second ledger more old new book in
    record {
      buckets = λ name id. by_indexes ledger more old new book (named 6 name id) refl refl refl ∙ led.0 name id;
      next = λ name. by_indexes ledger more old new book (named 13 name 0) refl refl refl ∙ led.1 name;
      entries = λ name is.
          let kind : 8 ≡ name.kind = eqb-true 8 name.kind is in
          ap (λ (b : NamedItems). b name) whole ∙ none_under (numbers new) name second
          (numbers_elsewhere new name (ap (λ (k : ℕ). 9 == k) (sym kind)) (ap (λ (k : ℕ). 11 == k) (sym kind)))
          ∙ replay_at (map items.Ledger more) (after_first ledger more old new book) book name
          (led.2 name (ap (λ (k : ℕ). 6 == k) (sym kind)) (ap (λ (k : ℕ). 13 == k) (sym kind)));
      counts = ap (λ (b : NamedItems). b (named 9 [] 0)) whole;
      file = ap (λ (b : NamedItems). b (named 11 [] 0)) whole;
      others = λ name other.
          let six = or_false (6 == name.kind) _ other in
          let eight = or_false (8 == name.kind) _ six.1 in
          let nine = or_false (9 == name.kind) _ eight.1 in
          let eleven = or_false (11 == name.kind) (13 == name.kind) nine.1 in
          by_indexes ledger more old new book name eight.0 nine.0 eleven.0 ∙ led.2 name six.0 eleven.1;
    }
