-- Layers of files merge to entries, whatever they say.
use Rattle.std.proofs.Common.{◌≡◌, ℕ, List, [], ◌∷◌, refl, sym, ap, ◌∙◌, Ordering}
use Rattle.std.specs.Prelude.{Option}
use Rattle.std.specs.Option.{option_or}
use Rattle.std.specs.List.{AllByRecursion}
use Rattle.std.specs.declared.cmp.Ordering.TheVariants.{Less, Equal, Greater}
use Rattle.ix_conf.specs.Value.{place, place_cmp, is_at, entry_at, said_by, in_file, in_layers, IsBefore, IsAscending, AreMerged}
use Rattle.ix_conf.specs.declared.entries.Entry.{Entry}
use Rattle.ix_conf.specs.declared.layers.Layer.{Layer}
use Rattle.ix_conf.specs.declared.layers.MergedEntry.{MergedEntry}
use Rattle.ix_conf.proofs.MergeLemmas.{absent_behind, same_place, turned_before, all_before, or_assoc, or_none, entry_append}
use Rattle.ix_model.proofs.Named.{by_test}

-- an entry among others in order, where none stands in its place
abbrev put_by : Ordering → MergedEntry → MergedEntry → List MergedEntry → List MergedEntry → List MergedEntry
put_by Less e x xs more = e ∷ x ∷ xs
put_by Equal e x xs more = x ∷ xs
put_by Greater e x xs more = x ∷ more

abbrev put : MergedEntry → List MergedEntry → List MergedEntry
put e [] = e ∷ []
put e (x ∷ xs) = put_by (place_cmp (place e) (place x)) e x xs (put e xs)

all_by : (P : MergedEntry → Type 0) (o : Ordering) (e x : MergedEntry) (xs more : List MergedEntry) → P e → AllByRecursion P (x ∷ xs) →
    AllByRecursion P more →
    AllByRecursion P (put_by o e x xs more)
all_by P Less e x xs more p h m = (p, h)
all_by P Equal e x xs more p h m = h
all_by P Greater e x xs more p h m = (h.0, m)

all_put : (P : MergedEntry → Type 0) (e : MergedEntry) (xs : List MergedEntry) → P e → AllByRecursion P xs → AllByRecursion P (put e xs)
all_put P e [] p h = (p, tt)
all_put P e (x ∷ xs) p h = all_by P (place_cmp (place e) (place x)) e x xs (put e xs) p h (all_put P e xs p h.1)

ascending_by : (o : Ordering) (e x : MergedEntry) (xs : List MergedEntry) → place_cmp (place e) (place x) ≡ o → IsAscending (x ∷ xs) →
    IsAscending (put e xs) →
    IsAscending (put_by o e x xs (put e xs))
ascending_by Less e x xs is h m = ((is, all_before e x xs is h.0), h)
ascending_by Equal e x xs is h m = h
ascending_by Greater e x xs is h m = (all_put (IsBefore x) e xs (turned_before e x is) h.0, m)

ascending_put : (e : MergedEntry) (xs : List MergedEntry) → IsAscending xs → IsAscending (put e xs)
ascending_put e [] h = (tt, tt)
ascending_put e (x ∷ xs) h = ascending_by (place_cmp (place e) (place x)) e x xs refl h (ascending_put e xs h.1)

module _ (stanza key : List ℕ) where
  abbrev alone : MergedEntry → Option MergedEntry
  alone e = entry_at stanza key (e ∷ [])

  entry_by : (o : Ordering) (e x : MergedEntry) (xs : List MergedEntry) → place_cmp (place e) (place x) ≡ o → IsAscending (x ∷ xs) →
      entry_at stanza key (put e xs) ≡ option_or (entry_at stanza key xs) (alone e) →
      entry_at stanza key (put_by o e x xs (put e xs)) ≡ option_or (entry_at stanza key (x ∷ xs)) (alone e)
  entry_by Less e x xs is h ih =
      by_test (is_at stanza key e)
      (λ t. rw (t, absent_behind stanza key e (x ∷ xs) t (is, all_before e x xs is h.0)) refl)
      (λ t. rw t (sym (or_none (entry_at stanza key (x ∷ xs)))))
  entry_by Equal e x xs is h ih =
      by_test (is_at stanza key x)
      (λ t. rw t refl)
      (λ t. rw (t, same_place stanza key e x is ∙ t) (sym (or_none (entry_at stanza key xs))))
  entry_by Greater e x xs is h ih =
      by_test (is_at stanza key x)
      (λ t. rw t refl)
      (λ t. rw t ih)

  entry_put : (e : MergedEntry) (xs : List MergedEntry) → IsAscending xs →
      entry_at stanza key (put e xs) ≡ option_or (entry_at stanza key xs) (alone e)
  entry_put e [] h = refl
  entry_put e (x ∷ xs) h = entry_by (place_cmp (place e) (place x)) e x xs refl h (entry_put e xs h.1)

-- ---- all that is said

record AreFound (found : List ℕ → List ℕ → Option MergedEntry) : Type 0 where
  entries : List MergedEntry
  ascending : IsAscending entries
  entry : (stanza key : List ℕ) → entry_at stanza key entries ≡ found stanza key

-- with more behind them
with_more : (found : List ℕ → List ℕ → Option MergedEntry) (es : List MergedEntry) → AreFound found →
    AreFound (λ stanza key. option_or (found stanza key) (entry_at stanza key es))
with_more found [] h = record {
  entries = h.entries;
  ascending = h.ascending;
  entry = λ stanza key. h.entry stanza key
      ∙ sym (or_none (found stanza key));
}
with_more found (e ∷ es) h =
    let first : AreFound (λ stanza key. option_or (found stanza key) (entry_at stanza key (e ∷ []))) = record {
      entries = put e h.entries;
      ascending = ascending_put e h.entries h.ascending;
      entry = λ stanza key.
          entry_put stanza key e h.entries h.ascending
          ∙ ap (λ (o : Option MergedEntry). option_or o (entry_at stanza key (e ∷ []))) (h.entry stanza key);
    } in
    let rest = with_more (λ stanza key. option_or (found stanza key) (entry_at stanza key (e ∷ []))) es first in
    record {
      entries = rest.entries;
      ascending = rest.ascending;
      entry = λ stanza key.
          rest.entry stanza key
          ∙ or_assoc (found stanza key) (entry_at stanza key (e ∷ [])) (entry_at stanza key es)
          ∙ ap (λ (o : Option MergedEntry). option_or (found stanza key) o) (sym (entry_append stanza key (e ∷ []) es));
    }

of_file : (layer : List ℕ) (file : List Entry) → AreFound (λ stanza key. in_file stanza key layer file)
of_file layer [] = record { entries = []; ascending = tt; entry = λ stanza key. refl }
of_file layer (e ∷ file) = with_more (λ stanza key. in_file stanza key layer file) (said_by layer e) (of_file layer file)

of_layers : (layers : List Layer) → AreFound (λ stanza key. in_layers stanza key layers)
of_layers [] = record { entries = []; ascending = tt; entry = λ stanza key. refl }
of_layers (layer ∷ layers) =
    let rest = of_layers layers in
    let all = with_more (λ stanza key. in_file stanza key layer.name layer.file) rest.entries (of_file layer.name layer.file) in
    record {
      entries = all.entries;
      ascending = all.ascending;
      entry = λ stanza key.
          all.entry stanza key
          ∙ ap (λ (o : Option MergedEntry). option_or (in_file stanza key layer.name layer.file) o) (rest.entry stanza key);
    }

pub merged_exist : (layers : List Layer) → (entries : List MergedEntry) × AreMerged layers entries
merged_exist layers =
    let all = of_layers layers in
    (all.entries, record { ascending = all.ascending; entry = all.entry })
