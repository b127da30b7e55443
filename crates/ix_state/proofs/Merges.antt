-- What is kept of merged entries merges to them again.
use Rattle.std.proofs.Common.{◌≡◌, ℕ, Bool, true, false, List, [], ◌∷◌, map, Option, Some, None, refl, sym, ap, ◌∙◌, subst, arith}
use Rattle.std.specs.Prelude.{bytes_eq, ◌&&◌, ◌||◌, ◌==◌, if◌then◌else◌, length}
use Rattle.std.specs.Option.{option_map, option_or}
use Rattle.std.specs.List.{AllByRecursion}
use Rattle.std.proofs.lemmas.Bool.Decides.{nat_tests}
use Rattle.std.proofs.lemmas.Slice.Eq.{bytes_eq-Decides}
use Rattle.ix_conf.specs.Value.{AreMerged, is_at, entry_at, in_file, in_layers, said_by, own, IsBefore, IsAscending}
use Rattle.ix_conf.specs.declared.entries.Entry.{Entry}
use Rattle.ix_conf.specs.declared.entries.Entry.TheVariants.{Stanza, Pair}
use Rattle.ix_conf.specs.declared.layers.Layer.{Layer}
use Rattle.ix_conf.specs.declared.layers.MergedEntry.{MergedEntry}
use Rattle.ix_conf.proofs.MergeLemmas.{absent_behind, or_none}
use Rattle.ix_life.proofs.RetiredLemmas.{merged_stanzas}
use Rattle.ix_model.specs.Given.{entry}
use Rattle.ix_state.specs.Configs.{said}
use Rattle.ix_state.specs.Files.{layer_of}
use Rattle.ix_state.specs.Keeping.{kept_as}
use Rattle.ix_state.proofs.Alike.{layered, found_layered, ascending_layered}
use Rattle.ix_state.proofs.OneMerge.{own_place}

abbrev pub no_layer : MergedEntry → List ℕ
no_layer e = []

abbrev pub bare : MergedEntry → MergedEntry
bare e = layered no_layer e

same_bytes : (a b : List ℕ) → bytes_eq a b ≡ true → a ≡ b
same_bytes a b h = (bytes_eq-Decides a b).0 h

pub entries_kept : (n : ℕ) (xs : List MergedEntry) → map entry (map (kept_as n) xs) ≡ map (layered no_layer) xs
entries_kept n [] = refl
entries_kept n (x ∷ xs) = ap (λ l. bare x ∷ l) (entries_kept n xs)

-- ---- what a kept entry says

some_key : (c : ℕ) (key : List ℕ) → (length (c ∷ key) == 0) ≡ false
some_key c key = grind (arith, nat_tests)

keyed_one : (n : ℕ) (stanza own_key value s : List ℕ) (b : ℕ) (k : List ℕ) (t : Bool) → bytes_eq s stanza ≡ t
    → entry_at s (b ∷ k) (said_by [] (said (record { file = n; stanza = stanza; key = own_key; value = value })))
    ≡ (if bytes_eq s stanza && bytes_eq (b ∷ k) own_key then Some (record { stanza = stanza; key = own_key; value = value; layer = [] })
    else None)
keyed_one n stanza [] value s b k true e = rw e refl
keyed_one n stanza [] value s b k false e = rw e refl
keyed_one n stanza (c ∷ own_key) value s b k true e = rw (some_key c own_key, e) refl
keyed_one n stanza (c ∷ own_key) value s b k false e = rw (some_key c own_key, e) refl

own_one : (n : ℕ) (stanza own_key value s : List ℕ) (t : Bool) → bytes_eq s stanza ≡ t
    → entry_at s [] (said_by [] (said (record { file = n; stanza = stanza; key = own_key; value = value }))) ≡ (if bytes_eq s stanza then
    Some (own stanza) else None)
own_one n stanza [] value s true e = rw e refl
own_one n stanza [] value s false e = rw e refl
own_one n stanza (c ∷ own_key) value s true e = rw (some_key c own_key, e) refl
own_one n stanza (c ∷ own_key) value s false e = rw (some_key c own_key, e) refl

abbrev kept_file : ℕ → List MergedEntry → List Entry
kept_file n xs = map said (map (kept_as n) xs)

absent_bare : (s k : List ℕ) (x : MergedEntry) (xs : List MergedEntry) → is_at s k x ≡ true → AllByRecursion (IsBefore x) xs
    → entry_at s k (map (layered no_layer) xs) ≡ None
absent_bare s k x xs here before =
    found_layered no_layer xs s k ∙ ap (λ (o : Option MergedEntry). option_map (layered no_layer) o) (absent_behind s k x xs here before)

keyed_step : (t : Bool) (x : MergedEntry) (rest found : Option MergedEntry) → rest ≡ found → (t ≡ true → found ≡ None)
    → option_or rest (if t then Some x else None) ≡ (if t then Some x else found)
keyed_step true x rest found e none = ap (λ (o : Option MergedEntry). option_or o (Some x)) (e ∙ none refl)
keyed_step false x rest found e none = or_none rest ∙ e

keyed : (n : ℕ) (xs : List MergedEntry) (s : List ℕ) (b : ℕ) (k : List ℕ) → IsAscending xs
    → in_file s (b ∷ k) [] (kept_file n xs) ≡ entry_at s (b ∷ k) (map (layered no_layer) xs)
keyed n [] s b k asc = refl
keyed n (x ∷ xs) s b k asc =
    ap (λ (o : Option MergedEntry). option_or (in_file s (b ∷ k) [] (kept_file n xs)) o)
    (keyed_one n x.stanza x.key x.value s b k (bytes_eq s x.stanza) refl)
    ∙ keyed_step (is_at s (b ∷ k) x) (bare x) (in_file s (b ∷ k) [] (kept_file n xs)) (entry_at s (b ∷ k) (map (layered no_layer) xs))
    (keyed n xs s b k asc.1)
    (λ here. absent_bare s (b ∷ k) x xs here asc.0)

-- ---- stanzas

abbrev has_stanza : List ℕ → List MergedEntry → Bool
has_stanza s [] = false
has_stanza s (x ∷ xs) = bytes_eq s x.stanza || has_stanza s xs

own_step : (s : List ℕ) (stanza : List ℕ) (t h : Bool) (rest : Option MergedEntry) → bytes_eq s stanza ≡ t →
    rest ≡ (if h then Some (own s) else None)
    → option_or rest (if bytes_eq s stanza then Some (own stanza) else None) ≡ (if bytes_eq s stanza || h then Some (own s) else None)
own_step s stanza true true rest e r = rw (e, r) refl
own_step s stanza true false rest e r = rw (e, r) (ap (λ z. Some (own z)) (sym (same_bytes s stanza e)))
own_step s stanza false h rest e r = rw e (or_none rest ∙ r)

stanza_file : (n : ℕ) (xs : List MergedEntry) (s : List ℕ) →
    in_file s [] [] (kept_file n xs) ≡ (if has_stanza s xs then Some (own s) else None)
stanza_file n [] s = refl
stanza_file n (x ∷ xs) s =
    ap (λ (o : Option MergedEntry). option_or (in_file s [] [] (kept_file n xs)) o)
    (own_one n x.stanza x.key x.value s (bytes_eq s x.stanza) refl)
    ∙ own_step s x.stanza (bytes_eq s x.stanza) (has_stanza s xs) (in_file s [] [] (kept_file n xs)) refl (stanza_file n xs s)

has_found : (xs : List MergedEntry) (s k : List ℕ) (e : MergedEntry) → entry_at s k xs ≡ Some e → has_stanza s xs ≡ true
has_found [] s k e h = cc
has_found (x ∷ xs) s k e h = by (bytes_eq s x.stanza) refl (has_found xs s k e)
  where
    by : (t : Bool) → bytes_eq s x.stanza ≡ t → (entry_at s k xs ≡ Some e → has_stanza s xs ≡ true) → has_stanza s (x ∷ xs) ≡ true
    by true at again = rw at refl
    by false at again = rw at (again (rw at at h))

has_none : (xs : List MergedEntry) (s : List ℕ) → ((k : List ℕ) → entry_at s k xs ≡ None) → has_stanza s xs ≡ false
has_none [] s none = refl
has_none (x ∷ xs) s none = by (bytes_eq s x.stanza) refl (has_none xs s)
  where
    there : bytes_eq s x.stanza ≡ true → entry_at s x.key (x ∷ xs) ≡ Some x
    there at = rw (ap (λ z. is_at z x.key x) (same_bytes s x.stanza at) ∙ own_place x) refl

    by : (t : Bool) → bytes_eq s x.stanza ≡ t → (((k : List ℕ) → entry_at s k xs ≡ None) → has_stanza s xs ≡ false) →
        has_stanza s (x ∷ xs) ≡ false
    by true at again = absurd (never (sym (there at) ∙ none x.key))
      where
        never : Some x ≡ None → ⊥
        never e = cc
    by false at again = rw at (again (λ k. rw at at (none k)))

-- ---- a stanza's own entry is bare

either : {R : Type 0} (a b : Option MergedEntry) (e : MergedEntry) → option_or a b ≡ Some e → (a ≡ Some e → R) → (b ≡ Some e → R) → R
either None b e h left right = right h
either (Some x) b e h left right = left h

own_at : (name s : List ℕ) (e : MergedEntry) (t : Bool) → bytes_eq s name ≡ t
    → (if t && true then Some (own name) else None) ≡ Some e → e ≡ own s
own_at name s e true at h = some h ∙ ap own (sym (same_bytes s name at))
  where
    some : Some (own name) ≡ Some e → e ≡ own name
    some h = cc
own_at name s e false at h = cc

own_pair : (name s : List ℕ) (x e : MergedEntry) (t : Bool) → bytes_eq s name ≡ t
    → (if t && true then Some (own name) else if t && false then Some x else None) ≡ Some e → e ≡ own s
own_pair name s x e true at h = some h ∙ ap own (sym (same_bytes s name at))
  where
    some : Some (own name) ≡ Some e → e ≡ own name
    some h = cc
own_pair name s x e false at h = cc

own_said : (layer s : List ℕ) (x : Entry) (e : MergedEntry) → entry_at s [] (said_by layer x) ≡ Some e → e ≡ own s
own_said layer s (Stanza name) e h = own_at name s e (bytes_eq s name) refl h
own_said layer s (Pair name [] value) e h = own_at name s e (bytes_eq s name) refl h
own_said layer s (Pair name (b ∷ key) value) e h =
    own_pair name s (record { stanza = name; key = b ∷ key; value = value; layer = layer }) e (bytes_eq s name) refl h

own_file : (layer s : List ℕ) (file : List Entry) (e : MergedEntry) → in_file s [] layer file ≡ Some e → e ≡ own s
own_file layer s [] e h = cc
own_file layer s (x ∷ xs) e h =
    either (in_file s [] layer xs) (entry_at s [] (said_by layer x)) e h (own_file layer s xs e) (own_said layer s x e)

own_layers : (s : List ℕ) (layers : List Layer) (e : MergedEntry) → in_layers s [] layers ≡ Some e → e ≡ own s
own_layers s [] e h = cc
own_layers s (l ∷ ls) e h = either (in_file s [] l.name l.file) (in_layers s [] ls) e h (own_file l.name s l.file e) (own_layers s ls e)

-- ---- the whole file

pub file_found : (n : ℕ) (layers : List Layer) (xs : List MergedEntry) → AreMerged layers xs → (s k : List ℕ)
    → entry_at s k (map (layered no_layer) xs) ≡ in_file s k [] (kept_file n xs)
file_found n layers xs merged s (b ∷ k) = sym (keyed n xs s b k merged.ascending)
file_found n layers xs merged s [] = by (entry_at s [] xs) refl
  where
    by : (o : Option MergedEntry) → entry_at s [] xs ≡ o → entry_at s [] (map (layered no_layer) xs) ≡ in_file s [] [] (kept_file n xs)
    by (Some e) at =
        let here : e ≡ own s = own_layers s layers e (sym (merged.entry s []) ∙ at) in
        found_layered no_layer xs s [] ∙ ap (λ (o : Option MergedEntry). option_map (layered no_layer) o) (at ∙ ap (λ z. Some z) here)
        ∙ sym (stanza_file n xs s ∙ ap (λ (t : Bool). if t then Some (own s) else None) (has_found xs s [] e at))
    by None at =
        found_layered no_layer xs s [] ∙ ap (λ (o : Option MergedEntry). option_map (layered no_layer) o) at
        ∙ sym (stanza_file n xs s ∙ ap (λ (t : Bool). if t then Some (own s) else None)
        (has_none xs s (λ k. merged_stanzas layers xs merged s k at)))

pub kept_whole : (n : ℕ) (layers : List Layer) (xs : List MergedEntry) → AreMerged layers xs
    → AreMerged (layer_of (map (kept_as n) xs) ∷ []) (map entry (map (kept_as n) xs))
kept_whole n layers xs merged =
    subst (λ (m : List MergedEntry). AreMerged (layer_of (map (kept_as n) xs) ∷ []) m) (sym (entries_kept n xs)) (record {
      ascending = ascending_layered no_layer xs merged.ascending;
      entry = λ s k. file_found n layers xs merged s k ∙ sym (or_none (in_file s k [] (kept_file n xs)));
    })
