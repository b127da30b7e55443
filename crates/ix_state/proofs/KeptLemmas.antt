-- What is kept of files of settings gives the values that were read of them.
use Rattle.std.proofs.Common.{◌≡◌, ℕ, ◌≤◌, Bool, true, false, List, [], ◌∷◌, ◌++◌, map, Option, Some, None, refl, sym, ap, ◌∙◌, subst}
use Rattle.std.proofs.Common.{length, arith}
use Rattle.std.specs.Prelude.{is_some, bytes_eq, ◌==◌, if◌then◌else◌}
use Rattle.std.specs.Option.{option_map, option_or}
use Rattle.std.specs.List.{AllByRecursion}
use Rattle.std.proofs.lemmas.Bool.{and_parts}
use Rattle.std.proofs.lemmas.List.{append-nil}
use Rattle.std.proofs.lemmas.Slice.Eq.{bytes_eq-Decides}
use Rattle.ix_conf.specs.Value.{AreMerged, is_at, entry_at, in_file, in_layers, said_by, own}
use Rattle.ix_conf.specs.declared.entries.Entry.{Entry}
use Rattle.ix_conf.specs.declared.entries.Entry.TheVariants.{Stanza, Pair}
use Rattle.ix_conf.specs.declared.layers.Layer.{Layer}
use Rattle.ix_conf.specs.declared.layers.MergedEntry.{MergedEntry}
use Rattle.ix_conf.proofs.MergeLemmas.{layers_append}
use Rattle.ix_items.specs.declared.items.Kept.{Kept}
use Rattle.ix_life.specs.Limits.{AreLimits, first_fault}
use Rattle.ix_model.specs.Given.{entry}
use Rattle.ix_state.specs.Configs.{kept_in, layer_in, built_in, IsWhole, AreByFile, AreInOrder, AreProps}
use Rattle.ix_state.specs.Files.{layer_of, HaveNames}
use Rattle.ix_state.specs.Keeping.{kept_as, all_kept, stanza_of, HasNames, AreLayersOf, KeptIsConfig}
use Rattle.ix_state.proofs.Alike.{layered, found_layered, ascending_layered, alike_layered, fault_layered, set_layered}
use Rattle.ix_state.proofs.Merges.{no_layer, bare, entries_kept, file_found, kept_whole}
use Rattle.ix_state.proofs.Moves.{read_move}
use Rattle.ix_state.proofs.OneMerge.{own_place}

-- ---- file by file

kept_append : (n : ℕ) (xs ys : List Kept) → kept_in n (xs ++ ys) ≡ kept_in n xs ++ kept_in n ys
kept_append n [] ys = refl
kept_append n (x ∷ xs) ys = by (x.file == n) refl (kept_append n xs ys)
  where
    by : (b : Bool) → (x.file == n) ≡ b → kept_in n (xs ++ ys) ≡ kept_in n xs ++ kept_in n ys →
        kept_in n (x ∷ xs ++ ys) ≡ kept_in n (x ∷ xs) ++ kept_in n ys
    by true e again = rw e (ap (λ l. x ∷ l) again)
    by false e again = rw e again

own_kept : (m n : ℕ) → (m == n) ≡ true → (xs : List MergedEntry) → kept_in n (map (kept_as m) xs) ≡ map (kept_as m) xs
own_kept m n e [] = refl
own_kept m n e (x ∷ xs) = rw e (ap (λ l. kept_as m x ∷ l) (own_kept m n e xs))

other_kept : (m n : ℕ) → (m == n) ≡ false → (xs : List MergedEntry) → kept_in n (map (kept_as m) xs) ≡ []
other_kept m n e [] = refl
other_kept m n e (x ∷ xs) = rw e (other_kept m n e xs)

each_kept : (n : ℕ) (p t i z : List MergedEntry) → kept_in n (all_kept p t i z)
    ≡ kept_in n (map (kept_as 1) p) ++ (kept_in n (map (kept_as 2) t) ++ (kept_in n (map (kept_as 3) i) ++ kept_in n (map (kept_as 4) z)))
each_kept n p t i z =
    let a = map (kept_as 1) p in
    let b = map (kept_as 2) t in
    let c = map (kept_as 3) i in
    let d = map (kept_as 4) z in
    kept_append n a (b ++ (c ++ d))
    ∙ ap (λ l. kept_in n a ++ l) (kept_append n b (c ++ d) ∙ ap (λ l. kept_in n b ++ l) (kept_append n c d))

props_kept : (p t i z : List MergedEntry) → kept_in 1 (all_kept p t i z) ≡ map (kept_as 1) p
props_kept p t i z =
    each_kept 1 p t i z ∙ rw (
      own_kept 1 1 refl p,
      other_kept 2 1 refl t,
      other_kept 3 1 refl i,
      other_kept 4 1 refl z,
    ) (append-nil (map (kept_as 1) p))

transforms_kept : (p t i z : List MergedEntry) → kept_in 2 (all_kept p t i z) ≡ map (kept_as 2) t
transforms_kept p t i z =
    each_kept 2 p t i z ∙ rw (
      other_kept 1 2 refl p,
      own_kept 2 2 refl t,
      other_kept 3 2 refl i,
      other_kept 4 2 refl z,
    ) (append-nil (map (kept_as 2) t))

indexes_kept : (p t i z : List MergedEntry) → kept_in 3 (all_kept p t i z) ≡ map (kept_as 3) i
indexes_kept p t i z =
    each_kept 3 p t i z ∙ rw (
      other_kept 1 3 refl p,
      other_kept 2 3 refl t,
      own_kept 3 3 refl i,
      other_kept 4 3 refl z,
    ) (append-nil (map (kept_as 3) i))

zones_kept : (p t i z : List MergedEntry) → kept_in 4 (all_kept p t i z) ≡ map (kept_as 4) z
zones_kept p t i z =
    each_kept 4 p t i z ∙ rw (other_kept 1 4 refl p, other_kept 2 4 refl t, other_kept 3 4 refl i, own_kept 4 4 refl z) refl

by_file_then : (m n : ℕ) → m ≤ n → n ≤ 4 → (xs : List MergedEntry) (ys : List Kept) → AreByFile n ys →
    AreByFile m (map (kept_as n) xs ++ ys)
by_file_then m n l h [] ys later = lower m n l ys later
  where
    lower : (m n : ℕ) → m ≤ n → (ys : List Kept) → AreByFile n ys → AreByFile m ys
    lower m n l [] later = tt
    lower m n l (y ∷ ys) later = let first = later.0.0 in ((omega (arith, first), later.0.1), later.1)
by_file_then m n l h (x ∷ xs) ys later = ((l, h), by_file_then n n (omega arith) h xs ys later)

by_file_all : (p t i z : List MergedEntry) → AreByFile 1 (all_kept p t i z)
by_file_all p t i z =
    by_file_then 1 1 (omega arith) (omega arith) p (map (kept_as 2) t ++ (map (kept_as 3) i ++ map (kept_as 4) z))
    (by_file_then 1 2 (omega arith) (omega arith) t (map (kept_as 3) i ++ map (kept_as 4) z)
    (by_file_then 2 3 (omega arith) (omega arith) i (map (kept_as 4) z)
    (subst (λ (l : List Kept). AreByFile 3 l) (append-nil (map (kept_as 4) z)) (by_file_then 3 4 (omega arith) (omega arith) z [] tt))))

whole : (n : ℕ) (force : List Kept) (layers : List Layer) (xs : List MergedEntry) → AreMerged layers xs →
    kept_in n force ≡ map (kept_as n) xs → IsWhole n force
whole n force layers xs merged same =
    subst (λ (l : List Kept). AreMerged (layer_of l ∷ []) (map entry l)) (sym same) (kept_whole n layers xs merged)

-- ---- names

same_bytes : (a b : List ℕ) → bytes_eq a b ≡ true → a ≡ b
same_bytes a b h = (bytes_eq-Decides a b).0 h

abbrev IsShort : List ℕ → Type 0
IsShort name = length name ≤ 1024

abbrev ShortFound : Option MergedEntry → List ℕ → Type 0
ShortFound found s = (e : MergedEntry) → found ≡ Some e → IsShort s

found_own : (s k : List ℕ) (name : List ℕ) (more : List MergedEntry) (t : Bool) → bytes_eq s name ≡ t → IsShort name →
    (t ≡ false → ShortFound (entry_at s k more) s)
    → ShortFound (entry_at s k (own name ∷ more)) s
found_own s k name more true e short later = λ x h. subst IsShort (sym (same_bytes s name e)) short
found_own s k name more false e short later = λ x h. later refl x (rw e at h)

found_pair : (s k : List ℕ) (x : MergedEntry) → IsShort x.stanza → (t : Bool) → bytes_eq s x.stanza ≡ t →
    ShortFound (entry_at s k (x ∷ [])) s
found_pair s k x short true e = λ y h. subst IsShort (sym (same_bytes s x.stanza e)) short
found_pair s k x short false e = λ y h. cc (rw e at h)

found_none : (s k : List ℕ) → ShortFound (entry_at s k []) s
found_none s k = λ x h. cc

short_said : (layer s k : List ℕ) (x : Entry) → IsShort (stanza_of x) → ShortFound (entry_at s k (said_by layer x)) s
short_said layer s k (Stanza name) short = found_own s k name [] (bytes_eq s name) refl short (λ t. found_none s k)
short_said layer s k (Pair name [] value) short = found_own s k name [] (bytes_eq s name) refl short (λ t. found_none s k)
short_said layer s k (Pair name (b ∷ key) value) short =
    let x : MergedEntry = record { stanza = name; key = b ∷ key; value = value; layer = layer } in
    found_own s k name (x ∷ []) (bytes_eq s name) refl short (λ t. found_pair s k x short (bytes_eq s name) refl)

either : (s : List ℕ) (a b : Option MergedEntry) → ShortFound a s → ShortFound b s → ShortFound (option_or a b) s
either s None b left right = right
either s (Some x) b left right = left

short_file : (layer s k : List ℕ) (file : List Entry) → AllByRecursion (λ (x : Entry). length (stanza_of x) ≤ 1024) file →
    ShortFound (in_file s k layer file) s
short_file layer s k [] short = λ x h. cc
short_file layer s k (x ∷ xs) short =
    either s (in_file s k layer xs) (entry_at s k (said_by layer x)) (short_file layer s k xs short.1) (short_said layer s k x short.0)

short_layers : (s k : List ℕ) (layers : List Layer) → AllByRecursion HasNames layers → ShortFound (in_layers s k layers) s
short_layers s k [] short = λ x h. cc
short_layers s k (l ∷ ls) short =
    either s (in_file s k l.name l.file) (in_layers s k ls) (short_file l.name s k l.file short.0) (short_layers s k ls short.1)

names_found : (n : ℕ) (xs : List MergedEntry) → ((s k : List ℕ) → ShortFound (entry_at s k xs) s) → HaveNames (map (kept_as n) xs)
names_found n [] found = tt
names_found n (x ∷ xs) found = (found x.stanza x.key x (rw (own_place x) refl), names_found n xs (λ s k. later s k (is_at s k x) refl))
  where
    later : (s k : List ℕ) (t : Bool) → is_at s k x ≡ t → ShortFound (entry_at s k xs) s
    later s k true e = λ y h. found s k x (rw e refl)
    later s k false e = λ y h. found s k y (rw e h)

names_layers : (n : ℕ) (layers : List Layer) (xs : List MergedEntry) → AreLayersOf layers xs → HaveNames (map (kept_as n) xs)
names_layers n layers xs are =
    names_found n xs (λ s k. subst (λ (o : Option MergedEntry). ShortFound o s) (sym (are.merged.entry s k))
    (short_layers s k layers are.names))

names_append : (xs ys : List Kept) → HaveNames xs → HaveNames ys → HaveNames (xs ++ ys)
names_append [] ys h g = g
names_append (x ∷ xs) ys h g = (h.0, names_append xs ys h.1 g)

-- ---- zones

-- the entries of the files are of no named layer, and the built-in ones keep theirs
abbrev of_files : List MergedEntry → MergedEntry → List ℕ
of_files files e = if is_some (entry_at e.stanza e.key files) then [] else e.layer

place_is : (s k : List ℕ) (xs : List MergedEntry) (x : MergedEntry) → entry_at s k xs ≡ Some x → (s ≡ x.stanza) × (k ≡ x.key)
place_is s k [] x h = cc
place_is s k (y ∷ ys) x h = by (is_at s k y) refl (place_is s k ys x)
  where
    some : Some y ≡ Some x → y ≡ x
    some e = cc

    by : (t : Bool) → is_at s k y ≡ t → (entry_at s k ys ≡ Some x → (s ≡ x.stanza) × (k ≡ x.key)) → (s ≡ x.stanza) × (k ≡ x.key)
    by true e again =
        let both = and_parts (bytes_eq s y.stanza) (bytes_eq k y.key) e in
        let same = some (rw e at h) in (
          same_bytes s y.stanza both.0 ∙ ap (λ (z : MergedEntry). z.stanza) same,
          same_bytes k y.key both.1
              ∙ ap (λ (z : MergedEntry). z.key) same,
        )
    by false e again = again (rw e at h)

layer_here : (files : List MergedEntry) (s k : List ℕ) (x : MergedEntry) (o : Option MergedEntry) → (s ≡ x.stanza) × (k ≡ x.key) →
    entry_at s k files ≡ o
    → layered (of_files files) x ≡ (if is_some o then bare x else x)
layer_here files s k x (Some y) at e =
    let here : entry_at x.stanza x.key files ≡ Some y = ap (λ z. entry_at z x.key files) (sym at.0)
    ∙ ap (λ z. entry_at s z files) (sym at.1) ∙ e in
    rw here refl
layer_here files s k x None at e =
    let here : entry_at x.stanza x.key files ≡ None = ap (λ z. entry_at z x.key files) (sym at.0) ∙ ap (λ z. entry_at s z files) (sym at.1)
    ∙ e in
    rw here refl

zone_found : (layers : List Layer) (files zones : List MergedEntry) → AreMerged layers files → AreMerged (layers ++ built_in ∷ []) zones →
    (s k : List ℕ)
    → entry_at s k (map (layered (of_files files)) zones) ≡ option_or (entry_at s k (map (layered no_layer) files))
    (in_layers s k (built_in ∷ []))
zone_found layers files zones own_merged merged s k = by (entry_at s k files) refl (entry_at s k zones) refl
  where
    whole_is : entry_at s k zones ≡ option_or (entry_at s k files) (in_layers s k (built_in ∷ []))
    whole_is =
        merged.entry s k ∙ layers_append s k layers (built_in ∷ [])
        ∙ ap (λ (o : Option MergedEntry). option_or o (in_layers s k (built_in ∷ []))) (sym (own_merged.entry s k))

    by : (o : Option MergedEntry) → entry_at s k files ≡ o → (p : Option MergedEntry) → entry_at s k zones ≡ p
        → entry_at s k (map (layered (of_files files)) zones) ≡ option_or (entry_at s k (map (layered no_layer) files))
        (in_layers s k (built_in ∷ []))
    by (Some x) e p f =
        let same : entry_at s k zones ≡ Some x = whole_is
        ∙ ap (λ (o : Option MergedEntry). option_or o (in_layers s k (built_in ∷ []))) e in
        found_layered (of_files files) zones s k ∙ ap (λ (o : Option MergedEntry). option_map (layered (of_files files)) o) same
        ∙ ap (λ z. Some z) (layer_here files s k x (Some x) (place_is s k zones x same) e)
        ∙ sym (ap (λ (o : Option MergedEntry). option_or o (in_layers s k (built_in ∷ []))) (found_layered no_layer files s k
        ∙ ap (λ (o : Option MergedEntry). option_map (layered no_layer) o) e))
    by None e None f =
        found_layered (of_files files) zones s k ∙ ap (λ (o : Option MergedEntry). option_map (layered (of_files files)) o) f
        ∙ sym f ∙ whole_is ∙ ap (λ (o : Option MergedEntry). option_or o (in_layers s k (built_in ∷ []))) (e
        ∙ sym (found_layered no_layer files s k
        ∙ ap (λ (o : Option MergedEntry). option_map (layered no_layer) o) e))
    by None e (Some y) f =
        found_layered (of_files files) zones s k ∙ ap (λ (o : Option MergedEntry). option_map (layered (of_files files)) o) f
        ∙ ap (λ z. Some z) (layer_here files s k y None (place_is s k zones y f) e)
        ∙ sym f ∙ whole_is ∙ ap (λ (o : Option MergedEntry). option_or o (in_layers s k (built_in ∷ []))) (e
        ∙ sym (found_layered no_layer files s k
        ∙ ap (λ (o : Option MergedEntry). option_map (layered no_layer) o) e))

zones_merged : (layers : List Layer) (files zones : List MergedEntry) → AreMerged layers files → AreMerged (layers ++ built_in ∷ []) zones
    → AreMerged (layer_of (map (kept_as 4) files) ∷ built_in ∷ []) (map (layered (of_files files)) zones)
zones_merged layers files zones own_merged merged = record {
  ascending = ascending_layered (of_files files) zones merged.ascending;
  entry = λ s k.
      zone_found layers files zones own_merged merged s k
      ∙ ap (λ (o : Option MergedEntry). option_or o (in_layers s k (built_in ∷ []))) (file_found 4 layers files own_merged s k);
}

-- ---- the law

pub kept_config : KeptIsConfig
kept_config props transforms indexes files zones are loaded read set sound limits =
    let force = all_kept props transforms indexes files in
    let in_props = props_kept props transforms indexes files in
    let in_transforms = transforms_kept props transforms indexes files in
    let in_indexes = indexes_kept props transforms indexes files in
    let in_zones = zones_kept props transforms indexes files in
    let order : AreInOrder force = record {
      files = by_file_all props transforms indexes files;
      props = whole 1 force are.props_layers props are.props_are.merged in_props;
      transforms = whole 2 force are.transforms_layers transforms are.transforms_are.merged in_transforms;
      indexes = whole 3 force are.indexes_layers indexes are.indexes_are.merged in_indexes;
      zones = whole 4 force are.zones_layers files are.own_are.merged in_zones;
    } in
    let entries_of : (n : ℕ) (xs : List MergedEntry) → kept_in n force ≡ map (kept_as n) xs →
    map (layered no_layer) xs ≡ map entry (kept_in n force) =
    λ n xs same. sym (ap (map entry) same ∙ entries_kept n xs) in
    let values : AreProps force loaded = record {
      props = map (layered no_layer) props;
      transforms = map (layered no_layer) transforms;
      zones = map (layered (of_files files)) zones;
      props_are = subst (λ (m : List MergedEntry). AreMerged (layer_in 1 force ∷ []) m) (sym (entries_of 1 props in_props)) order.props;
      transforms_are = subst (λ (m : List MergedEntry). AreMerged (layer_in 2 force ∷ []) m) (sym (entries_of 2 transforms in_transforms))
          order.transforms;
      zones_are = subst (λ (l : List Kept). AreMerged (layer_of l ∷ built_in ∷ []) (map (layered (of_files files)) zones)) (sym in_zones)
          (zones_merged are.zones_layers files zones are.own_are.merged are.zones_are);
      read = read_move no_layer transforms zones (map (layered no_layer) transforms) (map (layered (of_files files)) zones)
          (alike_layered no_layer transforms) (alike_layered (of_files files) zones) props loaded read;
    } in
    record {
      order = order;
      stanzas =
          names_append (map (kept_as 1) props) _ (names_layers 1 are.props_layers props are.props_are)
          (names_append (map (kept_as 2) transforms) _ (names_layers 2 are.transforms_layers transforms are.transforms_are)
          (names_append (map (kept_as 3) indexes) (map (kept_as 4) files) (names_layers 3 are.indexes_layers indexes are.indexes_are)
          (names_layers 4 are.zones_layers files are.own_are)));
      props = values;
      limits = record {
        sound = subst (λ (m : List MergedEntry). first_fault m ≡ None) (entries_of 3 indexes in_indexes)
            (sym (fault_layered no_layer indexes) ∙ sound);
        limits = subst (λ (m : List MergedEntry). AreLimits m set) (entries_of 3 indexes in_indexes)
            (set_layered no_layer indexes set limits);
      };
    }
