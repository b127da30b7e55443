-- What the tests of kept settings say.
use Rattle.std.proofs.Common.{◌≡◌, ℕ, ◌+◌, ◌<◌, ◌≤◌, Bool, true, false, ◌&&◌, List, [], ◌∷◌, Option, Some, None, map, refl, sym, ap, ◌∙◌}
use Rattle.std.proofs.Common.{drop, length, get_or, arith, nat_le, drop_of_length-le}
use Rattle.std.specs.Prelude.{slice_get, is_some, is_none, not, bytes_eq}
use Rattle.std.specs.List.{list_all}
use Rattle.std.specs.Option.{option_map}
use Rattle.std.proofs.lemmas.Bool.{and_parts}
use Rattle.std.proofs.lemmas.Bool.Decides.{nat_tests}
use Rattle.std.proofs.lemmas.Slice.Eq.{bytes_eq-Decides}
use Rattle.ix_conf.specs.declared.layers.MergedEntry.{MergedEntry}
use Rattle.ix_items.specs.declared.items.Kept.{Kept}
use Rattle.ix_life.proofs.ItemLemmas.{drop_at, drop_past}
use Rattle.ix_model.specs.Given.{entry}
use Rattle.ix_state.specs.Checks.{has_name, follows, by_file, stands_well, same_entry, same_entries, is_there}
use Rattle.ix_state.specs.Configs.{AreByFile}
use Rattle.ix_state.specs.Files.{HaveNames, StandWell}
use Rattle.ix_state.proofs.Lists.{at_drop}

-- ---- file by file

pub file_more : (file : ℕ) (xs : List Kept) (i : ℕ) (x : Kept) (whole : Bool) → i < length xs → x ≡ get_or xs i x →
    true ≡ follows file x.file
    → by_file file (drop i xs) ≡ whole → by_file x.file (drop (i + 1) xs) ≡ whole
file_more file xs i x whole l e next known =
    sym (ap (λ (b : Bool). b && by_file x.file (drop (i + 1) xs)) (sym next)) ∙ sym (ap (by_file file) (at_drop xs i x l e)) ∙ known

pub file_breaks : (file : ℕ) (xs : List Kept) (i : ℕ) (x : Kept) (whole : Bool) → i < length xs → x ≡ get_or xs i x →
    false ≡ follows file x.file
    → by_file file (drop i xs) ≡ whole → false ≡ whole
file_breaks file xs i x whole l e next known =
    sym (ap (λ (b : Bool). b && by_file x.file (drop (i + 1) xs)) (sym next)) ∙ sym (ap (by_file file) (at_drop xs i x l e)) ∙ known

pub file_end : (file : ℕ) (xs : List Kept) (i : ℕ) (whole : Bool) → length xs ≤ i → by_file file (drop i xs) ≡ whole → true ≡ whole
file_end file xs i whole past known = sym (ap (by_file file) (drop_of_length-le xs past)) ∙ known

le_true : (a b : ℕ) → nat_le a b ≡ true → a ≤ b
le_true a b h = grind (arith, nat_tests)

le_test : (a b : ℕ) → a ≤ b → nat_le a b ≡ true
le_test a b h = grind (arith, nat_tests)

pub are_by_file : (file : ℕ) (xs : List Kept) → by_file file xs ≡ true → AreByFile file xs
are_by_file file [] h = tt
are_by_file file (x ∷ xs) h =
    let both = and_parts (follows file x.file) (by_file x.file xs) h in
    let within = and_parts (nat_le file x.file) (nat_le x.file 4) both.0 in
    ((le_true file x.file within.0, le_true x.file 4 within.1), are_by_file x.file xs both.1)

pub by_file_test : (file : ℕ) (xs : List Kept) → AreByFile file xs → by_file file xs ≡ true
by_file_test file [] h = refl
by_file_test file (x ∷ xs) h = rw (le_test file x.file h.0.0, le_test x.file 4 h.0.1) (by_file_test x.file xs h.1)

-- ---- names

pub are_names : (xs : List Kept) → list_all has_name xs ≡ true → HaveNames xs
are_names [] h = tt
are_names (x ∷ xs) h =
    let both = and_parts (has_name x) (list_all has_name xs) h in (le_true (length x.stanza) 1024 both.0, are_names xs both.1)

pub names_test : (xs : List Kept) → HaveNames xs → list_all has_name xs ≡ true
names_test [] h = refl
names_test (x ∷ xs) h = rw (le_test (length x.stanza) 1024 h.0) (names_test xs h.1)

pub stands_test : (xs : List Kept) → StandWell xs → stands_well xs ≡ true
stands_test xs h = rw (by_file_test 1 xs h.files) (names_test xs h.names)

pub stand_well : (xs : List Kept) → stands_well xs ≡ true → StandWell xs
stand_well xs h =
    let both = and_parts (by_file 1 xs) (list_all has_name xs) h in
    record { files = are_by_file 1 xs both.0; names = are_names xs both.1 }

-- ---- the same entries

pub same_more : (xs : List MergedEntry) (ys : List Kept) (i : ℕ) (y : Kept) (whole : Bool) → i < length ys → y ≡ get_or ys i y
    → true ≡ is_there (slice_get xs i) (entry y) → same_entries (drop i xs) (map entry (drop i ys)) ≡ whole
    → same_entries (drop (i + 1) xs) (map entry (drop (i + 1) ys)) ≡ whole
same_more xs ys i y whole l e there known = by (slice_get xs i) refl there
  where
    by : (o : Option MergedEntry) → slice_get xs i ≡ o → true ≡ is_there o (entry y) →
        same_entries (drop (i + 1) xs) (map entry (drop (i + 1) ys)) ≡ whole
    by None at h = cc
    by (Some x) at h =
        let rest = same_entries (drop (i + 1) xs) (map entry (drop (i + 1) ys)) in
        ap (λ (b : Bool). b && rest) h
        ∙ sym (ap (λ l. same_entries l (map entry (y ∷ drop (i + 1) ys))) (drop_at xs i x at))
        ∙ sym (ap (λ l. same_entries (drop i xs) (map entry l)) (at_drop ys i y l e)) ∙ known

pub same_breaks : (xs : List MergedEntry) (ys : List Kept) (i : ℕ) (y : Kept) (whole : Bool) → i < length ys → y ≡ get_or ys i y
    → false ≡ is_there (slice_get xs i) (entry y) → same_entries (drop i xs) (map entry (drop i ys)) ≡ whole → false ≡ whole
same_breaks xs ys i y whole l e there known = by (slice_get xs i) refl there
  where
    mine : same_entries (drop i xs) (map entry (y ∷ drop (i + 1) ys)) ≡ whole
    mine = sym (ap (λ l. same_entries (drop i xs) (map entry l)) (at_drop ys i y l e)) ∙ known

    by : (o : Option MergedEntry) → slice_get xs i ≡ o → false ≡ is_there o (entry y) → false ≡ whole
    by None at h = sym (ap (λ l. same_entries l (map entry (y ∷ drop (i + 1) ys))) (drop_past xs i at)) ∙ mine
    by (Some x) at h =
        let rest = same_entries (drop (i + 1) xs) (map entry (drop (i + 1) ys)) in
        ap (λ (b : Bool). b && rest) h ∙ sym (ap (λ l. same_entries l (map entry (y ∷ drop (i + 1) ys))) (drop_at xs i x at)) ∙ mine

pub none_mapped : {A B : Type 0} (f : A → B) (o : Option A) (r : Bool) → is_some o ≡ not r → r ≡ is_none (option_map f o)
none_mapped f None true h = refl
none_mapped f None false h = cc
none_mapped f (Some x) true h = cc
none_mapped f (Some x) false h = refl

all_taken : {A : Type 0} (xs : List A) → drop (length xs) xs ≡ []
all_taken [] = refl
all_taken (x ∷ xs) = all_taken xs

pub same_end : (xs : List MergedEntry) (ys : List Kept) (i : ℕ) (whole : Bool) → i ≡ length ys
    → same_entries (drop i xs) (map entry (drop i ys)) ≡ whole → is_none (slice_get xs (length ys)) ≡ whole
same_end xs ys i whole here known = by (slice_get xs (length ys)) refl
  where
    mine : same_entries (drop (length ys) xs) [] ≡ whole
    mine =
        sym (ap (λ l. same_entries (drop (length ys) xs) (map entry l)) (all_taken ys))
        ∙ sym (ap (λ n. same_entries (drop n xs) (map entry (drop n ys))) here) ∙ known

    by : (o : Option MergedEntry) → slice_get xs (length ys) ≡ o → is_none o ≡ whole
    by None at = sym (ap (λ l. same_entries l []) (drop_past xs (length ys) at)) ∙ mine
    by (Some x) at = sym (ap (λ l. same_entries l []) (drop_at xs (length ys) x at)) ∙ mine

same_bytes : (a b : List ℕ) → bytes_eq a b ≡ true → a ≡ b
same_bytes a b h = (bytes_eq-Decides a b).0 h

same_here : (x y : MergedEntry) → same_entry x y ≡ true → x ≡ y
same_here x y h =
    let one = and_parts (bytes_eq x.stanza y.stanza) _ h in
    let two = and_parts (bytes_eq x.key y.key) _ one.1 in
    let three = and_parts (bytes_eq x.value y.value) _ two.1 in
    λ i. record {
      stanza = same_bytes x.stanza y.stanza one.0 i;
      key = same_bytes x.key y.key two.0 i;
      value = same_bytes x.value y.value three.0 i;
      layer = same_bytes x.layer y.layer three.1 i;
    }

pub are_same : (xs ys : List MergedEntry) → same_entries xs ys ≡ true → xs ≡ ys
are_same [] [] h = refl
are_same [] (y ∷ ys) h = cc
are_same (x ∷ xs) [] h = cc
are_same (x ∷ xs) (y ∷ ys) h =
    let both = and_parts (same_entry x y) (same_entries xs ys) h in
    let first : x ≡ y = same_here x y both.0 in
    ap (λ l. x ∷ l) (are_same xs ys both.1) ∙ ap (λ z. z ∷ ys) first

equal_bytes : (a : List ℕ) → bytes_eq a a ≡ true
equal_bytes a = (bytes_eq-Decides a a).1 refl

pub same_test : (xs : List MergedEntry) → same_entries xs xs ≡ true
same_test [] = refl
same_test (x ∷ xs) = rw (equal_bytes x.stanza, equal_bytes x.key, equal_bytes x.value, equal_bytes x.layer) (same_test xs)
