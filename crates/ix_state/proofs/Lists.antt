-- What is kept, taken one setting after the other.
use Rattle.std.proofs.Common.{◌≡◌, ℕ, ◌+◌, ◌<◌, Bool, true, false, List, [], ◌∷◌, ◌++◌, map, refl, sym, ap, ◌∙◌, drop, length, get_or}
use Rattle.std.proofs.Common.{append_assoc}
use Rattle.std.specs.Prelude.{◌==◌, Some, None, slice_get}
use Rattle.std.proofs.lemmas.List.{append-nil, drop_more}
use Rattle.ix_conf.specs.declared.entries.Entry.{Entry}
use Rattle.ix_conf.specs.declared.layers.MergedEntry.{MergedEntry}
use Rattle.ix_items.specs.declared.items.Kept.{Kept}
use Rattle.ix_state.specs.Configs.{kept_in, said}
use Rattle.ix_state.specs.Files.{kept_at}
use Rattle.ix_state.specs.Keeping.{kept_as}
use Rattle.ix_life.proofs.ItemLemmas.{drop_at, drop_past}

-- one element more
pub at_drop : {A : Type 0} (xs : List A) (i : ℕ) (x : A) → i < length xs → x ≡ get_or xs i x → drop i xs ≡ x ∷ drop (i + 1) xs
at_drop xs i x l e = drop_more xs i x l ∙ ap (λ y. y ∷ drop (i + 1) xs) (sym e)

-- ---- of one file

kept_first : (file : ℕ) (x : Kept) (xs : List Kept) → kept_in file (x ∷ xs) ≡ kept_at file x ++ kept_in file xs
kept_first file x xs = by (x.file == file) refl
  where
    by : (b : Bool) → (x.file == file) ≡ b → kept_in file (x ∷ xs) ≡ kept_at file x ++ kept_in file xs
    by true e = rw e refl
    by false e = rw e refl

pub kept_more : (file : ℕ) (xs : List Kept) (i : ℕ) (x : Kept) (list list' whole : List Kept) → i < length xs → x ≡ get_or xs i x
    → list' ≡ list ++ kept_at file x → list ++ kept_in file (drop i xs) ≡ whole → list' ++ kept_in file (drop (i + 1) xs) ≡ whole
kept_more file xs i x list list' whole l e more known =
    let rest = kept_in file (drop (i + 1) xs) in
    ap (λ m. m ++ rest) more ∙ append_assoc list (kept_at file x) rest
    ∙ ap (λ m. list ++ m) (sym (kept_first file x (drop (i + 1) xs)) ∙ ap (kept_in file) (sym (at_drop xs i x l e))) ∙ known

pub said_more : (xs : List Kept) (i : ℕ) (x : Kept) (list list' whole : List Entry) → i < length xs → x ≡ get_or xs i x
    → list' ≡ list ++ said x ∷ [] → list ++ map said (drop i xs) ≡ whole → list' ++ map said (drop (i + 1) xs) ≡ whole
said_more xs i x list list' whole l e more known =
    let rest = map said (drop (i + 1) xs) in
    ap (λ m. m ++ rest) more ∙ append_assoc list (said x ∷ []) rest
    ∙ ap (λ m. list ++ map said m) (sym (at_drop xs i x l e)) ∙ known

-- ---- entries of a merged file

pub kept_push : (file : ℕ) (xs : List MergedEntry) (i : ℕ) (x : MergedEntry) (list list' whole : List Kept) → slice_get xs i ≡ Some x
    → list' ≡ list ++ kept_as file x ∷ [] → list ++ map (kept_as file) (drop i xs) ≡ whole → list'
    ++ map (kept_as file) (drop (i + 1) xs) ≡ whole
kept_push file xs i x list list' whole e more known =
    let rest = map (kept_as file) (drop (i + 1) xs) in
    ap (λ m. m ++ rest) more ∙ append_assoc list (kept_as file x ∷ []) rest
    ∙ ap (λ m. list ++ map (kept_as file) m) (sym (drop_at xs i x e)) ∙ known

pub kept_whole : (file : ℕ) (xs : List MergedEntry) (i : ℕ) (list whole : List Kept) → slice_get xs i ≡ None
    → list ++ map (kept_as file) (drop i xs) ≡ whole → list ≡ whole
kept_whole file xs i list whole e known =
    sym (append-nil list) ∙ ap (λ m. list ++ map (kept_as file) m) (sym (drop_past xs i e)) ∙ known
