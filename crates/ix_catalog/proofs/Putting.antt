-- What several elements give is put behind items, one after the other.
use Rattle.std.proofs.Common.{◌≡◌, ℕ, ◌+◌, ◌<◌, ◌≤◌, List, [], ◌∷◌, ◌++◌, sym, ap, subst, ◌∙◌, length, take, get_or, append-nil}
use Rattle.std.proofs.Common.{append_assoc}
use Rattle.std.specs.List.{flat_map, AllByRecursion}
use Rattle.std.proofs.lemmas.List.{take_more, take_all}
use Rattle.std.proofs.lemmas.List.Concat.{flat_map-append}
use Rattle.ix_items.specs.Spelling.{HasSpelling}
use Rattle.ix_items.specs.declared.items.Item.{Item}
use Rattle.ix_catalog.specs.Changes.{IsPut}
use Rattle.ix_catalog.proofs.Merging.{all_behind}

-- what one element more gives
pub gives_more : {X Y : Type 0} (give : X → List Y) (xs : List X) (i : ℕ) (d : X) → i < length xs →
    flat_map give (take (i + 1) xs) ≡ flat_map give (take i xs) ++ give (get_or xs i d)
gives_more give xs i d within =
    ap (flat_map give) (take_more xs i d within) ∙ flat_map-append give (take i xs) (get_or xs i d ∷ [])
    ∙ ap (λ l. flat_map give (take i xs) ++ l) (append-nil (give (get_or xs i d)))

pub put_more : {X : Type 0} (give : X → List Item) (xs : List X) (i : ℕ) (x : X) (start before after : List Item) → i < length xs →
    x ≡ get_or xs i x → IsPut give xs i start before
    → after ≡ before ++ give x → AllByRecursion HasSpelling (give x) → IsPut give xs (i + 1) start after
put_more give xs i x start before after within is so_far put proper =
    let done = flat_map give (take i xs) in
    let more : flat_map give (take (i + 1) xs) ≡ done ++ give x = gives_more give xs i x within ∙ ap (λ y. done ++ give y) (sym is) in
    record {
      put = put ∙ ap (λ l. l ++ give x) so_far.put ∙ append_assoc start done (give x) ∙ ap (λ l. start ++ l) (sym more);
      proper = subst (AllByRecursion HasSpelling) (sym more) (all_behind HasSpelling done (give x) so_far.proper proper);
    }

pub put_all : {X : Type 0} (give : X → List Item) (xs : List X) (i : ℕ) (start after : List Item) → length xs ≤ i →
    IsPut give xs i start after
    → (after ≡ start ++ flat_map give xs) × AllByRecursion HasSpelling (flat_map give xs)
put_all give xs i start after past p =
    let is : take i xs ≡ xs = take_all i xs past in
    (p.put ∙ ap (λ l. start ++ flat_map give l) is, subst (λ l. AllByRecursion HasSpelling (flat_map give l)) is p.proper)
