-- The indexes that are seen are those that are configured and those that ever had a bucket.
use Rattle.std.proofs.Common.{◌≡◌, ℕ, Bool, true, false, List, [], ◌∷◌, ◌++◌, map, refl, sym, ap, ◌∙◌, subst}
use Rattle.std.specs.Prelude.{Option, Some, None, is_some, ◌||◌, ◌&&◌, codes, bytes_eq, fold}
use Rattle.std.specs.List.{flat_map}
use Rattle.std.specs.Option.{option_map}
use Rattle.std.proofs.lemmas.List.{map-append}
use Rattle.ix_conf.specs.Value.{is_at, entry_at}
use Rattle.ix_conf.specs.declared.layers.MergedEntry.{MergedEntry}
use Rattle.ix_items.specs.declared.items.Kept.{Kept}
use Rattle.ix_life.specs.Listed.{listed_with, listed_at, main_of, listed}
use Rattle.ix_life.specs.Stanzas.{is_index_stanza, is_index}
use Rattle.ix_life.specs.declared.sets.IndexLimits.{IndexLimits}
use Rattle.ix_model.specs.Buckets.{Index}
use Rattle.ix_model.specs.Given.{entries, is_configured}
use Rattle.ix_model.specs.Shown.{configured, with_fresh, index_view}
use Rattle.ix_model.specs.State.{index_name}
use Rattle.ix_model.proofs.Named.{by_test, same_bytes, bytes_same}
use Rattle.ix_catalog.specs.Lists.{find}
use Rattle.ix_catalog.specs.Shelves.{view_name}
use Rattle.ix_model.specs.Shelved.{shelved_indexes}
use Rattle.ix_model.proofs.Homes.{listed_index}
use Rattle.ix_model.proofs.Listing.{among, or_fresh, find_fresh}
use Rattle.ix_model.proofs.Names.{find_map}

false_true : false ≡ true → ⊥
false_true e = cc

both_true : (a b : Bool) → a ≡ true → b ≡ true → (a && b) ≡ true
both_true true b g h = h
both_true false b g h = absurd (false_true g)

either_true : (a b : Bool) → b ≡ true → (a || b) ≡ true
either_true true b h = refl
either_true false b h = h

-- ---- names that are listed

abbrev names : List IndexLimits → List (List ℕ)
names xs = map (λ (x : IndexLimits). x.name) xs

among_one_of : {R : Type 0} (xs ys : List (List ℕ)) (name : List ℕ) → among (xs ++ ys) name ≡ true → (among xs name ≡ true → R) →
    (among ys name ≡ true → R) → R
among_one_of [] ys name h left right = right h
among_one_of (x ∷ xs) ys name h left right =
    by_test (bytes_eq x name)
    (λ t. left (rw t refl))
    (λ t. among_one_of xs ys name (rw t at h) (λ k. left (rw t k)) right)

alone : (stanza name : List ℕ) → among (stanza ∷ []) name ≡ true → stanza ≡ name
alone stanza name h = by_test (bytes_eq stanza name) (λ t. same_bytes stanza name t) (λ t. absurd (false_true (rw t at h)))

own_entry : (name : List ℕ) (x : MergedEntry) → name ≡ x.stanza → [] ≡ x.key → is_at name [] x ≡ true
own_entry name x s k = both_true (bytes_eq name x.stanza) (bytes_eq [] x.key) (bytes_same name x.stanza s) (bytes_same [] x.key k)

listed_here : (all : List MergedEntry) (x : MergedEntry) (name key : List ℕ) → x.key ≡ key →
    among (names (listed_with all x key)) name ≡ true →
    (is_index_stanza name ≡ true) × (is_at name [] x ≡ true)
listed_here all x name [] e h =
    by_test (is_index_stanza x.stanza)
    (λ t. (let s : x.stanza ≡ name = alone x.stanza name (rw t at h) in
    (ap is_index_stanza (sym s) ∙ t, own_entry name x (sym s) (sym e))))
    (λ t. absurd (false_true (rw t at h)))
listed_here all x name (b ∷ key) e h = absurd (false_true h)

own_is : (all es : List MergedEntry) (name : List ℕ) → among (names (flat_map (listed_at all) es)) name ≡ true →
    (is_index_stanza name ≡ true) × (is_some (entry_at name [] es) ≡ true)
own_is all [] name h = absurd (false_true h)
own_is all (x ∷ es) name h =
    among_one_of (names (listed_at all x)) (names (flat_map (listed_at all) es)) name
    (subst (λ (l : List (List ℕ)). among l name ≡ true)
    (map-append (λ (y : IndexLimits). y.name) (listed_at all x) (flat_map (listed_at all) es)) h)
    (λ k. (let both = listed_here all x name x.key refl k in (both.0, rw both.1 refl)))
    (λ k. (let both = own_is all es name k in
    (both.0, by_test (is_at name [] x) (λ t. rw t refl) (λ t. rw t both.1))))

main_is : (es : List MergedEntry) (name : List ℕ) (o : Option MergedEntry) → entry_at (codes "main") [] es ≡ o →
    among (names (main_of es)) name ≡ true →
    bytes_eq name (codes "main") ≡ true
main_is es name (Some e) k h = absurd (false_true (rw k at h))
main_is es name None k h = bytes_same name (codes "main") (sym (alone (codes "main") name (rw k at h)))

is_listed : (es : List MergedEntry) (name : List ℕ) → among (names (listed es)) name ≡ true → is_index es name ≡ true
is_listed es name h =
    among_one_of (names (flat_map (listed_at es) es)) (names (main_of es)) name
    (subst (λ (l : List (List ℕ)). among l name ≡ true) (map-append (λ (y : IndexLimits). y.name) (flat_map (listed_at es) es) (main_of es))
    h)
    (λ k. (let both = own_is es es name k in
    either_true (bytes_eq name (codes "main")) (is_index_stanza name && is_some (entry_at name [] es))
    (both_true (is_index_stanza name) (is_some (entry_at name [] es)) both.0 both.1)))
    (λ k. main_first (bytes_eq name (codes "main")) (is_index_stanza name && is_some (entry_at name [] es))
    (main_is es name (entry_at (codes "main") [] es) refl k))
  where
    main_first : (a b : Bool) → a ≡ true → (a || b) ≡ true
    main_first true b e = refl
    main_first false b e = absurd (false_true e)

among_is : (force : List Kept) (name : List ℕ) → among (configured force) name ≡ is_configured force name
among_is force name =
    by_test (is_index (entries force) name)
    (λ t. listed_index (entries force) name t ∙ sym t)
    (λ t. by_test (among (configured force) name)
    (λ u. absurd (false_true (sym t ∙ is_listed (entries force) name u)))
    (λ u. u ∙ sym t))

-- ---- what is seen of an index

pub seen_is : (force : List Kept) (is : List Index) (name : List ℕ) →
    find view_name name (shelved_indexes force is) ≡ option_map (index_view force)
    (or_fresh (is_configured force name) name (find index_name name is))
seen_is force is name =
    find_map index_name view_name (index_view force) (λ i. refl) name (fold with_fresh is (configured force))
    ∙ ap (option_map (index_view force)) (find_fresh (configured force) is name
    ∙ ap (λ (b : Bool). or_fresh b name (find index_name name is)) (among_is force name))

pub known_is : (force : List Kept) (name : List ℕ) (b : Bool) (o : Option Index) →
    is_some (option_map (index_view force) (or_fresh b name o)) ≡ (b || is_some o)
known_is force name true (Some i) = refl
known_is force name false (Some i) = refl
known_is force name true None = refl
known_is force name false None = refl
