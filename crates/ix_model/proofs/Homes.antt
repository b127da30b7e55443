-- Where events go, by a set of limits and by the settings in force; and that this is an index that
-- is configured.
use Rattle.std.proofs.Common.{◌≡◌, ℕ, Bool, true, false, List, [], ◌∷◌, ◌++◌, map, refl, sym, ap, ◌∙◌, subst}
use Rattle.std.specs.Prelude.{Option, Some, None, is_some, if◌then◌else◌, ◌||◌, ◌&&◌, codes, bytes_eq}
use Rattle.std.specs.List.{flat_map}
use Rattle.std.specs.Option.{option_map, option_or}
use Rattle.std.proofs.lemmas.List.{map-append}
use Rattle.ix_conf.specs.Value.{is_at, entry_at}
use Rattle.ix_conf.specs.declared.layers.MergedEntry.{MergedEntry}
use Rattle.ix_items.specs.declared.items.Kept.{Kept}
use Rattle.ix_life.specs.Limits.{is_good, fault_at, value_fault, fault_with, first_of, first_fault, limits_of}
use Rattle.ix_life.specs.Listed.{listed_with, listed_at, main_of, listed}
use Rattle.ix_life.specs.Stanzas.{is_volume, is_index_stanza, is_index}
use Rattle.ix_life.specs.declared.faults.LimitFault.{LimitFault}
use Rattle.ix_life.specs.declared.faults.LimitFault.TheVariants.{BadValue}
use Rattle.ix_life.specs.declared.sets.IndexLimits.{IndexLimits}
use Rattle.ix_life.specs.declared.sets.LimitSet.{LimitSet}
use Rattle.ix_life.specs.declared.sets.Route.TheVariants.{LastChance, Nowhere}
use Rattle.ix_conf_values.specs.Values.{stated, value_of}
use Rattle.ix_model.specs.Given.{entries, is_configured, last_chance}
use Rattle.ix_model.specs.Given as given
use Rattle.ix_model.specs.Shown.{configured}
use Rattle.ix_model.proofs.Named.{by_test, same_bytes, bytes_same}
use Rattle.ix_catalog.specs.Dealing.{home_by, home}
use Rattle.ix_model.specs.Shelved.{IsSet}
use Rattle.ix_model.proofs.Listing.{among}

none_some : {X : Type 0} {x : X} → None ≡ Some x → ⊥
none_some e = cc

some_same : {X : Type 0} {x y : X} → Some x ≡ Some y → x ≡ y
some_same e = cc

both_are : (a b : Bool) → (a && b) ≡ true → (a ≡ true) × (b ≡ true)
both_are true b e = (refl, e)
both_are false b e = absurd (f e)
  where
    f : false ≡ true → ⊥
    f h = cc

-- ---- the indexes that are configured

among_left : (xs ys : List (List ℕ)) (name : List ℕ) → among xs name ≡ true → among (xs ++ ys) name ≡ true
among_left [] ys name h = absurd (f h)
  where
    f : false ≡ true → ⊥
    f e = cc
among_left (x ∷ xs) ys name h = by_test (bytes_eq x name) (λ t. rw t refl) (λ t. rw t (among_left xs ys name (rw t at h)))

among_right : (xs ys : List (List ℕ)) (name : List ℕ) → among ys name ≡ true → among (xs ++ ys) name ≡ true
among_right [] ys name h = h
among_right (x ∷ xs) ys name h = by_test (bytes_eq x name) (λ t. rw t refl) (λ t. rw t (among_right xs ys name h))

abbrev names : List IndexLimits → List (List ℕ)
names xs = map (λ (x : IndexLimits). x.name) xs

abbrev own_names : List MergedEntry → List (List ℕ)
own_names es = names (flat_map (listed_at es) es)

one_named : (name other : List ℕ) → name ≡ other → among (name ∷ []) other ≡ true
one_named name other e = rw (bytes_same name other e) refl

own_listed : (all es : List MergedEntry) (name : List ℕ) (e : MergedEntry) → entry_at name [] es ≡ Some e → is_index_stanza name ≡ true →
    among (names (flat_map (listed_at all) es)) name ≡ true
own_listed all [] name e h i = absurd (none_some h)
own_listed all (x ∷ es) name e h i =
    subst (λ (l : List (List ℕ)). among l name ≡ true) (sym
    (map-append (λ (y : IndexLimits). y.name) (listed_at all x) (flat_map (listed_at all) es)))
    (by_test (is_at name [] x)
    (λ t. among_left (names (listed_at all x)) (names (flat_map (listed_at all) es)) name (here t))
    (λ t. among_right (names (listed_at all x)) (names (flat_map (listed_at all) es)) name (own_listed all es name e (rw t at h) i)))
  where
    here : is_at name [] x ≡ true → among (names (listed_at all x)) name ≡ true
    here t =
        let both = both_are (bytes_eq name x.stanza) (bytes_eq [] x.key) t in
        let stanza : name ≡ x.stanza = same_bytes name x.stanza both.0 in
        let key : [] ≡ x.key = same_bytes [] x.key both.1 in
        subst (λ (k : List ℕ). among (names (listed_with all x k)) name ≡ true) key
        (rw (ap is_index_stanza (sym stanza) ∙ i) (one_named x.stanza name (sym stanza)))

pub listed_index : (es : List MergedEntry) (name : List ℕ) → is_index es name ≡ true → among (names (listed es)) name ≡ true
listed_index es name h =
    subst (λ (l : List (List ℕ)). among l name ≡ true) (sym
    (map-append (λ (y : IndexLimits). y.name) (flat_map (listed_at es) es) (main_of es)))
    (by_test (bytes_eq name (codes "main"))
    (λ t. main_listed (sym (same_bytes name (codes "main") t)) (entry_at (codes "main") [] es) refl)
    (λ t. (let both = both_are (is_index_stanza name) (is_some (entry_at name [] es)) (rw t at h) in
    other_listed both.0 (entry_at name [] es) refl both.1)))
  where
    main_listed : codes "main" ≡ name → (o : Option MergedEntry) → entry_at (codes "main") [] es ≡ o →
        among (own_names es ++ names (main_of es)) name ≡ true
    main_listed n (Some e) k =
        among_left (own_names es) (names (main_of es)) name
        (subst (λ (m : List ℕ). among (own_names es) m ≡ true) n (own_listed es es (codes "main") e k refl))
    main_listed n None k =
        among_right (own_names es) (names (main_of es)) name (rw k (one_named (codes "main") name n))

    other_listed : is_index_stanza name ≡ true → (o : Option MergedEntry) → entry_at name [] es ≡ o → is_some o ≡ true →
        among (own_names es ++ names (main_of es)) name ≡ true
    other_listed i (Some e) k s = among_left (own_names es) (names (main_of es)) name (own_listed es es name e k i)
    other_listed i None k s = absurd (f s)
      where
        f : false ≡ true → ⊥
        f q = cc

-- ---- the last chance is an index

no_fault_here : (all es : List MergedEntry) (stanza key : List ℕ) (e : MergedEntry) → first_of all es ≡ None →
    entry_at stanza key es ≡ Some e →
    (fault_at all e ≡ None) × (is_at stanza key e ≡ true)
no_fault_here all [] stanza key e n h = absurd (none_some h)
no_fault_here all (x ∷ es) stanza key e n h =
    let both = neither (fault_at all x) (first_of all es) n in
    by_test (is_at stanza key x)
    (λ t. (let same : x ≡ e = some_same (rw t at h) in
    (ap (fault_at all) (sym same) ∙ both.0, ap (is_at stanza key) (sym same) ∙ t)))
    (λ t. no_fault_here all es stanza key e both.1 (rw t at h))
  where
    neither : (a b : Option LimitFault) → option_or a b ≡ None → (a ≡ None) × (b ≡ None)
    neither None b m = (refl, m)
    neither (Some f) b m = absurd (none_some (sym m))

abbrev fault_by : List MergedEntry → List ℕ → List ℕ → List ℕ → Option LimitFault
fault_by all stanza key value = if is_volume stanza || is_good all stanza key value then None else Some (BadValue stanza key)

no_fault_passes : (b : Bool) (f : LimitFault) → (if b then None else Some f) ≡ None → b ≡ true
no_fault_passes true f h = refl
no_fault_passes false f h = absurd (none_some (sym h))

chance_by : (all : List MergedEntry) (e : MergedEntry) (value name : List ℕ) → e.value ≡ value → fault_at all e ≡ None →
    is_at (codes "default") (codes "lastChanceIndex") e ≡ true →
    stated (Some value) ≡ Some name → is_index all name ≡ true
chance_by all e [] name v n t h = absurd (none_some h)
chance_by all e (b ∷ bs) name v n t h =
    let both = both_are (bytes_eq (codes "default") e.stanza) (bytes_eq (codes "lastChanceIndex") e.key) t in
    let stanza : codes "default" ≡ e.stanza = same_bytes (codes "default") e.stanza both.0 in
    let key : codes "lastChanceIndex" ≡ e.key = same_bytes (codes "lastChanceIndex") e.key both.1 in
    let value_good : value_fault all e ≡ None = subst (λ (k : List ℕ). fault_with all e k ≡ None) (sym key) n in
    let good : fault_by all (codes "default") (codes "lastChanceIndex") (b ∷ bs) ≡ None =
    ap (λ (s : List ℕ). fault_by all s (codes "lastChanceIndex") (b ∷ bs)) stanza
    ∙ ap (λ (k : List ℕ). fault_by all e.stanza k (b ∷ bs)) key
    ∙ ap (λ (u : List ℕ). fault_by all e.stanza e.key u) (sym v)
    ∙ value_good in
    subst (λ (m : List ℕ). is_index all m ≡ true) (some_same h)
    (no_fault_passes (is_index all (b ∷ bs)) (BadValue (codes "default") (codes "lastChanceIndex")) good)

abbrev value_by : Option MergedEntry → Option (List ℕ)
value_by o = option_map (λ (x : List ℕ × List ℕ). x.0) (option_map (λ (entry : MergedEntry). (entry.value, entry.layer)) o)

chance_is_index : (all : List MergedEntry) (name : List ℕ) → first_fault all ≡ None →
    value_of all (codes "default") (codes "lastChanceIndex") ≡ Some name → is_index all name ≡ true
chance_is_index all name n h = by (entry_at (codes "default") (codes "lastChanceIndex") all) refl h
  where
    by : (o : Option MergedEntry) → entry_at (codes "default") (codes "lastChanceIndex") all ≡ o →
        stated (option_or (value_by o) (value_by o)) ≡ Some name → is_index all name ≡ true
    by None e k = absurd (none_some k)
    by (Some entry) e k =
        let both = no_fault_here all all (codes "default") (codes "lastChanceIndex") entry n e in
        chance_by all entry entry.value name refl both.0 both.1 k

-- ---- homes

pub home_same : (force : List Kept) (set : LimitSet) (index : List ℕ) → IsSet force set → home set index ≡ given.home force index
home_same force set index h =
    by_test (is_index (entries force) index)
    (λ t. (let given_it : is_some (limits_of set index) ≡ true = ap is_some (h.limits.limits index) ∙ rw t refl in
    rw (given_it, t) refl))
    (λ t. (let not_given : is_some (limits_of set index) ≡ false = ap is_some (h.limits.limits index) ∙ rw t refl in
    rw (not_given, t) (by set.last_chance refl)))
  where
    by : (o : Option (List ℕ)) → set.last_chance ≡ o → home_by (if is_some o then LastChance else Nowhere) set index ≡ last_chance force
    by None e = sym e ∙ h.limits.last_chance
    by (Some name) e = h.limits.last_chance

pub home_listed : (force : List Kept) (set : LimitSet) (index name : List ℕ) → IsSet force set → given.home force index ≡ Some name →
    among (configured force) name ≡ true
home_listed force set index name h e =
    listed_index (entries force) name
    (by_test (is_index (entries force) index)
    (λ t. subst (λ (n : List ℕ). is_index (entries force) n ≡ true) (some_same (rw t at e)) t)
    (λ t. chance_is_index (entries force) name h.sound (rw t at e)))
