-- What is made of the indexes that ever had a bucket is what is seen of them.
use Rattle.std.proofs.Common.{◌≡◌, ℕ, Bool, true, false, List, [], ◌∷◌, ◌++◌, map, refl, ap, ◌∙◌}
use Rattle.std.specs.Prelude.{Option, Some, None, if◌then◌else◌, is_some, fold, codes}
use Rattle.std.specs.List.{AllByRecursion, AllZip, flat_map}
use Rattle.std.specs.Option.{option_map}
use Rattle.ix_conf.specs.Value.{entry_at}
use Rattle.ix_conf.specs.declared.layers.MergedEntry.{MergedEntry}
use Rattle.ix_items.specs.declared.items.Kept.{Kept}
use Rattle.ix_life.specs.Limits as life
use Rattle.ix_life.specs.Limits.{listed_with, listed_at, main_of, listed, named}
use Rattle.ix_life.specs.Order.{put}
use Rattle.ix_life.specs.Stanzas.{is_index_stanza}
use Rattle.ix_life.specs.declared.sets.IndexLimits.{IndexLimits}
use Rattle.ix_life.specs.declared.sets.LimitSet.{LimitSet}
use Rattle.ix_life.specs.declared.views.IndexView.{IndexView}
use Rattle.ix_model.specs.Buckets.{Index}
use Rattle.ix_model.specs.Given.{entries, limits}
use Rattle.ix_model.specs.Shown.{with_fresh, index_view}
use Rattle.ix_model.specs.State.{index_name, fresh_index}
use Rattle.ix_model.proofs.Named.{by_test}
use Rattle.ix_catalog.specs.Lists.{find, change, insert, stands_before}
use Rattle.ix_catalog.specs.Shelves.{view_name}
use Rattle.ix_model.specs.Shelved.{shelved_indexes}
use Rattle.ix_model.proofs.Names.{find_map, change_map}
use Rattle.ix_bounds.specs.Names.{HasName}
use Rattle.ix_bounds.specs.Shelving.{IsBucketed, AreSettings, AreIndexes, limits_for, view_of, fresh_view, with_view, shelved_by}
use Rattle.ix_bounds.specs.declared.shelving.Bucketed.{Bucketed}
use Rattle.ix_bounds.proofs.Limited.{limits_same}

-- ---- the views of those that are given

one_view : (force : List Kept) (set : LimitSet) (i : Index) (b : Bucketed) → AreSettings force set → HasName i → IsBucketed i b →
    view_of set b ≡ index_view force i
one_view force set i b h v z =
    let limited : limits_for set b.name ≡ limits force i.name = ap (limits_for set) z.name ∙ limits_same force set i.name h v in
    (λ j. record { name = z.name j; limits = limited j; buckets = z.buckets j })

views_same : (force : List Kept) (set : LimitSet) (all : List Index) (given : List Bucketed) → AreSettings force set →
    AllByRecursion HasName all → AllZip IsBucketed all given →
    map (view_of set) given ≡ map (index_view force) all
views_same force set [] [] h v z = refl
views_same force set [] (b ∷ given) h v z = absurd z
views_same force set (i ∷ all) [] h v z = absurd z
views_same force set (i ∷ all) (b ∷ given) h v z =
    let first = one_view force set i b h v.0 z.0 in
    let rest = views_same force set all given h v.1 z.1 in
    (λ j. first j ∷ rest j)

-- ---- the configured ones among them

abbrev HasOwn : List MergedEntry → IndexLimits → Type 0
HasOwn es x = x.limits ≡ life.limits es x.name

own_behind : (es : List MergedEntry) (xs ys : List IndexLimits) → AllByRecursion (HasOwn es) xs → AllByRecursion (HasOwn es) ys →
    AllByRecursion (HasOwn es) (xs ++ ys)
own_behind es [] ys h k = k
own_behind es (x ∷ xs) ys h k = (h.0, own_behind es xs ys h.1 k)

own_one : (es : List MergedEntry) (e : MergedEntry) (key : List ℕ) → AllByRecursion (HasOwn es) (listed_with es e key)
own_one es e (b ∷ key) = tt
own_one es e [] = by_test (is_index_stanza e.stanza) (λ t. rw t (refl, tt)) (λ t. rw t tt)

own_all : (all es : List MergedEntry) → AllByRecursion (HasOwn all) (flat_map (listed_at all) es)
own_all all [] = tt
own_all all (e ∷ es) = own_behind all (listed_at all e) (flat_map (listed_at all) es) (own_one all e e.key) (own_all all es)

own_main : (all : List MergedEntry) (o : Option MergedEntry) →
    AllByRecursion (HasOwn all) (if is_some o then [] else named all (codes "main") ∷ [])
own_main all (Some e) = tt
own_main all None = (refl, tt)

own_limits : (es : List MergedEntry) → AllByRecursion (HasOwn es) (listed es)
own_limits es = own_behind es (flat_map (listed_at es) es) (main_of es) (own_all es es) (own_main es (entry_at (codes "main") [] es))

put_view : (force : List Kept) (a : Index) (is : List Index) →
    put (stands_before view_name) (index_view force a) (map (index_view force) is) ≡ map (index_view force)
    (put (stands_before index_name) a is)
put_view force a [] = refl
put_view force a (i ∷ is) =
    by_test (stands_before index_name i a)
    (λ t. rw t (ap (λ (l : List IndexView). index_view force i ∷ l) (put_view force a is)))
    (λ t. rw t refl)

is_some_map : {X Y : Type 0} (f : X → Y) (o : Option X) → is_some (option_map f o) ≡ is_some o
is_some_map f None = refl
is_some_map f (Some x) = refl

one_more : (force : List Kept) (is : List Index) (x : IndexLimits) → x.limits ≡ limits force x.name →
    with_view (map (index_view force) is) x ≡ map (index_view force) (with_fresh is x.name)
one_more force is x h =
    ap (λ (b : Bool). if b then change view_name x.name (λ (v : IndexView). v) (map (index_view force) is) else insert view_name
    (fresh_view x) (map (index_view force) is))
    (ap is_some (find_map index_name view_name (index_view force) (λ i. refl) x.name is)
    ∙ is_some_map (index_view force) (find index_name x.name is))
    ∙ by (is_some (find index_name x.name is))
  where
    fresh : fresh_view x ≡ index_view force (fresh_index x.name)
    fresh = λ j. record { name = x.name; limits = h j; buckets = [] }

    by : (b : Bool) →
        (if b then change view_name x.name (λ (v : IndexView). v) (map (index_view force) is) else insert view_name (fresh_view x)
        (map (index_view force) is))
        ≡ map (index_view force) (if b then change index_name x.name (λ (i : Index). i) is else insert index_name (fresh_index x.name) is)
    by true = change_map index_name view_name (index_view force) (λ i. refl) (λ (i : Index). i) (λ (v : IndexView). v) x.name is
        (λ i e. refl)
    by false =
        ap (λ (v : IndexView). insert view_name v (map (index_view force) is)) fresh
        ∙ put_view force (fresh_index x.name) is

all_more : (force : List Kept) (xs : List IndexLimits) (is : List Index) → AllByRecursion (HasOwn (entries force)) xs →
    fold with_view (map (index_view force) is) xs ≡ map (index_view force) (fold with_fresh is (map (λ (x : IndexLimits). x.name) xs))
all_more force [] is h = refl
all_more force (x ∷ xs) is h =
    ap (λ (l : List IndexView). fold with_view l xs) (one_more force is x h.0) ∙ all_more force xs (with_fresh is x.name) h.1

pub shelved_same : (force : List Kept) (set : LimitSet) (all : List Index) (given : List Bucketed) → AreSettings force set →
    AreIndexes all given →
    shelved_by set given ≡ shelved_indexes force all
shelved_same force set all given h z =
    ap (λ (l : List IndexLimits). fold with_view (map (view_of set) given) l) h.set_is.limits.listed
    ∙ ap (λ (l : List IndexView). fold with_view l (listed (entries force))) (views_same force set all given h z.names z.zipped)
    ∙ all_more force (listed (entries force)) all (own_limits (entries force))
