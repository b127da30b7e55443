-- Indexes stand by their names where each stands before the next one.
use Rattle.std.proofs.Common.{◌≡◌, ◌<◌, ◌≤◌, ℕ, zero, suc, ◌+◌, ◌-◌, List, [], ◌∷◌, map, length, get_or, sym, subst, arith}
use Rattle.std.specs.List.{AllByRecursion, AllAdjacentBelow, fold}
use Rattle.std.specs.declared.cmp.Ordering.TheVariants.{Less}
use Rattle.std.specs.Ordering.{nat_cmp}
use Rattle.std.specs.Cmp.Lexicographic.{slice_cmp}
use Rattle.std.proofs.lemmas.Cmp.{nat_list_cmp_total}
use Rattle.ix_items.specs.declared.items.Kept.{Kept}
use Rattle.ix_life.specs.declared.views.IndexView.{IndexView}
use Rattle.ix_model.specs.Buckets.{Index}
use Rattle.ix_model.specs.Given.{Chooser}
use Rattle.ix_model.specs.Shown.{configured, with_fresh, index_view}
use Rattle.ix_model.specs.State.{index_name}
use Rattle.ix_model.specs.Step.{state_after}
use Rattle.ix_model.specs.declared.commands.TimedCommand.{TimedCommand}
use Rattle.ix_model.proofs.Ascending.{in_order_after}
use Rattle.ix_effects.specs.Guarding.{Ascends}
use Rattle.ix_catalog.specs.Lists.{AreAscending}
use Rattle.ix_catalog.specs.Shelves.{view_name}
use Rattle.ix_model.specs.Shelved.{shelved_indexes}
use Rattle.ix_model.proofs.Listing.{ascending_fresh}

abbrev pub Steps : List IndexView → Type 0
Steps vs = AllAdjacentBelow Ascends vs (length vs)

next_step : (k : ℕ) → suc k + 1 ≡ suc (k + 1)
next_step k = omega arith

one_step : 0 + 1 ≡ suc 0
one_step = omega arith

steps_tail : (v : IndexView) (vs : List IndexView) → Steps (v ∷ vs) → Steps vs
steps_tail v vs h k d l =
    subst (λ (n : ℕ). Ascends (get_or vs k d) (get_or (v ∷ vs) n d)) (next_step k) (h (suc k) d (omega arith))

steps_head : (v w : IndexView) (vs : List IndexView) → Steps (v ∷ w ∷ vs) → Ascends v w
steps_head v w vs h = subst (λ (n : ℕ). Ascends v (get_or (v ∷ w ∷ vs) n v)) one_step (h 0 v (omega arith))

all_behind : (v w : IndexView) (vs : List IndexView) → Ascends v w → AllByRecursion (Ascends w) vs → AllByRecursion (Ascends v) vs
all_behind v w [] l h = tt
all_behind v w (x ∷ vs) l h = (nat_list_cmp_total.trans v.name w.name x.name l h.0, all_behind v w vs l h.1)

pub steps_ascend : (vs : List IndexView) → Steps vs → AreAscending view_name vs
steps_ascend [] h = tt
steps_ascend (v ∷ []) h = (tt, tt)
steps_ascend (v ∷ w ∷ vs) h =
    let rest = steps_ascend (w ∷ vs) (steps_tail v (w ∷ vs) h) in
    let first = steps_head v w vs h in
    ((first, all_behind v w vs first rest.0), rest)

ascending_step : (vs : List IndexView) (k : ℕ) (d e : IndexView) → AreAscending view_name vs → k + 1 < length vs →
    Ascends (get_or vs k d) (get_or vs (k + 1) e)
ascending_step [] k d e h l = absurd (omega (arith, l))
ascending_step (v ∷ []) k d e h l = absurd (omega (arith, l))
ascending_step (v ∷ w ∷ vs) zero d e h l = h.0.0
ascending_step (v ∷ w ∷ vs) (suc k) d e h l =
    let up : suc (k + 1) ≡ suc k + 1 = omega arith in
    subst (λ (n : ℕ). Ascends (get_or (w ∷ vs) k d) (get_or (v ∷ w ∷ vs) n e)) up (ascending_step (w ∷ vs) k d e h.1 (omega (arith, l)))

-- of indexes in order the one before a place stands before the one there
pub ascending_at : (vs : List IndexView) (at : ℕ) (v w : IndexView) → AreAscending view_name vs → 1 ≤ at → at < length vs →
    v ≡ get_or vs (at - 1) v → w ≡ get_or vs at w → Ascends v w
ascending_at vs at v w h one l first second =
    let back : at - 1 + 1 ≡ at = omega (arith, one) in
    let both : Ascends (get_or vs (at - 1) v) (get_or vs at w) =
    subst (λ (n : ℕ). Ascends (get_or vs (at - 1) v) (get_or vs n w)) back (ascending_step vs (at - 1) v w h (omega (arith, one, l))) in
    subst (λ (x : IndexView). Ascends v x) (sym second) (subst (λ (x : IndexView). Ascends x (get_or vs at w)) (sym first) both)

-- ---- the indexes that are seen

map_behind : (force : List Kept) (name : List ℕ) (is : List Index) →
    AllByRecursion (λ (y : Index). slice_cmp nat_cmp name y.name ≡ Less) is →
    AllByRecursion (λ (y : IndexView). slice_cmp nat_cmp name y.name ≡ Less) (map (index_view force) is)
map_behind force name [] h = tt
map_behind force name (i ∷ is) h = (h.0, map_behind force name is h.1)

map_ascends : (force : List Kept) (is : List Index) → AreAscending index_name is → AreAscending view_name (map (index_view force) is)
map_ascends force [] h = tt
map_ascends force (i ∷ is) h = (map_behind force i.name is h.0, map_ascends force is h.1)

pub seen_ascend : (choose : Chooser) (history : List TimedCommand) (force : List Kept) →
    AreAscending view_name (shelved_indexes force (state_after choose history).catalog.indexes)
seen_ascend choose history force =
    let is = (state_after choose history).catalog.indexes in
    map_ascends force (fold with_fresh is (configured force))
    (ascending_fresh (configured force) is (in_order_after choose history).indexes)
