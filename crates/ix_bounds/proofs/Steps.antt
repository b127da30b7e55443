-- Steps of the loops that make what is seen.
use Rattle.std.proofs.Common.{◌≡◌, ℕ, Bool, true, false, List, [], ◌∷◌, ◌++◌, take, drop, refl, sym, ap, ◌∙◌, subst}
use Rattle.std.specs.Prelude.{if◌then◌else◌, is_some, bytes_eq, Result, Ok, Err, IfOk}
use Rattle.std.specs.List.{list_any}
use Rattle.ix_items.specs.declared.items.Entry.{Entry}
use Rattle.ix_life.specs.declared.views.IndexView.{IndexView}
use Rattle.ix_model.proofs.Named.{by_test}
use Rattle.ix_life.specs.declared.sets.IndexLimits.{IndexLimits}
use Rattle.ix_catalog.specs.Lists.{find, change, insert}
use Rattle.ix_catalog.specs.Measures.{has_number}
use Rattle.ix_catalog.specs.Shelves.{view_name}
use Rattle.ix_bounds.specs.Shelving.{fresh_view, with_view, bucketed_of, bucketed}
use Rattle.ix_bounds.specs.declared.shelving.Bucketed.{Bucketed}

pub any_found : (name : List ℕ) (views : List IndexView) →
    list_any (λ (v : IndexView). bytes_eq v.name name) views ≡ is_some (find view_name name views)
any_found name [] = refl
any_found name (v ∷ views) = by_test (bytes_eq v.name name) (λ t. rw t refl) (λ t. rw t (any_found name views))

pub had_one : (ledger : List Entry) (x : IndexView) → has_number ledger x ≡ true → bucketed ledger (x ∷ []) ≡ bucketed_of x ∷ []
had_one ledger x h = rw h refl

pub had_none : (ledger : List Entry) (x : IndexView) → has_number ledger x ≡ false → bucketed ledger (x ∷ []) ≡ []
had_none ledger x h = rw h refl

pub bucketed_behind : (ledger : List Entry) (xs ys : List IndexView) → bucketed ledger (xs ++ ys) ≡ bucketed ledger xs ++ bucketed ledger ys
bucketed_behind ledger [] ys = refl
bucketed_behind ledger (x ∷ xs) ys =
    by_test (has_number ledger x)
    (λ t. rw t (ap (λ (l : List Bucketed). bucketed_of x ∷ l) (bucketed_behind ledger xs ys)))
    (λ t. rw t (bucketed_behind ledger xs ys))

-- ---- a list with an index that is configured

pub change_same : {X : Type 0} (name_of : X → List ℕ) (name : List ℕ) (xs : List X) → change name_of name (λ x. x) xs ≡ xs
change_same name_of name [] = refl
change_same {X} name_of name (x ∷ xs) =
    by_test (bytes_eq (name_of x) name)
    (λ t. rw t refl)
    (λ t. rw t (ap (λ (l : List X). x ∷ l) (change_same name_of name xs)))

abbrev by_found : Bool → List IndexView → IndexLimits → List IndexView
by_found b views x = if b then change view_name x.name (λ (v : IndexView). v) views else insert view_name (fresh_view x) views

listed_stays : (views : List IndexView) (x : IndexLimits) → list_any (λ (v : IndexView). bytes_eq v.name x.name) views ≡ true →
    with_view views x ≡ views
listed_stays views x t =
    ap (λ (b : Bool). by_found b views x) (sym (any_found x.name views) ∙ t) ∙ change_same view_name x.name views

others_insert : (views : List IndexView) (x : IndexLimits) → list_any (λ (v : IndexView). bytes_eq v.name x.name) views ≡ false →
    with_view views x ≡ insert view_name (fresh_view x) views
others_insert views x t = ap (λ (b : Bool). by_found b views x) (sym (any_found x.name views) ∙ t)

-- the same, for the list and the name as the code reads them
pub stays_listed : (views seen : List IndexView) (x : IndexLimits) (name : List ℕ) (b : Bool) → seen ≡ views → name ≡ x.name →
    b ≡ list_any (λ (v : IndexView). bytes_eq v.name name) seen → b ≡ true → views ≡ with_view views x
stays_listed views seen x name b s n e t =
    sym (listed_stays views x
    (ap (λ (l : List IndexView). list_any (λ (v : IndexView). bytes_eq v.name x.name) l) (sym s)
    ∙ ap (λ (m : List ℕ). list_any (λ (v : IndexView). bytes_eq v.name m) seen) (sym n)
    ∙ sym e ∙ t))

pub put_at : (views seen other : List IndexView) (x : IndexLimits) (name same : List ℕ) (b : Bool) (at : ℕ) (view : IndexView) →
    seen ≡ views → other ≡ views → name ≡ x.name → same ≡ x.name →
    b ≡ list_any (λ (v : IndexView). bytes_eq v.name name) seen → b ≡ false → view ≡ fresh_view x →
    ((v : IndexView) → v.name ≡ same → insert view_name v other ≡ take at other ++ v ∷ drop at other) →
    take at views ++ view ∷ drop at views ≡ with_view views x
put_at views seen other x name same b at view s o n m e f is place =
    ap (λ (v : IndexView). take at views ++ v ∷ drop at views) is
    ∙ sym (subst (λ (l : List IndexView). insert view_name (fresh_view x) l ≡ take at l ++ fresh_view x
    ∷ drop at l) o (place (fresh_view x) (sym m)))
    ∙ sym (others_insert views x
    (ap (λ (l : List IndexView). list_any (λ (v : IndexView). bytes_eq v.name x.name) l) (sym s)
    ∙ ap (λ (m : List ℕ). list_any (λ (v : IndexView). bytes_eq v.name m) seen) (sym n)
    ∙ sym e ∙ f))

-- ---- results

pub if_ok : {T E : Type 0} (P Q : T → Type 0) (r : Result T E) → ((x : T) → P x → Q x) → IfOk r P → IfOk r Q
if_ok P Q (Ok x) k h = k x h
if_ok P Q (Err e) k h = h
