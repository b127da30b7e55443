-- An event is placed on the shelves, and events one behind the other.
use Rattle.std.proofs.Common.{◌≡◌, ℕ, zero, suc, ℤ, ◌+◌, ◌<◌, ◌^◌, Bool, List, [], ◌∷◌, ◌++◌, length, set, get_or, Option, None, Some}
use Rattle.std.proofs.Common.{refl, sym, ap, ◌∙◌, subst, arith}
use Rattle.std.specs.List.{AllByRecursion, position}
use Rattle.std.specs.Prelude.{slice_get}
use Rattle.std.specs.Option.{option_map}
use Rattle.std.specs.Iterator.{Yields}
use Rattle.std.specs.Vec.Iter.{into_iter_items, into_iter_steps}
use Rattle.std.specs.declared.vec.IntoIter.{IntoIter}
use Rattle.std.proofs.lemmas.Option.{same_Some, slice_get_read, get_or_from_slice_get}
use Rattle.std.proofs.lemmas.List.Sums.{fold_push, fold-append}
use Rattle.std.proofs.lemmas.Slice.Eq.{bytes_eq-Decides}
use Rattle.ix_base.specs.declared.events.Event.{Event}
use Rattle.ix_base.specs.declared.events.Routed.{Routed}
use Rattle.ix_items.specs.declared.items.Entry.{Entry}
use Rattle.ix_commit.specs.declared.write_batch.Append.{Append}
use Rattle.ix_life.specs.declared.sets.LimitSet.{LimitSet}
use Rattle.ix_life.specs.declared.views.IndexView.{IndexView}
use Rattle.ix_catalog.specs.Buckets.{named, size}
use Rattle.ix_catalog.specs.Dealing.{filled, is_fresh, joined, piece, put_in, deal_to, deal, deal_all}
use Rattle.ix_catalog.specs.Filling.{one_more, put_there, file_behind}
use Rattle.ix_catalog.specs.Lists.{find, change, update}
use Rattle.ix_catalog.specs.Numbers.{KeepsIndex, KeepsNumbers, HasRecordIn}
use Rattle.ix_catalog.specs.Shelves.{view_name}
use Rattle.ix_catalog.specs.declared.placer.Work.{Work}
use Rattle.ix_catalog.specs.declared.index_table.IndexTable.{IndexTable}
use Rattle.ix_catalog.proofs.Finds.{has_name, StandsAt, stands_at}
use Rattle.ix_catalog.proofs.Keeps.{deal_all_back}
use Rattle.ix_catalog.proofs.Updates.{set_update, at_update}

-- ---- the index at a place

abbrev pub with_pieces : List Append → IndexTable → Work
with_pieces pieces shelves = record { shelves = shelves; pieces = pieces }

same_view : (xs : List IndexView) (at : ℕ) (x v : IndexView) → at < length xs → x ≡ get_or xs at x → slice_get xs at ≡ Some v → x ≡ v
same_view xs at x v l read g = same_Some x v (sym (slice_get_read xs (length xs) at x refl l read) ∙ g)

pub put_there_is : (ledger : List Entry) (moment : ℤ) (event : Event) (at : ℕ) (v : IndexView) (w : Work) (xs : List IndexView)
    (x y : IndexView) (fresh : Bool) (ps : List Append) →
    at < length w.shelves.indexes → x ≡ get_or w.shelves.indexes at x → slice_get w.shelves.indexes at ≡ Some v →
    xs ≡ set w.shelves.indexes at y →
    y ≡ filled ledger moment w.shelves.next_file (w.shelves.placed + 1) event x → fresh ≡ is_fresh x.limits event x.buckets →
    ps ≡ joined (piece x.limits w.shelves.next_file event x.buckets) w.pieces →
    ◌≡◌ {A = Work} (record { shelves = one_more xs fresh w.shelves; pieces = ps }) (put_there ledger moment event at v w)
put_there_is ledger moment event at v w xs x y fresh ps l read g e f t p =
    let s = w.shelves in
    let is : x ≡ v = same_view s.indexes at x v l read g in
    let fill : IndexView → IndexView = filled ledger moment s.next_file (s.placed + 1) event in
    let whole : xs ≡ update at fill s.indexes = e ∙ ap (set s.indexes at) f ∙ ap (λ (z : IndexView). set s.indexes at (fill z)) read
    ∙ set_update at fill s.indexes x l in
    ap (λ (ys : List IndexView). record { shelves = one_more ys fresh s; pieces = ps }) whole
    ∙ ap (λ (b : Bool). record { shelves = one_more (update at fill s.indexes) b s; pieces = ps }) (t
    ∙ ap (λ (z : IndexView). is_fresh z.limits event z.buckets) is)
    ∙ ap (λ (qs : List Append). record { shelves = one_more (update at fill s.indexes) (is_fresh v.limits event v.buckets) s; pieces = qs })
    (p ∙ ap (λ (z : IndexView). joined (piece z.limits s.next_file event z.buckets) w.pieces) is)

pub put_there_keeps : (ledger : List Entry) (moment : ℤ) (event : Event) (at : ℕ) (v : IndexView) (w : Work) (x : IndexView) →
    at < length w.shelves.indexes → x ≡ get_or w.shelves.indexes at x → slice_get w.shelves.indexes at ≡ Some v →
    KeepsNumbers (put_there ledger moment event at v w).shelves →
    KeepsIndex (filled ledger moment w.shelves.next_file (w.shelves.placed + 1) event x)
    × (file_behind w.shelves.next_file event x < 2 ^ 63)
put_there_keeps ledger moment event at v w x l read g h =
    let s = w.shelves in
    let is : x ≡ v = same_view s.indexes at x v l read g in
    let fill : IndexView → IndexView = filled ledger moment s.next_file (s.placed + 1) event in (
      subst (λ (z : IndexView). KeepsIndex (fill z)) (sym read) (at_update KeepsIndex at fill s.indexes x l h.indexes),
      subst (λ (z : IndexView). file_behind s.next_file event z < 2 ^ 63) (sym is) h.next_file,
    )

-- ---- the index of a name

some_at : (xs : List IndexView) (k : ℕ) → k < length xs → (v : IndexView) × (slice_get xs k ≡ Some v)
some_at [] k l = absurd (omega arith)
some_at (x ∷ xs) zero l = (x, refl)
some_at (x ∷ xs) (suc k) l = some_at xs k (omega arith)

pub record PutsThere (ledger : List Entry) (moment : ℤ) (event : Event) (at : ℕ) (w : Work) : Type 0 where
  pub view : IndexView
  pub there : slice_get w.shelves.indexes at ≡ Some view
  pub is : put_there ledger moment event at view w ≡ put_in ledger moment event (find view_name event.index w.shelves.indexes) w

pub puts_there : (ledger : List Entry) (moment : ℤ) (event : Event) (at : ℕ) (w : Work) → at < length w.shelves.indexes →
    position (has_name event.index) w.shelves.indexes ≡ Some at → PutsThere ledger moment event at w
puts_there ledger moment event at w l e =
    let s = w.shelves in
    let found = some_at s.indexes at l in
    let v : IndexView = found.0 in
    let same : get_or s.indexes at v ≡ v = get_or_from_slice_get s.indexes at v v found.1 in
    let stands : StandsAt event.index s.indexes at v = stands_at event.index s.indexes at v e in
    let fill : IndexView → IndexView = filled ledger moment s.next_file (s.placed + 1) event in
    let name : v.name ≡ event.index = ap (λ (x : IndexView). x.name) (sym same)
    ∙ (bytes_eq-Decides (get_or s.indexes at v).name event.index).0 stands.named in
    let whole : update at fill s.indexes ≡ change view_name v.name fill s.indexes = sym (stands.changes fill)
    ∙ ap (λ (n : List ℕ). change view_name n fill s.indexes) (sym name) in
    record {
      view = v;
      there = found.1;
      is = ap (λ (ys : List IndexView). record {
        shelves = one_more ys (is_fresh v.limits event v.buckets) s;
        pieces = joined (piece v.limits s.next_file event v.buckets) w.pieces;
      }) whole
          ∙ ap (λ (o : Option IndexView). put_in ledger moment event o w) (sym (stands.found ∙ ap (λ (x : IndexView). Some x) same));
    }

pub position_is : (name lent : List ℕ) (xs ys : List IndexView) (r o : Option ℕ) → r ≡ position (has_name lent) ys → ys ≡ xs → lent ≡ name →
    r ≡ o → position (has_name name) xs ≡ o
position_is name lent xs ys r o e a b f =
    ap (λ (n : List ℕ). position (has_name n) xs) (sym b) ∙ ap (λ (zs : List IndexView). position (has_name lent) zs) (sym a) ∙ sym e ∙ f

-- ---- where an event goes

pub record Goes (event sent : Event) (o : Option (List ℕ)) : Type 0 where
  pub name : List ℕ
  pub home_is : o ≡ Some name
  pub sent_is : sent ≡ named name event

pub goes_to : (event sent : Event) (o : Option (List ℕ)) → Some sent ≡ option_map (λ (name : List ℕ). named name event) o →
    Goes event sent o
goes_to event sent None e = cc
goes_to event sent (Some name) e = record { name = name; home_is = refl; sent_is = same_Some sent (named name event) e }

pub goes_nowhere : (event : Event) (o : Option (List ℕ)) → None ≡ option_map (λ (name : List ℕ). named name event) o → o ≡ None
goes_nowhere event None e = refl
goes_nowhere event (Some name) e = cc

pub deal_sent : (ledger : List Entry) (moment : ℤ) (event sent : Event) (o : Option (List ℕ)) (w : Work) → Goes event sent o →
    put_in ledger moment sent (find view_name sent.index w.shelves.indexes) w ≡ deal_to ledger moment event o w
deal_sent ledger moment event sent o w g =
    ap (λ (e : Event). put_in ledger moment e (find view_name e.index w.shelves.indexes) w) g.sent_is
    ∙ ap (λ (p : Option (List ℕ)). deal_to ledger moment event p w) (sym g.home_is)

pub sent_size : (event sent : Event) (o : Option (List ℕ)) → Goes event sent o → HasRecordIn event o → size sent < 2 ^ 32
sent_size event sent o g h =
    subst (λ (e : Event). size e < 2 ^ 32) (sym g.sent_is) (subst (λ (p : Option (List ℕ)). HasRecordIn event p) g.home_is h)

-- ---- events one behind the other

pub taken_front : {X A : Type 0} (s : IntoIter X A) (xs : List X) (t : IntoIter X A) → Yields into_iter_steps s xs t →
    into_iter_items s ≡ xs ++ into_iter_items t
taken_front s [] t y = ap into_iter_items y
taken_front s (x ∷ xs) t y = y.1.0 ∙ ap (λ ys. x ∷ ys) (taken_front y.0 xs t y.2)

pub all_mid : {X : Type 0} (P : X → Type 0) (xs : List X) (x : X) (ys : List X) → AllByRecursion P (xs ++ x ∷ ys) → P x
all_mid P [] x ys all = all.0
all_mid P (y ∷ xs) x ys all = all_mid P xs x ys all.1

pub none_left : {X : Type 0} (xs : List X) → length xs ≡ 0 → xs ≡ []
none_left [] e = refl
none_left (x ∷ xs) e = absurd (omega (arith, e))

pub deal_push : (set : LimitSet) (ledger : List Entry) (moment : ℤ) (w : Work) (xs : List Routed) (x : Routed) →
    deal_all set ledger moment w (xs ++ x ∷ []) ≡ deal set ledger moment (deal_all set ledger moment w xs) x
deal_push set ledger moment w xs x = fold_push (deal set ledger moment) w xs x

-- where all keep the numbers, those as far as an event do
pub keeps_front : (set : LimitSet) (ledger : List Entry) (moment : ℤ) (w : Work) (xs ys all : List Routed) (x : Routed) → all ≡ xs ++ x
    ∷ ys →
    KeepsNumbers (deal_all set ledger moment w all).shelves →
    KeepsNumbers (deal set ledger moment (deal_all set ledger moment w xs) x).shelves
keeps_front set ledger moment w xs ys all x e h =
    deal_all_back set ledger moment (deal set ledger moment (deal_all set ledger moment w xs) x) ys
    (subst (λ (v : Work). KeepsNumbers v.shelves) (ap (deal_all set ledger moment w) e
    ∙ fold-append (deal set ledger moment) w xs (x ∷ ys)) h)
