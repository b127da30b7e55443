-- A Thaw does on the shelves what it does in the machine.
use Rattle.std.proofs.Common.{◌≡◌, ◌<◌, ◌≤◌, ℕ, zero, suc, ◌+◌, true, false, List, [], ◌∷◌, ◌++◌, map, refl, sym, ap, ◌∙◌, arith, subst}
use Rattle.std.specs.Prelude.{Option, None, Some, fold, if◌then◌else◌, nat_lt, option_to_list, slice_get}
use Rattle.std.proofs.lemmas.Bool.Decides.{nat_tests}
use Rattle.ix_base.specs.declared.events.Event.{Event}
use Rattle.ix_items.specs.declared.items.Bucket.{Bucket}
use Rattle.ix_items.specs.declared.items.Entry.{Entry}
use Rattle.ix_items.specs.declared.items.Kept.{Kept}
use Rattle.ix_life.specs.declared.views.IndexView.{IndexView}
use Rattle.ix_model.specs.Buckets.{Standing, live, frozen, Slot, Index, listed, entered, buckets}
use Rattle.ix_model.specs.Keeping.{thawing, thawed_by, thawed_slot}
use Rattle.ix_model.specs.Keeping as kept
use Rattle.ix_model.specs.Shown.{configured, with_fresh, index_view}
use Rattle.ix_model.specs.State.{Catalog, index_name, slots_in}
use Rattle.ix_model.specs.Step.{thawed_index, can_thaw, thaws}
use Rattle.ix_model.specs.Step as machine
use Rattle.ix_model.specs.Sums.{IsStandingOf, AreSoundFrom, IsSound}
use Rattle.ix_model.proofs.Named.{all_found}
use Rattle.ix_model.proofs.Stepping.{AllSound}
use Rattle.ix_catalog.specs.Buckets.{thawed}
use Rattle.ix_catalog.specs.Lists.{find, update, change, AreAscending}
use Rattle.ix_catalog.specs.Shelves.{view_name, with_buckets, with_indexes}
use Rattle.ix_catalog.specs.Turning.{insert_id, thaw_index, thaw}
use Rattle.ix_model.specs.Shelved.{shelved}
use Rattle.ix_model.proofs.Filing.{slot_found}
use Rattle.ix_model.proofs.Listing.{among, or_fresh, find_fresh, change_fresh}
use Rattle.ix_model.proofs.Names.{change_map, found_name}

none_some : {X : Type 0} {x : X} → None ≡ Some x → ⊥
none_some e = cc

some_same : {X : Type 0} {x y : X} → Some x ≡ Some y → x ≡ y
some_same e = cc

false_true : false ≡ true → ⊥
false_true e = cc

lt_true : (a b : ℕ) → a < b → nat_lt a b ≡ true
lt_true a b h = grind (arith, nat_tests)

lt_false : (a b : ℕ) → b ≤ a → nat_lt a b ≡ false
lt_false a b h = grind (arith, nat_tests)

-- ---- one more bucket, by its number

behind_it : (t b : Bucket) (bs : List Bucket) (a : ℕ) → t.id < a → b.id ≡ a → insert_id t (b ∷ bs) ≡ t ∷ b ∷ bs
behind_it t b bs a l e = rw (lt_false b.id t.id (omega (arith, l, e))) refl

before_it : (t b : Bucket) (bs : List Bucket) (a : ℕ) → a < t.id → b.id ≡ a → insert_id t (b ∷ bs) ≡ b ∷ insert_id t bs
before_it t b bs a l e = rw (lt_true b.id t.id (omega (arith, l, e))) refl

insert_first : (t : Bucket) (index : List ℕ) (a : ℕ) (slots : List Slot) → AreSoundFrom index a slots → t.id < a →
    insert_id t (buckets slots) ≡ t ∷ buckets slots
insert_first t index a [] h l = refl
insert_first t index a (s ∷ slots) h l = by s.standing h.0 (insert_first t index (suc a) slots h.1 (omega (arith, l)))
  where
    by : (standing : Standing) → IsStandingOf index a s.events standing → insert_id t (buckets slots) ≡ t ∷ buckets slots →
        insert_id t (option_to_list (listed standing) ++ buckets slots) ≡ t ∷ (option_to_list (listed standing) ++ buckets slots)
    by (live b) k rest = behind_it t b (buckets slots) a l k.is_of.id_is
    by (frozen e None) k rest = rest
    by (frozen e (Some b)) k rest = behind_it t b (buckets slots) a l k.1.is_of.id_is

insert_more : (t : Bucket) (index : List ℕ) (a : ℕ) (events : List Event) (standing : Standing) (bs : List Bucket) →
    IsStandingOf index a events standing → a < t.id →
    insert_id t (option_to_list (listed standing) ++ bs) ≡ option_to_list (listed standing) ++ insert_id t bs
insert_more t index a events (live b) bs h l = before_it t b bs a l h.is_of.id_is
insert_more t index a events (frozen e None) bs h l = refl
insert_more t index a events (frozen e (Some b)) bs h l = before_it t b bs a l h.1.is_of.id_is

abbrev CanThaw : Entry → Standing → Type 0
CanThaw e standing = (entered standing ≡ Some e) × (kept.can_thaw standing ≡ true)

thawed_first : (e : Entry) (file : ℕ) (index : List ℕ) (a : ℕ) (events : List Event) (standing : Standing) (slots : List Slot) →
    IsStandingOf index a events standing →
    CanThaw e standing → AreSoundFrom index (suc a) slots → e.id ≡ a →
    insert_id (thawed e file) (option_to_list (listed standing) ++ buckets slots) ≡ option_to_list (listed (thawing file standing))
    ++ buckets slots
thawed_first e file index a events (live b) slots h c k n = absurd (none_some c.0)
thawed_first e file index a events (frozen f other) slots h c k n =
    let same : f ≡ e = some_same c.0 in
    by f.archive other c.1 same
  where
    by : (archive : Option ℕ) (o : Option Bucket) → kept.can_thaw_by archive o ≡ true → f ≡ e →
        insert_id (thawed e file) (option_to_list o ++ buckets slots) ≡ option_to_list (listed (thawed_by f archive file o))
        ++ buckets slots
    by None o t same = absurd (false_true t)
    by (Some archive) (Some b) t same = absurd (false_true t)
    by (Some archive) None t same =
        insert_first (thawed e file) index (suc a) slots k (omega (arith, n))
        ∙ ap (λ (x : Entry). thawed x file ∷ buckets slots) (sym same)

entry_id : (e : Entry) (index : List ℕ) (a : ℕ) (events : List Event) (standing : Standing) → IsStandingOf index a events standing →
    entered standing ≡ Some e →
    (e.id ≡ a) × (e.index ≡ index)
entry_id e index a events (live b) h c = absurd (none_some c)
entry_id e index a events (frozen f other) h c =
    let same : f ≡ e = some_same c in
    (ap (λ (x : Entry). x.id) (sym same) ∙ h.0.id_is, ap (λ (x : Entry). x.index) (sym same) ∙ h.0.index_is)

pub entry_at : (e : Entry) (index : List ℕ) (a j : ℕ) (slots : List Slot) (s : Slot) → AreSoundFrom index a slots →
    slice_get slots j ≡ Some s → entered s.standing ≡ Some e →
    (e.id ≡ a + j) × (e.index ≡ index)
entry_at e index a j [] s h p c = absurd (none_some p)
entry_at e index a zero (x ∷ slots) s h p c =
    let both = entry_id e index a x.events x.standing h.0 (ap (λ (y : Slot). entered y.standing) (some_same p) ∙ c) in
    ((let q = both.0 in omega (arith, q)), both.1)
entry_at e index a (suc j) (x ∷ slots) s h p c =
    let both = entry_at e index (suc a) j slots s h.1 p c in
    ((let q = both.0 in omega (arith, q)), both.1)

pub buckets_thawed : (e : Entry) (file : ℕ) (index : List ℕ) (a j : ℕ) (slots : List Slot) (s : Slot) → AreSoundFrom index a slots →
    slice_get slots j ≡ Some s →
    CanThaw e s.standing → e.id ≡ a + j → insert_id (thawed e file) (buckets slots) ≡ buckets (update j (thawed_slot file) slots)
buckets_thawed e file index a j [] s h p c n = absurd (none_some p)
buckets_thawed e file index a zero (x ∷ slots) s h p c n =
    thawed_first e file index a x.events x.standing slots h.0 (subst (λ (y : Slot). CanThaw e y.standing) (sym (some_same p)) c) h.1
    (omega (arith, n))
buckets_thawed e file index a (suc j) (x ∷ slots) s h p c n =
    insert_more (thawed e file) index a x.events x.standing (buckets slots) h.0 (omega (arith, n))
    ∙ ap (λ (bs : List Bucket). option_to_list (listed x.standing)
    ++ bs) (buckets_thawed e file index (suc a) j slots s h.1 p c (omega (arith, n)))

-- ---- the shelves

pub thaws_same : (force : List Kept) (index : List ℕ) (id : ℕ) (s : Catalog) (slot : Slot) (e : Entry) → AllSound s →
    AreAscending index_name s.indexes →
    slice_get (slots_in s.indexes index) id ≡ Some slot → entered slot.standing ≡ Some e → thaws index id s ≡ true →
    thaw e (shelved force s) ≡ shelved force (machine.thaw index id s)
thaws_same force index id s slot e h l p c t =
    let found = slot_found s.indexes index id slot p in
    let i = found.0 in
    let sound : IsSound i = all_found IsSound index_name index i s.indexes h found.1.0 in
    let can : CanThaw e slot.standing = (c, ap can_thaw (sym p) ∙ t) in
    let entry = entry_at e i.name 0 id i.slots slot sound found.1.1 c in
    let named : e.index ≡ index = entry.1 ∙ found_name index_name index i s.indexes found.1.0 in
    let seen = fold with_fresh s.indexes (configured force) in
    let at_it : find index_name index seen ≡ Some i =
    find_fresh (configured force) s.indexes index ∙ ap (or_fresh (among (configured force) index) index) found.1.0 in
    let f = thawed_index id s.next_file in
    let g = thaw_index e s.next_file in
    let one : g (index_view force i) ≡ index_view force (f i) =
    ap (λ (bs : List Bucket). with_buckets bs (index_view force i))
    (buckets_thawed e s.next_file i.name 0 id i.slots slot sound found.1.1 can entry.0) in
    let indexes : change view_name e.index g (map (index_view force) seen) ≡ (shelved force (machine.thaw index id s)).indexes =
    ap (λ (n : List ℕ). change view_name n g (map (index_view force) seen)) named
    ∙ change_map index_name view_name (index_view force) (λ x. refl) f g index seen
    (λ x q. subst (λ (y : Index). g (index_view force y) ≡ index_view force (f y)) (some_same (sym at_it ∙ q)) one)
    ∙ ap (map (index_view force)) (sym (change_fresh (configured force) s.indexes index f (λ x. refl) (λ n. refl) l)) in
    let file : s.next_file + 1 ≡ (if thaws index id s then s.next_file + 1 else s.next_file) = rw t refl in
    ap (λ (is : List IndexView). with_indexes is (s.next_file + 1) (shelved force s)) indexes
    ∙ ap (λ (n : ℕ). with_indexes (shelved force (machine.thaw index id s)).indexes n (shelved force s)) file
