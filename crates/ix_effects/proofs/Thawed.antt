-- A thaw leads from the state before it to that behind it.
use Rattle.std.proofs.Common.{◌≡◌, ◌<◌, ℕ, ◌+◌, ◌==◌, ◌^◌, true, false, List, [], ◌∷◌, ◌++◌, refl, sym, ap, ◌∙◌, subst, arith}
use Rattle.std.specs.Prelude.{Option, Some, None, is_some, option_to_list, slice_get, filter, bytes_eq}
use Rattle.std.specs.List.{AllByRecursion, sum_by}
use Rattle.std.proofs.lemmas.Bool.{eqb-true}
use Rattle.std.proofs.lemmas.List.Elements.{All-from_recursion, recursion_from_All}
use Rattle.std.proofs.lemmas.List.Sorted.{All-permutation, IsPermutation-sym}
use Rattle.std.proofs.lemmas.List.Sums.{sum_by-cons}
use Rattle.std.specs.List.Sorted.{IsPermutation}
use Rattle.ix_items.specs.declared.items.Bucket.{Bucket}
use Rattle.ix_items.specs.declared.items.Entry.{Entry}
use Rattle.ix_commit.specs.Contents.{Contents}
use Rattle.ix_commit.specs.Drafts.{with_copies}
use Rattle.ix_commit.specs.Snapshot.{Forgets}
use Rattle.ix_model.specs.Bounds.{KeepsBounds}
use Rattle.ix_model.specs.Buckets.{Standing, live, frozen, Slot, entered}
use Rattle.ix_model.specs.Given.{Chooser}
use Rattle.ix_model.specs.Judged as judging
use Rattle.ix_model.specs.Judged.{by_slot, by_standing, by_thawed, is_known}
use Rattle.ix_model.specs.Keeping.{can_thaw}
use Rattle.ix_model.specs.Keeping as kept
use Rattle.ix_model.specs.Ledger.{is_of}
use Rattle.ix_model.specs.State.{State, Catalog, slots_in}
use Rattle.ix_model.specs.Step as machine
use Rattle.ix_model.specs.Step.{state_after, stepped}
use Rattle.ix_model.specs.declared.commands.Command.{Command}
use Rattle.ix_model.specs.declared.commands.Command.TheVariants.{Thaw}
use Rattle.ix_model.specs.declared.commands.TimedCommand.{TimedCommand}
use Rattle.ix_model.proofs.Ascending.{in_order_after, keeps_ascending}
use Rattle.ix_model.proofs.Named.{by_test, same_bytes}
use Rattle.ix_model.proofs.Renewing.{apart_after}
use Rattle.ix_model.proofs.Singles.{whole_after}
use Rattle.ix_model.proofs.Stepping.{sound_after}
use Rattle.ix_effects.specs.Moving.{Precedes, IsMoved}
use Rattle.ix_effects.specs.Working.{here, shelves_in, entry_of, thawed, CanBeSaid}
use Rattle.ix_effects.specs.declared.catalog_effect.Base.{Base}
use Rattle.ix_effects.proofs.Going.{thaws_let_none_go}
use Rattle.ix_effects.proofs.Saying.{can_be_said}
use Rattle.ix_effects.proofs.Standing.{later_is, Stays, Fills, left_leads}
use Rattle.ix_catalog.specs.Turning.{thaw, thaw_copy}
use Rattle.ix_catalog.specs.declared.index_table.IndexTable.{IndexTable}
use Rattle.ix_model.specs.Books.{entered_at, entry_in}
use Rattle.ix_model.specs.Contents.{contents_of}
use Rattle.ix_model.specs.Done.{AreLetGo}
use Rattle.ix_model.specs.OnDisk.{HasNoneFrom, IsThawed}
use Rattle.ix_model.specs.Shelved.{shelved}
use Rattle.ix_model.proofs.Froze.{all_entered}
use Rattle.ix_model.proofs.Saying.{both_true}
use Rattle.ix_model.proofs.ThawedFiles.{thaw_copied}
use Rattle.ix_model.proofs.ThawedShelves.{thaws_same}

none_some : {X : Type 0} {x : X} → Some x ≡ None → ⊥
none_some e = cc

some_same : {X : Type 0} {x y : X} → Some x ≡ Some y → x ≡ y
some_same e = cc

true_false : true ≡ false → ⊥
true_false e = cc

-- ---- a bucket whose Thaw is accepted

-- it is frozen, has an archive, and is not thawed
pub record CanThaw (m : State) (index : List ℕ) (id : ℕ) : Type 0 where
  pub slot : Slot
  pub entry : Entry
  pub archive : ℕ
  pub at : slice_get (slots_in m.catalog.indexes index) id ≡ Some slot
  pub entered_is : entered slot.standing ≡ Some entry
  pub archived : entry.archive ≡ Some archive
  pub thaws : machine.thaws index id m.catalog ≡ true

abbrev Found : Option Slot → Type 0
Found o = (s : Slot) × (o ≡ Some s) × (by_standing s.standing ≡ None)

found_slot : (o : Option Slot) → by_slot o ≡ None → Found o
found_slot None e = absurd (none_some e)
found_slot (Some s) e = (s, refl, e)

abbrev Archived : Standing → Type 0
Archived standing = (e : Entry) × (archive : ℕ) × (entered standing ≡ Some e) × (e.archive ≡ Some archive) × (can_thaw standing ≡ true)

by_archive : (e : Entry) (other : Option Bucket) (o : Option ℕ) → e.archive ≡ o → by_thawed o (is_some other) ≡ None →
    Archived (frozen e other)
by_archive e other None a h = absurd (none_some h)
by_archive e (Some b) (Some archive) a h = absurd (none_some h)
by_archive e None (Some archive) a h = (e, archive, refl, a, rw a refl)

is_archived : (standing : Standing) → by_standing standing ≡ None → Archived standing
is_archived (live b) h = absurd (none_some h)
is_archived (frozen e other) h = by_archive e other e.archive refl h

known_first : (m : State) (index : List ℕ) (id : ℕ) → judging.judged m (Thaw index id) ≡ None →
    by_slot (slice_get (slots_in m.catalog.indexes index) id) ≡ None
known_first m index id h = by_test (is_known m index) (λ t. rw t at h) (λ t. absurd (none_some (rw t at h)))

pub can_be_thawed : (m : State) (index : List ℕ) (id : ℕ) → judging.judged m (Thaw index id) ≡ None → CanThaw m index id
can_be_thawed m index id h =
    let f = found_slot (slice_get (slots_in m.catalog.indexes index) id) (known_first m index id h) in
    let a = is_archived f.0.standing f.2 in
    record {
      slot = f.0;
      entry = a.0;
      archive = a.1;
      at = f.1;
      entered_is = a.2;
      archived = a.3;
      thaws = ap machine.can_thaw f.1 ∙ a.4;
    }

-- ---- its entry, in whatever order the ledger stands

abbrev Stands : State → Entry → Type 0
Stands m e = entry_in m e.index e.id ≡ Some e

abbrev IsOther : List ℕ → ℕ → Entry → Type 0
IsOther index id e = is_of index id e ≡ false

it_stands : (m : State) (index : List ℕ) (id : ℕ) (e : Entry) → is_of index id e ≡ true → Stands m e → entry_in m index id ≡ Some e
it_stands m index id e t h =
    let both = both_true (bytes_eq e.index index) (e.id == id) t in
    let i : e.index ≡ index = same_bytes e.index index both.0 in
    let n : e.id ≡ id = eqb-true e.id id both.1 in
    (λ k. entry_in m (sym i k) (sym n k)) ∙ h

found_stands : (m : State) (index : List ℕ) (id : ℕ) (e : Entry) (es : List Entry) → AllByRecursion (Stands m) es →
    entry_of index id es ≡ Some e → entry_in m index id ≡ Some e
found_stands m index id e [] h f = absurd (none_some (sym f))
found_stands m index id e (x ∷ es) h f =
    by_test (is_of index id x)
    (λ t. subst (λ (y : Entry). entry_in m index id ≡ Some y) (some_same (rw t at f)) (it_stands m index id x t h.0))
    (λ t. found_stands m index id e es h.1 (rw t at f))

none_found : (index : List ℕ) (id : ℕ) (es : List Entry) → entry_of index id es ≡ None → AllByRecursion (IsOther index id) es
none_found index id [] f = tt
none_found index id (x ∷ es) f =
    by_test (is_of index id x)
    (λ t. absurd (none_some (rw t at f)))
    (λ t. (t, none_found index id es (rw t at f)))

none_left : (index : List ℕ) (id : ℕ) (es : List Entry) → AllByRecursion (IsOther index id) es → filter (is_of index id) es ≡ []
none_left index id [] h = refl
none_left index id (x ∷ es) h = let t : is_of index id x ≡ false = h.0 in rw t (none_left index id es h.1)

abbrev one : Entry → ℕ
one e = 1

same_entered : (o : Option Slot) → kept.entered_at o ≡ entered_at o
same_entered None = refl
same_entered (Some s) = refl

some_counts : (o : Option Entry) (e : Entry) → o ≡ Some e → sum_by one (option_to_list o) ≡ 1
some_counts o e h = ap (λ (x : Option Entry). sum_by one (option_to_list x)) h ∙ (let a = sum_by-cons one e [] in omega (arith, a))

some_there : (choose : Chooser) (history : List TimedCommand) (index : List ℕ) (id : ℕ) (e : Entry) →
    entry_in (state_after choose history) index id ≡ Some e →
    filter (is_of index id) (state_after choose history).catalog.ledger ≡ [] → ⊥
some_there choose history index id e h none =
    let m : State = state_after choose history in
    let slot = slice_get (slots_in m.catalog.indexes index) id in
    let a = (whole_after choose history).each index id one in
    let b = ap (λ (es : List Entry). sum_by one es) none in
    let c = some_counts (kept.entered_at slot) e (same_entered slot ∙ h) in
    omega (arith, a, b, c)

pub its_entry : (choose : Chooser) (history : List TimedCommand) (index : List ℕ) (id : ℕ) (e : Entry) (ledger : List Entry) →
    IsPermutation ledger (state_after choose history).catalog.ledger →
    entry_in (state_after choose history) index id ≡ Some e → entry_of index id ledger ≡ Some e
its_entry choose history index id e ledger perm h = by (entry_of index id ledger) refl
  where
    stand : AllByRecursion (Stands (state_after choose history)) ledger
    stand = recursion_from_All (Stands (state_after choose history)) ledger
        (All-permutation (Stands (state_after choose history)) (state_after choose history).catalog.ledger ledger
        (IsPermutation-sym ledger (state_after choose history).catalog.ledger perm)
        (All-from_recursion (Stands (state_after choose history)) (state_after choose history).catalog.ledger
        (all_entered (state_after choose history) [] (state_after choose history).catalog.ledger (whole_after choose history) refl)))

    others : AllByRecursion (IsOther index id) ledger → AllByRecursion (IsOther index id) (state_after choose history).catalog.ledger
    others all = recursion_from_All (IsOther index id) (state_after choose history).catalog.ledger
        (All-permutation (IsOther index id) ledger (state_after choose history).catalog.ledger perm
        (All-from_recursion (IsOther index id) ledger all))

    by : (o : Option Entry) → entry_of index id ledger ≡ o → entry_of index id ledger ≡ Some e
    by None f = absurd (some_there choose history index id e h
        (none_left index id (state_after choose history).catalog.ledger (others (none_found index id ledger f))))
    by (Some x) f = f ∙ sym (found_stands (state_after choose history) index id x ledger stand f) ∙ h

-- ---- the command

module _ (choose : Chooser) (history : List TimedCommand) (order : TimedCommand) (b : Base) (index : List ℕ) (id : ℕ)
    (p : Precedes choose history order b) (is : order.command ≡ Thaw index id) where
  abbrev m : State
  m = state_after choose history

  abbrev later : State
  later = state_after choose (history ++ order ∷ [])

  is_later : later ≡ stepped choose m (Thaw index id) b.moment
  is_later = later_is choose history order b p ∙ ap (λ (k : Command). stepped choose m k b.moment) is

  catalog_is : later.catalog ≡ machine.thaw index id m.catalog
  catalog_is = ap (λ (x : State). x.catalog) is_later

  pub can : CanThaw m index id
  can = can_be_thawed m index id (ap (judging.judged m) (sym is) ∙ p.accepted)

  pub entry_is : entry_of index id (here b) ≡ Some can.entry
  entry_is = its_entry choose history index id can.entry (here b) p.sees.ledger_is (ap entered_at can.at ∙ can.entered_is)

  stays : Stays m later b.moment
  stays = record {
    ledger = ap (λ (x : State). x.catalog.ledger) is_later;
    last = ap (λ (x : State). x.last) is_later;
    tick = ap (λ (x : State). x.tick) is_later;
  }

  shelves_are : thaw can.entry (shelves_in b) ≡ shelved later.force later.catalog
  shelves_are =
      ap (thaw can.entry) p.sees.shelves_are
      ∙ thaws_same m.force index id m.catalog can.slot can.entry (sound_after choose history) (in_order_after choose history).indexes can.at
      can.entered_is can.thaws
      ∙ ap (shelved m.force) (sym catalog_is)
      ∙ ap (λ f. shelved f later.catalog) (sym (ap (λ (x : State). x.force) is_later))

  is_thawed : (old : Contents) → HasNoneFrom m.catalog.next_file old → IsThawed m.catalog index id can.entry can.archive old
  is_thawed old none =
      thaw_copied m.catalog index id can.slot can.entry can.archive old (sound_after choose history) (apart_after choose history)
      (keeps_ascending.thaws index id m.catalog (in_order_after choose history).indexes) can.at can.entered_is can.archived can.thaws none

  fills : Fills m later [] (thaw_copy can.entry can.archive (shelves_in b).next_file ∷ [])
  fills = subst (λ (s : IndexTable). Fills m later [] (thaw_copy can.entry can.archive s.next_file ∷ [])) (sym p.sees.shelves_are)
      (λ old none. (let t = is_thawed old none in (
        tt,
        t.fit,
        subst (λ (s : Catalog). Forgets (with_copies (thaw_copy can.entry can.archive m.catalog.next_file
            ∷ []) (contents_of m.catalog)) (contents_of s)) (sym catalog_is) t.lead,
      )))

  pub thaw_moves : IsMoved choose history order b.ledger.now b.moment (thawed b can.entry can.archive)
  thaw_moves =
      left_leads m later order.command b (thaw can.entry (shelves_in b)) [] (thaw_copy can.entry can.archive (shelves_in b).next_file
      ∷ []) 1 p.sees stays shelves_are fills
      (ap (λ (k : Command). judging.moved m k b.moment) (sym is))
      (subst (λ (s : Catalog). AreLetGo m.catalog s []) (sym catalog_is) (thaws_let_none_go index id m.catalog))

  pub thaw_full : KeepsBounds m → KeepsBounds later →
      ((shelves_in b).next_file < 2 ^ 63 → CanBeSaid [] (shelves_in b) (thaw can.entry (shelves_in b)) → ⊥) → ⊥
  thaw_full h k over =
      over (subst (λ (s : IndexTable). s.next_file < 2 ^ 63) (sym p.sees.shelves_are) h.next_file)
      (can_be_said choose history order b [] (thaw can.entry (shelves_in b)) p shelves_are tt k)
