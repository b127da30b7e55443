-- A turn of housekeeping leads from the state before a Tick to that behind it.
use Rattle.std.proofs.Common.{◌≡◌, ◌<◌, ◌+◌, ◌^◌, List, [], ◌∷◌, ◌++◌, length, drop, refl, sym, ap, ◌∙◌, subst, arith, append-nil}
use Rattle.std.proofs.Common.{length-append}
use Rattle.std.specs.List.{AllByRecursion}
use Rattle.std.specs.List.Sorted.{IsPermutation, IsSortedBy}
use Rattle.std.proofs.lemmas.List.{drop_at}
use Rattle.std.proofs.lemmas.List.Sorted.{IsPermutation-append_left, IsPermutation-sym, IsPermutation-trans}
use Rattle.ix_items.specs.declared.items.Entry.{Entry}
use Rattle.ix_commit.specs.Contents.{Contents}
use Rattle.ix_commit.specs.Drafts.{AreFitCopies, with_copies}
use Rattle.ix_commit.specs.Snapshot.{Forgets}
use Rattle.ix_model.specs.Bounds.{KeepsBounds}
use Rattle.ix_model.specs.Given.{Chooser}
use Rattle.ix_model.specs.Judged as judging
use Rattle.ix_model.specs.Ranked.{ranks_before, ranked}
use Rattle.ix_model.specs.State.{State, Catalog}
use Rattle.ix_model.specs.Step as machine
use Rattle.ix_model.specs.Step.{state_after, stepped}
use Rattle.ix_model.specs.declared.commands.Command.{Command}
use Rattle.ix_model.specs.declared.commands.Command.TheVariants.{Tick}
use Rattle.ix_model.specs.declared.commands.TimedCommand.{TimedCommand}
use Rattle.ix_model.proofs.Ascending.{in_order_after, keeps_ascending}
use Rattle.ix_model.proofs.Ranking.{ranked_moved, ranked_rises}
use Rattle.ix_model.proofs.Renewing.{apart_after}
use Rattle.ix_model.proofs.Stepping.{sound_after}
use Rattle.ix_model.proofs.Viewing.{ticks_counted}
use Rattle.ix_effects.specs.Guarding.{IsWritableEntry}
use Rattle.ix_effects.specs.Moving.{Precedes, IsMoved}
use Rattle.ix_effects.specs.Working.{here, shelves_in, made, ledger_behind, turned_shelves, turned, CanBeSaid}
use Rattle.ix_effects.specs.declared.catalog_effect.Base.{Base}
use Rattle.ix_effects.proofs.Going.{turn_lets_go}
use Rattle.ix_effects.proofs.Lists.{all_rest}
use Rattle.ix_effects.proofs.Saying.{can_be_said}
use Rattle.ix_effects.proofs.Standing.{later_is, Fills, same_items}
use Rattle.ix_effects.proofs.Writable.{entries_writable}
use Rattle.ix_catalog.specs.Shelves.{with_indexes}
use Rattle.ix_catalog.specs.Turning.{turn_all}
use Rattle.ix_catalog.specs.declared.index_table.IndexTable.{IndexTable}
use Rattle.ix_catalog.specs.declared.housekeeping_result.HousekeepingResult.{HousekeepingResult}
use Rattle.ix_model.specs.Contents.{contents_of}
use Rattle.ix_model.specs.Done.{AreLetGo, IsDone}
use Rattle.ix_model.specs.OnDisk.{HasNoneFrom, AreCopied, IsTurned}
use Rattle.ix_model.specs.Said.{new_entries}
use Rattle.ix_model.specs.Shelved.{shelved}
use Rattle.ix_model.proofs.Areas.{apart_from_logs}
use Rattle.ix_model.proofs.EarlierFiles.{none_from}
use Rattle.ix_model.proofs.TurnedFiles.{turn_copied}
use Rattle.ix_model.proofs.TurnedIndexes.{turns_same}
use Rattle.ix_state.specs.Held.{ledger_of}

-- with the new entries the ledger has those of the state behind, in the order in which they are
-- seen
behind_moved : (b : Base) (more later : List Entry) → IsPermutation (here b ++ more) later →
    IsPermutation (ledger_of b.ledger.now (ledger_behind b more)) later
behind_moved b [] later moved = subst (λ l. IsPermutation l later) (append-nil (here b)) moved
behind_moved b (e ∷ more) later moved =
    let all = here b ++ e ∷ more in
    IsPermutation-trans (ranked all) all later (IsPermutation-sym all (ranked all) (ranked_moved all)) moved

behind_rises : (b : Base) (more : List Entry) → IsSortedBy ranks_before (here b) →
    IsSortedBy ranks_before (ledger_of b.ledger.now (ledger_behind b more))
behind_rises b [] rises = rises
behind_rises b (e ∷ more) rises = ranked_rises (here b ++ e ∷ more)

copied : (choose : Chooser) (history : List TimedCommand) (b : Base) (old : Contents) →
    HasNoneFrom (state_after choose history).catalog.next_file old →
    AreCopied (state_after choose history).force b.moment (state_after choose history).catalog old
copied choose history b old none =
    let m : State = state_after choose history in
    let l = (in_order_after choose history).indexes in
    turn_copied m.force b.moment m.catalog (sound_after choose history) l (keeps_ascending.ticks m.force b.moment m.catalog l)
    (apart_after choose history) (apart_from_logs choose history) old none

module _ (choose : Chooser) (history : List TimedCommand) (order : TimedCommand) (b : Base) (p : Precedes choose history order b)
    (is : order.command ≡ Tick) where
  abbrev m : State
  m = state_after choose history

  abbrev later : State
  later = state_after choose (history ++ order ∷ [])

  abbrev turn : HousekeepingResult
  turn = turn_all b.moment (shelved m.force m.catalog)

  is_later : later ≡ stepped choose m Tick b.moment
  is_later = later_is choose history order b p ∙ ap (λ (k : Command). stepped choose m k b.moment) is

  catalog_is : later.catalog ≡ machine.tick m.force b.moment m.catalog
  catalog_is = ap (λ (x : State). x.catalog) is_later

  force_is : later.force ≡ m.force
  force_is = ap (λ (x : State). x.force) is_later

  same : IsTurned m.force b.moment m.catalog
  same = turns_same m.force b.moment m.catalog (sound_after choose history)

  made_is : made b ≡ turn
  made_is = ap (turn_all b.moment) p.sees.shelves_are

  shelves_are : turned_shelves b (made b) ≡ shelved later.force later.catalog
  shelves_are =
      ap (λ (s : IndexTable). with_indexes (turn_all b.moment s).indexes (turn_all b.moment s).next_file s) p.sees.shelves_are
      ∙ same.shelves
      ∙ ap (shelved m.force) (sym catalog_is)
      ∙ ap (λ f. shelved f later.catalog) (sym force_is)

  ledger_is : later.catalog.ledger ≡ m.catalog.ledger ++ (made b).entries
  ledger_is =
      ap (λ (s : Catalog). s.ledger) catalog_is ∙ same.ledger ∙ ap (λ (t : HousekeepingResult). m.catalog.ledger ++ t.entries) (sym made_is)

  news : (made b).entries ≡ new_entries m later
  news =
      sym (drop_at m.catalog.ledger (made b).entries (length m.catalog.ledger) refl)
      ∙ ap (drop (length m.catalog.ledger)) (sym ledger_is)

  perm : IsPermutation (here b ++ (made b).entries) later.catalog.ledger
  perm =
      subst (IsPermutation (here b ++ (made b).entries)) (sym ledger_is)
      (IsPermutation-append_left (made b).entries (here b) m.catalog.ledger p.sees.ledger_is)

  fills : Fills m later [] (made b).copies
  fills old none =
      let c = copied choose history b old none in (
        tt,
        subst (λ (t : HousekeepingResult). AreFitCopies old (contents_of m.catalog) t.copies) (sym made_is) c.fit,
        subst (λ (t : HousekeepingResult). Forgets (with_copies t.copies (contents_of m.catalog)) (contents_of later.catalog)) (sym made_is)
            (subst (λ (s : Catalog). Forgets (with_copies turn.copies (contents_of m.catalog)) (contents_of s)) (sym catalog_is) c.lead),
      )

  done : AllByRecursion (IsDone later.catalog) (made b).files
  done =
      let c = copied choose history b (contents_of m.catalog) (none_from m.catalog m.catalog.next_file (omega arith)) in
      subst (λ (t : HousekeepingResult). AllByRecursion (IsDone later.catalog) t.files) (sym made_is)
      (subst (λ (s : Catalog). AllByRecursion (IsDone s) turn.files) (sym catalog_is) c.done)

  let_go : AreLetGo m.catalog later.catalog (made b).files
  let_go =
      subst (λ (t : HousekeepingResult). AreLetGo m.catalog later.catalog t.files) (sym made_is)
      (subst (λ (s : Catalog). AreLetGo m.catalog s turn.files) (sym catalog_is)
      (turn_lets_go m.force b.moment m.catalog (sound_after choose history)))

  counted : length (made b).entries ≡ judging.moved m order.command b.moment
  counted =
      let a = ticks_counted choose history b.moment in
      let c = ap (λ (x : State). length x.catalog.ledger) is_later in
      let d = ap (λ (es : List Entry). length es) ledger_is in
      let e = length-append m.catalog.ledger (made b).entries in
      let k = ap (λ (x : Command). judging.moved m x b.moment) is in
      omega (arith, a, c, d, e, k)

  pub turn_moves : IsMoved choose history order b.ledger.now b.moment (turned b (made b))
  turn_moves = record {
    storage = record {
      shelves_are = shelves_are;
      ledger_is = behind_moved b (made b).entries later.catalog.ledger perm;
      ledger_rises = behind_rises b (made b).entries p.sees.ledger_rises;
      last_is = sym (ap (λ (x : State). x.last) is_later);
      tick_is = sym (ap (λ (x : State). x.tick) is_later);
    };
    files = fills;
    items_are = same_items m later b (made b).entries (here b ++ (made b).entries) (turned_shelves b (made b)) p.sees perm news shelves_are;
    done = done;
    let_go = let_go;
    moved_are = counted;
  }

  pub turn_full : KeepsBounds m → KeepsBounds later →
      ((shelves_in b).next_file < 2 ^ 63 → CanBeSaid (made b).entries (shelves_in b) (turned_shelves b (made b)) → ⊥) → ⊥
  turn_full h k over =
      over (subst (λ (s : IndexTable). s.next_file < 2 ^ 63) (sym p.sees.shelves_are) h.next_file)
      (can_be_said choose history order b (made b).entries (turned_shelves b (made b)) p shelves_are
      (all_rest IsWritableEntry m.catalog.ledger (made b).entries
      (subst (AllByRecursion IsWritableEntry) ledger_is (entries_writable choose (history ++ order ∷ []) k))) k)
