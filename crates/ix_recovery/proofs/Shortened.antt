-- A log that was made short: the log before it is its last removal.
use Rattle.std.proofs.Common.{◌≡◌, ◌≢◌, ◌<◌, ◌^◌, ℕ, true, false, List, [], ◌∷◌, refl, sym, ap, ◌∙◌, subst, arith}
use Rattle.std.specs.Prelude.{All, Option, Some, None, option_to_list}
use Rattle.std.specs.List.{AllByRecursion, sum_by}
use Rattle.std.proofs.lemmas.List.Elements.{All-from_recursion, recursion_from_All}
use Rattle.ix_base.specs.declared.files.Area.TheVariants.{Meta}
use Rattle.ix_base.specs.declared.files.File.{File}
use Rattle.ix_manifest.specs.Book.{empty, replay, removals_in}
use Rattle.ix_items.specs.declared.items.Item.{Item}
use Rattle.ix_items.specs.declared.items.Item.TheVariants as items
use Rattle.ix_model.specs.Given.{Chooser}
use Rattle.ix_model.specs.declared.commands.TimedCommand.{TimedCommand}
use Rattle.ix_replay.specs.Amounts.{file_in, archive_file, uses, next_in, bytes_in, events_in, channels_in, size_in}
use Rattle.ix_replay.specs.Bounds.{IsFileNumber, IsWithin, IsSpared, KeepsBounds}
use Rattle.ix_replay.specs.Fits.{fits}
use Rattle.ix_replay.specs.Lists.{Lists}
use Rattle.ix_replay.proofs.OneList.{all_keep}
use Rattle.ix_model.specs.Contents.{is_meta_area}
use Rattle.ix_model.specs.Snap.{snapshot_of}
use Rattle.ix_store.specs.Written.{over}
use Rattle.ix_recovery.specs.ListLaws.{FitsWithLog}
use Rattle.ix_recovery.specs.Listed.{left_items, removal_item, all_items}
use Rattle.ix_recovery.proofs.ListFitting.{as_removals}
use Rattle.ix_recovery.proofs.Listing.{states_are_listed}
use Rattle.ix_recovery.proofs.Members.{all_behind, all_from}
use Rattle.ix_recovery.proofs.Summing.{over_sum}

none_some : {X : Type 0} {x : X} → None ≡ Some x → ⊥
none_some e = cc

some_same : {X : Type 0} {x y : X} → Some x ≡ Some y → x ≡ y
some_same e = cc

true_false : true ≡ false → ⊥
true_false e = cc

-- ---- the file of a log is none of a bucket or an archive

no_archive : (archive : Option ℕ) (log : File) → log.area ≡ Meta → archive_file archive ≢ Some log
no_archive None log meta e = none_some e
no_archive (Some number) log meta e = true_false (sym (ap (λ (f : File). is_meta_area f.area) (some_same e) ∙ ap is_meta_area meta))

no_log : (log : File) → log.area ≡ Meta → (x : Item) → IsWithin x → file_in x ≢ Some log
no_log log meta (items.Settings kept) w e = none_some e
no_log log meta (items.Run run) w e = none_some e
no_log log meta (items.Moments last tick) w e = none_some e
no_log log meta (items.Channel name stated carry) w e = none_some e
no_log log meta (items.Ended name) w e = none_some e
no_log log meta (items.Bucket index bucket) w e = w.area (ap (λ (f : File). f.area) (some_same e) ∙ meta)
no_log log meta (items.Gone index id) w e = none_some e
no_log log meta (items.Ledger entry) w e = no_archive entry.archive log meta e
no_log log meta (items.Counts settled nulled dropped placed) w e = none_some e
no_log log meta (items.Spot spot) w e = none_some e
no_log log meta (items.NextFile number) w e = none_some e
no_log log meta (items.Removals files) w e = none_some e
no_log log meta (items.NextId index id) w e = none_some e

all_spared : (log : File) → log.area ≡ Meta → (said : List Item) → AllByRecursion IsWithin said → All (IsSpared (log ∷ [])) said
all_spared log meta said within =
    All-from_recursion (IsSpared (log ∷ [])) said
    (all_from (IsSpared (log ∷ [])) IsWithin said (λ x w. All-from_recursion (λ (f : File). file_in x ≢ Some f) (log
    ∷ []) (no_log log meta x w, tt)) within)

-- ---- a log that fits still does

module _ (choose : Chooser) (history : List TimedCommand) (run : ℕ) (removed : Option (List File)) (log : File) (meta : log.area ≡ Meta)
    (few : log.number < 2 ^ 63)
    (fit : fits (over run (removal_item removed) (snapshot_of choose history).book)) where
  abbrev said : List Item
  said = left_items choose history

  abbrev before : List Item
  before = all_items run removed said

  abbrev now : List Item
  now = all_items run (Some (log ∷ [])) said

  keeps : KeepsBounds before
  keeps = all_keep (over run (removal_item removed) (snapshot_of choose history).book) before fit
      (states_are_listed choose history run removed)

  lists : Lists now (over run (Some (items.Removals (log ∷ []))) (snapshot_of choose history).book)
  lists = states_are_listed choose history run (Some (log ∷ []))

  within_before : AllByRecursion IsWithin before
  within_before = recursion_from_All IsWithin before keeps.within

  within_now : AllByRecursion IsWithin now
  within_now = (
    within_before.0,
    (
      All-from_recursion IsFileNumber (log ∷ []) (few, tt),
      all_behind IsWithin (option_to_list (removal_item removed)) said within_before.1,
    ),
  )

  -- a run and last removals count for nothing
  same : (count : Item → ℕ) → count (items.Run run) ≡ 0 → ((list : List File) → count (items.Removals list) ≡ 0) →
      sum_by count now ≡ sum_by count before
  same count none none_removed = over_sum count run (Some (log ∷ [])) said none none_removed
      ∙ sym (over_sum count run removed said none none_removed)

  next_same : next_in (replay now empty) ≡ next_in (replay before empty)
  next_same = sym (ap next_in lists.stands) ∙ ap next_in (states_are_listed choose history run removed).stands

  pub fits_now : fits (over run (Some (items.Removals (log ∷ []))) (snapshot_of choose history).book)
  fits_now = (
    now,
    lists,
    record {
      within = All-from_recursion IsWithin now within_now;
      apart = record {
        one_each = λ n. (let e = same (uses n) refl (λ list. refl) in let h = keeps.apart.one_each n in omega (arith, e, h));
        from_one = (let e = same (uses 0) refl (λ list. refl) in let h = keeps.apart.from_one in omega (arith, e, h));
        below = λ n l. (let e = same (uses n) refl (λ list. refl) in let h = keeps.apart.below n (omega (arith, l, next_same)) in
            omega (arith, e, h));
      };
      spared = subst (λ (list : List File). All (IsSpared list) now) (ap removals_in lists.stands) (all_spared log meta now within_now);
      bytes = (let e = same bytes_in refl (λ list. refl) in let h = keeps.bytes in omega (arith, e, h));
      events = (let e = same events_in refl (λ list. refl) in let h = keeps.events in omega (arith, e, h));
      channels = (let e = same channels_in refl (λ list. refl) in let h = keeps.channels in omega (arith, e, h));
      size = (let e = same size_in refl (λ list. refl) in let h = keeps.size in omega (arith, e, h));
    },
  )

pub fits_with_log : FitsWithLog
fits_with_log choose history run removed log meta few fit =
    let o = as_removals run removed (snapshot_of choose history).book fit in
    fits_now choose history run o.0 log meta few (subst (λ (r : Option Item). fits (over run r (snapshot_of choose history).book)) o.1 fit)
