-- Memory holds what the logs say, and goes on with what is accepted.
use Rattle.std.proofs.Common.{◌≡◌, ◌∙◌, ◌+◌, ℕ, Bool, true, List, [], ◌++◌, length, sym, ap, subst, append_assoc, arith}
use Rattle.std.specs.Prelude.{Option, not}
use Rattle.std.specs.List.{AllByRecursion}
use Rattle.std.proofs.lemmas.List.{append-nil}
use Rattle.ix_disk.specs.Image.{Image}
use Rattle.ix_items.specs.declared.items.Item.{Item}
use Rattle.ix_manifest.specs.Book.{NamedItems, has_settings, replay}
use Rattle.ix_commit.specs.Reads.{IsBegunFrom, first_items, next_run}
use Rattle.ix_commit.proofs.Reading.{leads_one}
use Rattle.ix_model.specs.Given.{Chooser}
use Rattle.ix_model.specs.declared.commands.TimedCommand.{TimedCommand}
use Rattle.ix_model.specs.Snap.{snapshot_of}
use Rattle.ix_model.proofs.Family.{family}
use Rattle.ix_store.specs.Remembering.{Remembers, SaysHistory}
use Rattle.ix_store.specs.Written.{over}
use Rattle.ix_store.proofs.Booked.{run_over}
use Rattle.ix_store.proofs.Counted.{take_whole}

-- ---- calls

module _ {M : Type 0} (chooses : Chooser → Type 0) (takes : TimedCommand → Type 0) (holds : Chooser → List TimedCommand → M → Type 0) where
  -- nothing has changed in memory
  pub remembers_same : (old new : M) → new ≡ old → Remembers chooses takes holds old new
  remembers_same old new same choose h chooser taken held = (
    [],
    subst (λ (l : List TimedCommand). AllByRecursion takes l) (sym (append-nil h)) taken,
    subst (λ (l : List TimedCommand). holds choose l new) (sym (append-nil h)) (subst (holds choose h) (sym same) held),
  )

  -- nor behind a call
  pub remembers_behind : (old mid new : M) → new ≡ mid → Remembers chooses takes holds old mid → Remembers chooses takes holds old new
  remembers_behind old mid new same first = subst (Remembers chooses takes holds old) (sym same) first

  -- one call behind another
  pub remembers_on : (old mid new : M) → Remembers chooses takes holds old mid → Remembers chooses takes holds mid new →
      Remembers chooses takes holds old new
  remembers_on old mid new first last choose h chooser taken held =
      let was = first choose h chooser taken held in
      let now = last choose (h ++ was.0) chooser was.1 was.2 in
      let joined = append_assoc h was.0 now.0 in (
        was.0 ++ now.0,
        subst (λ (l : List TimedCommand). AllByRecursion takes l) joined now.1,
        subst (λ (l : List TimedCommand). holds choose l new) joined now.2,
      )

-- ---- a mount

settled_whole : (choose : Chooser) (h : List TimedCommand) → has_settings (snapshot_of choose h).book ≡ true
settled_whole choose h = subst (λ (l : List TimedCommand). has_settings (snapshot_of choose l).book ≡ true) (take_whole h)
    ((family choose h).settled (length h) (omega arith) (omega arith))

-- settings stand in it, so that the run alone is begun
begun_over : (run : ℕ) (removed : Option Item) (book : NamedItems) → has_settings book ≡ true →
    next_run (over run removed book) ≡ over (run + 1) removed book
begun_over run removed book settled =
    ap (λ (b : Bool). replay (first_items (not b) (run + 1)) (over run removed book)) settled ∙ run_over run (run + 1) removed book

-- the book that was mounted is that of the history
pub recalled : (fits : NamedItems → Type 0) (choose : Chooser) (h : List TimedCommand) (image : Image) (now : NamedItems) →
    (says : SaysHistory fits choose h image) → IsBegunFrom fits image now → now ≡ over (says.run + 1) says.removed
    (snapshot_of choose h).book
recalled fits choose h image now says begun =
    begun.is ∙ ap next_run (leads_one fits image begun.book says.book begun.leads says.leads ∙ says.is)
    ∙ begun_over says.run says.removed (snapshot_of choose h).book (settled_whole choose h)
