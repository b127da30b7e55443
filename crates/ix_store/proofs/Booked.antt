-- Books and files behind a further command.
use Rattle.std.proofs.Common.{◌≡◌, ◌≢◌, ℕ, Bool, true, false, List, [], ◌∷◌, ◌++◌, take, drop, refl, sym, ap, ◌∙◌, subst}
use Rattle.std.specs.Prelude.{All, Option, Some, None, if◌then◌else◌}
use Rattle.std.specs.List.{AllByRecursion}
use Rattle.std.proofs.lemmas.List.{take-append-drop}
use Rattle.std.proofs.lemmas.List.Elements.{All-from_recursion}
use Rattle.ix_base.specs.declared.files.Area.TheVariants as areas
use Rattle.ix_base.specs.declared.files.File.{File}
use Rattle.ix_items.specs.declared.items.Item.{Item}
use Rattle.ix_items.specs.declared.items.Item.TheVariants as items
use Rattle.ix_disk.specs.Image.{content}
use Rattle.ix_manifest.specs.Book.{Name, NamedItems, NoneUnder, named, name_of, is_same, left_by, after_item, replay}
use Rattle.ix_manifest.specs.Root.{IsNoLog, log_file}
use Rattle.ix_manifest.proofs.Applying.{replay_behind}
use Rattle.ix_manifest.proofs.InPlace.{none_under}
use Rattle.ix_manifest.proofs.Renaming.{same_name}
use Rattle.ix_commit.specs.Contents.{Contents, IsFree, filling}
use Rattle.ix_commit.specs.Drafts.{Leads, AreFit, AreFitCopies, with_pieces, with_copies}
use Rattle.ix_commit.specs.Snapshot.{Snapshot, Forgets}
use Rattle.ix_commit.specs.declared.write_batch.WriteBatch.{WriteBatch}
use Rattle.ix_model.specs.Given.{Chooser}
use Rattle.ix_model.specs.State.{Catalog}
use Rattle.ix_model.specs.Step.{state_after}
use Rattle.ix_model.specs.declared.commands.TimedCommand.{TimedCommand}
use Rattle.ix_model.proofs.Named.{by_test}
use Rattle.ix_model.specs.Contents.{contents_of}
use Rattle.ix_model.specs.OnDisk.{HasNoneFrom}
use Rattle.ix_model.specs.Snap.{snapshot_of, snapshot_of_prefix}
use Rattle.ix_model.proofs.Done.{done_has_none, done_stays}
use Rattle.ix_model.proofs.EarlierFiles.{earlier_none}
use Rattle.ix_store.specs.Written.{over, IsOf, AreDone}
use Rattle.ix_store.specs.Making.{LeadsOn, LeadsBy, LeadsThrough, with_last}

-- ---- books

abbrev run_name : Name
run_name = named 2 [] 0

abbrev removals_name : Name
removals_name = named 12 [] 0

-- what stands under a name goes by what stood there
replay_alike : (xs : List Item) (a b : NamedItems) (name : Name) → a name ≡ b name → replay xs a name ≡ replay xs b name
replay_alike [] a b name e = e
replay_alike (x ∷ xs) a b name e = replay_alike xs (after_item x a) (after_item x b) name
    (ap (λ (o : Option Item). if is_same (name_of x) name then left_by x else o) e)

chosen : {T : Type 0} (test : Bool) (x y : T) → test ≡ false → (if test then x else y) ≡ y
chosen true x y is = absurd cc
chosen false x y is = refl

-- under names of a history stands the history's book
pub over_other : (run : ℕ) (removed : Option Item) (book : NamedItems) (name : Name) → is_same run_name name ≡ false →
    is_same removals_name name ≡ false → over run removed book name ≡ book name
over_other run removed book name a b =
    chosen (is_same run_name name) (Some (items.Run run)) (if is_same removals_name name then removed else book name) a
    ∙ chosen (is_same removals_name name) removed (book name) b

over_at : (run : ℕ) (xs : List Item) (removed : Option Item) (book : NamedItems) (name : Name) → NoneUnder run_name xs →
    replay xs (over run removed book) name ≡ over run (replay xs (over run removed book) removals_name) (replay xs book) name
over_at run xs removed book name none =
    by_test (is_same run_name name)
    (λ t. subst (λ (n : Name). replay xs (over run removed book) n ≡ over run (replay xs (over run removed book) removals_name)
    (replay xs book) n) (same_name run_name name t)
    (none_under xs run_name (over run removed book) none))
    (λ t. by_test (is_same removals_name name)
    (λ u. subst (λ (n : Name). replay xs (over run removed book) n ≡ over run (replay xs (over run removed book) removals_name)
    (replay xs book) n) (same_name removals_name name u) refl)
    (λ u. replay_alike xs (over run removed book) book name (over_other run removed book name t u)
    ∙ sym (over_other run (replay xs (over run removed book) removals_name) (replay xs book) name t u)))

-- items of a history go past the run
over_replay : (run : ℕ) (xs : List Item) (removed : Option Item) (book : NamedItems) → NoneUnder run_name xs →
    replay xs (over run removed book) ≡ over run (replay xs (over run removed book) removals_name) (replay xs book)
over_replay run xs removed book none = λ i name. over_at run xs removed book name none i

removals_at : (run : ℕ) (files : List File) (removed : Option Item) (book : NamedItems) (name : Name) →
    after_item (items.Removals files) (over run removed book) name ≡ over run (Some (items.Removals files)) book name
removals_at run files removed book name =
    by_test (is_same run_name name)
    (λ t. subst (λ (n : Name). after_item (items.Removals files) (over run removed book) n ≡ over run (Some (items.Removals files)) book n)
    (same_name run_name name t) refl)
    (λ t. by_test (is_same removals_name name)
    (λ u. subst (λ (n : Name). after_item (items.Removals files) (over run removed book) n ≡ over run (Some (items.Removals files)) book n)
    (same_name removals_name name u) refl)
    (λ u. chosen (is_same removals_name name) (Some (items.Removals files)) (over run removed book name) u
    ∙ over_other run removed book name t u ∙ sym (over_other run (Some (items.Removals files)) book name t u)))

run_at : (run next : ℕ) (removed : Option Item) (book : NamedItems) (name : Name) →
    after_item (items.Run next) (over run removed book) name ≡ over next removed book name
run_at run next removed book name =
    by_test (is_same run_name name)
    (λ t. subst (λ (n : Name). after_item (items.Run next) (over run removed book) n ≡ over next removed book n)
    (same_name run_name name t) refl)
    (λ t. let rest = if is_same removals_name name then removed else book name in
    chosen (is_same run_name name) (Some (items.Run next)) (over run removed book name) t
    ∙ chosen (is_same run_name name) (Some (items.Run run)) rest t
    ∙ sym (chosen (is_same run_name name) (Some (items.Run next)) rest t))

-- a further run is begun
pub run_over : (run next : ℕ) (removed : Option Item) (book : NamedItems) →
    after_item (items.Run next) (over run removed book) ≡ over next removed book
run_over run next removed book = λ i name. run_at run next removed book name i

-- ---- snapshots

-- a draft leads on from what a run has written
pub led_on : (run : ℕ) (draft : WriteBatch) (old from to here : Snapshot) → LeadsOn draft old from to → IsOf run here from →
    (there : Snapshot) × IsOf run there to × Leads draft old here there
led_on run draft old from to here leads is =
    let there : Snapshot = record { book = replay draft.items here.book; contents = to.contents } in
    let l = leads.leads in (
      there,
      record {
        removed = replay draft.items (over run is.removed from.book) removals_name;
        book = ap (replay draft.items) is.book ∙ over_replay run draft.items is.removed from.book leads.run
            ∙ ap (over run (replay draft.items (over run is.removed from.book) removals_name)) (sym l.items);
        contents = refl;
      },
      record {
        pieces = subst (λ (c : Contents). AreFit c draft.pieces) (sym is.contents) l.pieces;
        copies = subst (λ (c : Contents). AreFitCopies old.contents (with_pieces draft.pieces c) draft.copies) (sym is.contents) l.copies;
        items = refl;
        contents = subst (λ (c : Contents). Forgets (with_copies draft.copies (with_pieces draft.pieces c)) to.contents) (sym is.contents)
            l.contents;
      },
    )

-- with last removals behind its items
removed_then : (run : ℕ) (files : List File) (draft : WriteBatch) (old here there to : Snapshot) → Leads draft old here there →
    IsOf run there to →
    (last : Snapshot) × (last.book ≡ over run (Some (items.Removals files)) to.book) × (last.contents ≡ to.contents)
    × Leads (with_last (items.Removals files) draft) old here last
removed_then run files draft old here there to leads is = (
  record { book = after_item (items.Removals files) there.book; contents = to.contents },
  ap (after_item (items.Removals files)) is.book ∙ (λ i name. removals_at run files is.removed to.book name i),
  refl,
  record {
    pieces = leads.pieces;
    copies = leads.copies;
    items = ap (after_item (items.Removals files)) leads.items ∙ sym (replay_behind draft.items (items.Removals files ∷ []) here.book);
    contents = subst (λ (c : Contents). Forgets (with_copies draft.copies (with_pieces draft.pieces here.contents)) c) is.contents
        leads.contents;
  },
)

-- what the drafts of a command lead to, with last removals
pub record Led (run : ℕ) (files : List File) (first : Option WriteBatch) (second : WriteBatch) (old here to : Snapshot) : Type 0 where
  pub mid : Snapshot
  pub last : Snapshot
  pub book : last.book ≡ over run (Some (items.Removals files)) to.book
  pub contents : last.contents ≡ to.contents
  pub leads : LeadsThrough first (with_last (items.Removals files) second) old here mid last

pub led_by : (run : ℕ) (files : List File) (first : Option WriteBatch) (second : WriteBatch) (old from mid to here : Snapshot) →
    LeadsBy first second old from mid to → IsOf run here from →
    Led run files first second old here to
led_by run files None second old from mid to here leads is =
    let one = led_on run second old from to here leads is in
    let two = removed_then run files second old here one.0 to one.2 one.1 in
    record { mid = here; last = two.0; book = two.1; contents = two.2; leads = two.3 }
led_by run files (Some first) second old from mid to here leads is =
    let half = led_on run first old from mid here leads.0 is in
    let one = led_on run second old mid to half.0 leads.1 half.1 in
    let two = removed_then run files second old half.0 one.0 to one.2 one.1 in
    record { mid = half.0; last = two.0; book = two.1; contents = two.2; leads = (half.2, two.3) }

-- ---- files

pub left_contents : (choose : Chooser) (h : List TimedCommand) →
    (snapshot_of choose h).contents ≡ contents_of (state_after choose h).catalog
left_contents choose [] = refl
left_contents choose (o ∷ h) = refl

-- what the first commands left has nothing in files that are still to come
pub none_before : (choose : Chooser) (h : List TimedCommand) (k : ℕ) (old : Snapshot) →
    old.contents ≡ (snapshot_of_prefix choose h k).contents → HasNoneFrom (state_after choose h).catalog.next_file old.contents
none_before choose h k old is =
    subst (HasNoneFrom (state_after choose h).catalog.next_file) (sym (is ∙ left_contents choose (take k h)))
    (subst (λ (l : List TimedCommand). HasNoneFrom (state_after choose l).catalog.next_file
    (contents_of (state_after choose (take k h)).catalog)) (take-append-drop k h)
    (earlier_none choose (take k h) (drop k h)))

-- ---- files that are done with

pub all_more : {X : Type 0} (P : X → Type 0) (a b : List X) → AllByRecursion P a → AllByRecursion P b → AllByRecursion P (a ++ b)
all_more P [] b pa pb = pb
all_more P (x ∷ a) b pa pb = (pa.0, all_more P a b pa.1 pb)

pub done_later : (choose : Chooser) (before later : List TimedCommand) (files : List File) →
    AreDone (state_after choose before).catalog files → AreDone (state_after choose (before ++ later)).catalog files
done_later choose before later [] all = tt
done_later choose before later (f ∷ files) all = (done_stays choose before later f all.0, done_later choose before later files all.1)

no_log : (log : File) (f : File) → log.area ≡ areas.Meta → f.area ≢ areas.Meta → f ≢ log
no_log log f meta apart = λ e. apart (ap (λ (g : File). g.area) e ∙ meta)

pub done_no_logs : (s : Catalog) (log : File) (files : List File) → log.area ≡ areas.Meta → AreDone s files → All (IsNoLog log) files
done_no_logs s log files meta all = All-from_recursion _ files (go files all)
  where
    go : (files : List File) → AreDone s files → AllByRecursion (IsNoLog log) files
    go [] all = tt
    go (f ∷ files) all = ((no_log (log_file 0) f refl all.0.apart, no_log log f meta all.0.apart), go files all.1)

pub done_free : (s : Catalog) (log : File) (contents : Contents) (files : List File) → log.area ≡ areas.Meta → contents ≡ contents_of s →
    AreDone s files → All (IsFree log contents) files
done_free s log contents files meta is all = All-from_recursion _ files (go files all)
  where
    go : (files : List File) → AreDone s files → AllByRecursion (IsFree log contents) files
    go [] all = tt
    go (f ∷ files) all = (
      record {
        not_root = no_log (log_file 0) f refl all.0.apart;
        not_current = no_log log f meta all.0.apart;
        none = ap (λ (c : Contents). filling c f) is ∙ ap content (done_has_none s f all.0);
      },
      go files all.1,
    )
