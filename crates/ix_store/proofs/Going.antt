-- Files that no bucket and no archive has any more are staged for removal, and gone behind a
-- commit.
use Rattle.std.proofs.Common.{◌≡◌, ℕ, Bool, true, false, List, [], ◌∷◌, ◌++◌, refl, sym, ap, ◌∙◌, subst, take}
use Rattle.std.proofs.lemmas.Bool.{false≢true}
use Rattle.std.proofs.lemmas.List.Elements.{All-contains}
use Rattle.std.specs.Prelude.{All, Contains, Option, Some, None}
use Rattle.ix_base.specs.declared.files.File.{File}
use Rattle.ix_items.specs.declared.items.Item.{Item}
use Rattle.ix_items.specs.declared.items.Item.TheVariants as items
use Rattle.ix_disk.specs.Image.{Image}
use Rattle.ix_disk.specs.declared.disk.Disk.{Ghosts}
use Rattle.ix_manifest.specs.Book.{NamedItems, empty, removals_in, replay}
use Rattle.ix_manifest.specs.Root.{IsNoLog}
use Rattle.ix_manifest.specs.Slots.{items_of}
use Rattle.ix_manifest.proofs.Applying.{replay_behind}
use Rattle.ix_commit.specs.Contents.{Contents}
use Rattle.ix_commit.specs.Drafts.{Leads}
use Rattle.ix_commit.specs.Reads.{IsGone, ReadsNone}
use Rattle.ix_commit.specs.Snapshot.{Snapshot, Stages, log_of}
use Rattle.ix_commit.specs.declared.committer.Committer.{Committer}
use Rattle.ix_commit.specs.declared.write_batch.WriteBatch.{WriteBatch}
use Rattle.ix_model.specs.Done.{AreLetGo, is_filed}
use Rattle.ix_model.specs.Given.{Chooser}
use Rattle.ix_model.specs.State.{Catalog}
use Rattle.ix_model.specs.Step.{state_after}
use Rattle.ix_model.specs.declared.commands.TimedCommand.{TimedCommand}
use Rattle.ix_store.specs.Holding.{Represents}
use Rattle.ix_store.specs.Making.{LeadsThrough, with_last}
use Rattle.ix_store.specs.Written.{AreGone}
use Rattle.ix_store.specs.declared.store.Store.{Store}
use Rattle.ix_store.proofs.Booked.{done_no_logs}

-- ---- one command behind the others

-- what went before, and what goes now
pub let_go_on : (old mid new : Catalog) (a b both : List File) → ((file : File) → Contains a file → Contains both file) →
    ((file : File) → Contains b file → Contains both file) →
    AreLetGo old mid a → AreLetGo mid new b → AreLetGo old new both
let_go_on old mid new a b both in_a in_b first second file there gone = by (is_filed mid file) refl
  where
    by : (half : Bool) → is_filed mid file ≡ half → Contains both file
    by true is = in_b file (second file is gone)
    by false is = in_a file (first file there is)

-- nothing goes
pub let_none_go : (s : Catalog) (files : List File) → AreLetGo s s files
let_none_go s files file there gone = absurd (false≢true (sym gone ∙ there))

-- ---- the staged removals

-- the same with other books
rebooked : (draft : WriteBatch) (old from to : Snapshot) (first before : NamedItems) → Leads draft old from to →
    Leads draft (record { book = first; contents = old.contents }) (record { book = before; contents = from.contents })
    (record { book = replay draft.items before; contents = to.contents })
rebooked draft old from to first before leads = record {
  pieces = leads.pieces;
  copies = leads.copies;
  items = refl;
  contents = leads.contents;
}

abbrev of_empty : Snapshot → Snapshot
of_empty s = record { book = empty; contents = s.contents }

stages_empty : (committer : Committer) (old new : Snapshot) → Stages committer old new →
    Stages committer (of_empty old) (record { book = replay (items_of committer.slots) empty; contents = new.contents })
stages_empty committer old new stages = record {
  grown = stages.grown;
  parts = stages.parts;
  copies = stages.copies;
  live = stages.live;
  items = refl;
  proper = stages.proper;
}

last_named : (xs : List Item) (files : List File) (book : NamedItems) → removals_in (replay (xs ++ items.Removals files ∷ []) book) ≡ files
last_named xs files book = ap removals_in (replay_behind xs (items.Removals files ∷ []) book)

-- what the last draft names for removal is what is staged then
pub removals_staged : (before state_after : Committer) (first : Option WriteBatch) (second : WriteBatch) (files : List File)
    (old new mid to : Snapshot) →
    ((old new mid to : Snapshot) → Stages before old new → LeadsThrough first (with_last (items.Removals files) second) old new mid to →
    Stages state_after old to) →
    Stages before old new → LeadsThrough first (with_last (items.Removals files) second) old new mid to →
    removals_in (replay (items_of state_after.slots) empty) ≡ files
removals_staged before state_after None second files old new mid to stage stages leads =
    let from = replay (items_of before.slots) empty in
    let draft = with_last (items.Removals files) second in
    let last : Snapshot = record { book = replay draft.items from; contents = to.contents } in
    let staged = stage (of_empty old) (record { book = from; contents = new.contents }) (of_empty mid) last
    (stages_empty before old new stages) (rebooked draft old new to empty from leads) in
    ap removals_in (sym staged.items) ∙ last_named second.items files from
removals_staged before state_after (Some first) second files old new mid to stage stages leads =
    let from = replay (items_of before.slots) empty in
    let half = replay first.items from in
    let draft = with_last (items.Removals files) second in
    let last : Snapshot = record { book = replay draft.items half; contents = to.contents } in
    let staged = stage (of_empty old) (record { book = from; contents = new.contents }) (record { book = half; contents = mid.contents })
    last (stages_empty before old new stages)
    (rebooked first old new mid empty from leads.0, rebooked draft old mid to empty half leads.1) in
    ap removals_in (sym staged.items) ∙ last_named second.items files half

-- ---- a commit

pub all_gone : {D : Type 0} (g : Ghosts D) {M : Type 0} (fits : NamedItems → Type 0) (holds : Chooser → List TimedCommand → M →
    Type 0) (choose : Chooser) (h : List TimedCommand) (base k : ℕ) (store : Store M) (was disk : D) →
    Represents g fits holds choose h base k store was →
    ReadsNone g disk (log_of store.committer) (removals_in (replay (items_of store.committer.slots) empty)) →
    AreGone g disk (state_after choose (take k h)).catalog (state_after choose h).catalog
all_gone g fits holds choose h base k store was disk hold none image told file there gone =
    let st = hold.staged in
    let files = store.group.done_with in
    let log = log_of store.committer in
    let among = st.let_go file there gone in
    let removed = subst (λ (l : List File). All (IsGone log image) l) st.removals (none image told) in
    All-contains (IsGone log image) files file removed among
    (All-contains (IsNoLog log) files file (done_no_logs (state_after choose h).catalog log files st.ready.logged st.done) among)
