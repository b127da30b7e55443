-- What a commit makes of the images.
use Rattle.std.proofs.Common.{◌≡◌, ◌≢◌, ℕ, ◌+◌, ◌<◌, List, [], ◌∷◌, ◌++◌, length, false, Option, Some, None, refl, ap, subst, sym, ◌∙◌}
use Rattle.std.proofs.Common.{⊎_elim, inl, inr, arith}
use Rattle.std.specs.Prelude.{All, Contains}
use Rattle.std.specs.List.{AllByRecursion}
use Rattle.std.proofs.lemmas.List.Elements.{All-contains, All-nil, All-map, All-weaker}
use Rattle.ix_base.specs.declared.files.Area.TheVariants.{Meta}
use Rattle.ix_base.specs.declared.files.File.{File}
use Rattle.ix_items.specs.Spelling.{HasSpelling}
use Rattle.ix_disk.specs.Image.{Image, bytes_in, content}
use Rattle.ix_disk.specs.Moments.{ImagesStep, InFile, Always}
use Rattle.ix_disk.specs.Files.{is_it}
use Rattle.ix_disk.specs.declared.disk.Disk.{Ghosts}
use Rattle.ix_disk.proofs.Runs.{always, always_on}
use Rattle.ix_log.specs.Log.{HasBodies, Gated, IsAtEnd, file_of}
use Rattle.ix_log.specs.declared.log.Log.{Log}
use Rattle.ix_log.proofs.Elsewhere.{at_end_stays}
use Rattle.ix_manifest.specs.Book.{NamedItems, empty, replay, removals_in, Replays, IsBody}
use Rattle.ix_manifest.specs.Root.{Taken, roots, current, log_file}
use Rattle.ix_manifest.specs.Slots.{bytes_of, items_of, AreRemovals, WithBody}
use Rattle.ix_manifest.specs.Replaying.{first_after, first_length}
use Rattle.ix_manifest.specs.declared.staged_item.StagedItem.{StagedItem}
use Rattle.ix_manifest.proofs.Applying.{replays_push}
use Rattle.ix_manifest.proofs.Bodies.{end_bodies, slots_body}
use Rattle.ix_commit.specs.Contents.{Filling, filling, BeginsWith, HasFilling, HoldsFilling, Spares, Keeping, KeepsLogs, IsFree}
use Rattle.ix_commit.specs.Parts.{IsPart, AreParts, file_in, files_of}
use Rattle.ix_commit.specs.Copies.{AreCopies, after_copies}
use Rattle.ix_commit.specs.Snapshot.{Snapshot, DecodesTo, KeepsEither, AreFree, AreNoLogs, Stages, Held, AreOver, LogsAtEnd}
use Rattle.ix_commit.specs.declared.committer.Committer.{Committer}
use Rattle.ix_commit.specs.declared.staged_append.StagedAppend.{StagedAppend}
use Rattle.ix_commit.specs.declared.file_copy.FileCopy.{FileCopy}
use Rattle.ix_commit.proofs.Settling.{spared, home_no_log}
use Rattle.ix_commit.proofs.FreeFiles.{log_untouched}
use Rattle.ix_commit.proofs.Firsts.{first_stays, first_push, first_some, slots_some}

-- ---- what is staged leaves the logs alone

-- a file of the logs has no part
pub grown_logs : (old grown : Filling) (parts : List StagedAppend) → AreParts old grown parts → (file : File) → file.area ≡ Meta →
    grown file ≡ old file
grown_logs old grown parts are file meta = ⊎_elim
    (λ (same : grown file ≡ old file). same)
    (λ (found : Contains (files_of parts) file).
    let P = λ (f : File). file ≢ f in
    let apart : All P (files_of parts) = All-map P file_in parts
    (All-weaker (IsPart old grown) (λ (part : StagedAppend). file ≢ file_in part) (λ part is. home_no_log file (file_in part) meta refl)
    parts are.each) in
    absurd (All-contains P (files_of parts) file apart found refl))
    (are.others file)

pub new_apart : (committer : Committer) (old new : Snapshot) → Stages committer old new → AreNoLogs old.contents → AreNoLogs new.contents
new_apart committer old new stages apart file meta = go (new.contents file) refl
  where
    go : (there : Option (List ℕ)) → new.contents file ≡ there → content (new.contents file) ≡ []
    go None is = ap content is
    go (Some bytes) is =
        ap content is ∙ sym (stages.live file bytes is)
        ∙ log_untouched (filling old.contents) stages.grown committer.copies file stages.copies meta
        ∙ grown_logs (filling old.contents) stages.grown committer.parts stages.parts file meta
        ∙ apart file meta

-- what the appends and the copies leave begins with what the new snapshot says
pub filled_new : (committer : Committer) (old new : Snapshot) (stages : Stages committer old new) (image : Image) →
    HasFilling (after_copies committer.copies stages.grown) image → HasFilling (filling new.contents) image
filled_new committer old new stages image had = record { begins = λ file. go file (new.contents file) refl }
  where
    go : (file : File) (there : Option (List ℕ)) → new.contents file ≡ there →
        BeginsWith (content (new.contents file)) (bytes_in image file)
    go file None is = subst (λ (l : List ℕ). BeginsWith l (bytes_in image file)) (sym (ap content is)) refl
    go file (Some bytes) is = subst (λ (l : List ℕ). BeginsWith l (bytes_in image file)) (stages.live file bytes is
        ∙ sym (ap content is)) (had.begins file)

-- a change of a log leaves the rest
pub apart_filling : (log : File) (bytes : Filling) (P : List ℕ → Type 0) (a b : Image) → bytes log ≡ [] → InFile log P a b →
    HasFilling bytes a → HasFilling bytes b
apart_filling log bytes P a b none step had = record { begins = λ file. ⊎_elim (here file) (elsewhere file) (is_it file log) }
  where
    here : (file : File) → file ≡ log → BeginsWith (bytes file) (bytes_in b file)
    here file same = subst (λ (l : List ℕ). BeginsWith l (bytes_in b file)) (sym (ap bytes same ∙ none)) refl

    elsewhere : (file : File) → file ≢ log → BeginsWith (bytes file) (bytes_in b file)
    elsewhere file ne = subst (BeginsWith (bytes file)) (sym (ap content (step.others file ne))) (had.begins file)

abbrev pub number_in : File → ℕ
number_in file = file.number

root_apart : (log : File) (k : ℕ) → log ≡ current k → log_file 0 ≢ log
root_apart log k is same =
    let numbers : 0 ≡ k + 1 = ap number_in (same ∙ is) in
    omega (arith, numbers)

-- a committer with nothing staged
pub nothing_staged : (committer : Committer) (s : Snapshot) → committer.parts ≡ [] → committer.copies ≡ [] → committer.slots ≡ [] →
    Stages committer s s
nothing_staged committer s no_parts no_copies no_slots = record {
  grown = filling s.contents;
  parts = subst (AreParts (filling s.contents) (filling s.contents)) (sym no_parts)
      (record { each = All-nil _; others = λ file. inl refl; distinct = tt });
  copies = subst (AreCopies (filling s.contents) (filling s.contents)) (sym no_copies) tt;
  live = λ file bytes is. ap (λ (copies : List FileCopy). after_copies copies (filling s.contents) file) no_copies ∙ ap content is;
  items = subst (λ (slots : List StagedItem). s.book ≡ replay (items_of slots) s.book) (sym no_slots) refl;
  proper = subst (λ (slots : List StagedItem). AllByRecursion HasSpelling (items_of slots)) (sym no_slots) tt;
}

-- the files that the staged removals name may go
pub removals_free : (log : File) (committer : Committer) (new : Snapshot) (book : NamedItems) (files : List File) →
    AreRemovals committer.slots files → new.book ≡ replay (items_of committer.slots) book → AreFree log new →
    All (IsFree log new.contents) files
removals_free log committer new book files (inl none) is free = subst (All (IsFree log new.contents)) (sym none) (All-nil _)
removals_free log committer new book files (inr are) is free =
    subst (All (IsFree log new.contents)) (ap removals_in is ∙ sym (are book)) free

module _ {D : Type 0} (g : Ghosts D) (fits : NamedItems →
    Type 0) (committer : Committer) (first : D) (old new : Snapshot) (held : Held g fits committer first old new) where
  abbrev k : ℕ
  k = held.committed.checkpoints

  abbrev log : File
  log = file_of committer.log

  abbrev bodies : List (List ℕ)
  bodies = held.committed.bodies

  abbrev body : List ℕ
  body = bytes_of committer.slots

  -- the logs, and what the files begin with
  abbrev Has : List (List ℕ) → Snapshot → Image → Type 0
  Has all s image = HasBodies (roots k) (bytes_in image (log_file 0)) × HasBodies all (bytes_in image log)
      × HasFilling (filling s.contents) image

  keeps : (all : List (List ℕ)) (s : Snapshot) → Replays (Taken fits (current k)) all empty s.book → AreFree log s → (image : Image) →
      Has all s image → DecodesTo fits s image
  keeps all s replayed free image has = record {
    checkpoints = k;
    in_root = has.0;
    bodies = all;
    in_log = subst (λ (f : File). HasBodies all (bytes_in image f)) held.committed.file has.1;
    replayed = replayed;
    contents = has.2;
    free = subst (λ (f : File). AreFree f s) held.committed.file free;
  }

  old_free : AreFree log old
  old_free = subst (λ (f : File). AreFree f old) (sym held.committed.file) held.committed.free

  pub meta : log.area ≡ Meta
  meta = ap (λ (f : File). f.area) held.committed.file

  not_root : log_file 0 ≢ log
  not_root = root_apart log k held.committed.file

  pub apart_new : AreNoLogs new.contents
  apart_new = new_apart committer old new held.stages held.committed.apart

  has_at_end : (disk : D) (all : List (List ℕ)) (s : Snapshot) (now : Log) → file_of now ≡ log → IsAtEnd g committer.root disk (roots k) →
      IsAtEnd g now disk all → HoldsFilling g disk (filling s.contents) → (image : Image) → g.may_leave disk image → Has all s image
  has_at_end disk all s now file root end filled image left = (
    subst (λ (f : File). HasBodies (roots k) (bytes_in image f)) held.committed.root_file
        (end_bodies committer.root.closed (roots k) (bytes_in image committer.root.file) (root.images image left)),
    subst (λ (f : File). HasBodies all (bytes_in image f)) file
        (end_bodies now.closed all (bytes_in image now.file) (end.images image left)),
    filled image left,
  )

  has_first : (image : Image) → g.may_leave first image → Has bodies old image
  has_first = has_at_end first bodies old committer.log refl held.committed.root held.committed.end held.committed.contents

  -- what the disk keeps before
  pub held_keeps : (image : Image) → g.may_leave first image → DecodesTo fits old image
  held_keeps image left = keeps bodies old held.committed.replayed old_free image (has_first image left)

  has_spared : (all : List (List ℕ)) (s : Snapshot) (a b : Image) → Has all s a → Spares log (filling s.contents) a b → Has all s b
  has_spared all s a b has spares = (
    subst (HasBodies (roots k)) (sym (ap content spares.root_stays)) has.0,
    subst (HasBodies all) (sym (ap content spares.log_stays)) has.1,
    spares.keeps has.2,
  )

  root_spared : (before after : D) (bytes : Filling) → ImagesStep g before after (Spares log bytes) →
      IsAtEnd g committer.root before (roots k) → IsAtEnd g committer.root after (roots k)
  root_spared before after bytes run = at_end_stays g before after committer.root (roots k) (Spares log bytes)
      (λ a b spares. subst (λ (f : File). b f ≡ a f) (sym held.committed.root_file) spares.root_stays) run

  module _ (mid : D) (run : ImagesStep g first mid (Spares log (filling old.contents))) where
    -- the bytes are put and copied
    pub commit_first : Always g first mid (KeepsEither fits old new)
    commit_first = always g first mid (Spares log (filling old.contents)) (Has bodies old) (KeepsEither fits old new) run has_first
        (λ a b has spares. inl (keeps bodies old held.committed.replayed old_free b (has_spared bodies old a b has spares)))

    pub commit_end : IsAtEnd g committer.log mid bodies
    commit_end = at_end_stays g first mid committer.log bodies (Spares log (filling old.contents)) (λ a b spares. spares.log_stays) run
        held.committed.end

    root_mid : IsAtEnd g committer.root mid (roots k)
    root_mid = root_spared first mid (filling old.contents) run held.committed.root

    old_mid : HoldsFilling g mid (filling old.contents)
    old_mid = spared g log (filling old.contents) first mid run held.committed.contents

    module _ (last : D) (filled : HoldsFilling g mid (after_copies committer.copies held.stages.grown))
        (put : ImagesStep g mid last (InFile log (WithBody bodies committer.slots))) where
      new_mid : HoldsFilling g mid (filling new.contents)
      new_mid image left = filled_new committer old new held.stages image (filled image left)

      replayed_new : 0 < length committer.slots → Replays (Taken fits (current k)) (bodies ++ body ∷ []) empty new.book
      replayed_new some =
          let fit : Taken fits (current k) new.book = subst (λ (f : File). Taken fits f new.book) held.committed.file (held.fit some) in
          let is : IsBody (items_of committer.slots) body = slots_body committer.slots held.stages.proper some in
          subst (Replays (Taken fits (current k)) (bodies ++ body ∷ []) empty) (sym held.stages.items)
          (replays_push (Taken fits (current k)) bodies body (items_of committer.slots) empty old.book held.committed.replayed is
          (subst (Taken fits (current k)) held.stages.items fit))

      root_put : IsAtEnd g committer.root last (roots k)
      root_put = at_end_stays g mid last committer.root (roots k) (InFile log (WithBody bodies committer.slots))
          (λ a b step. step.others (file_of committer.root) (λ same. not_root (sym held.committed.root_file ∙ same))) put root_mid

      new_last : HoldsFilling g last (filling new.contents)
      new_last image left =
          let from = put.now image left in
          apart_filling log (filling new.contents) (WithBody bodies committer.slots) from.0 image (apart_new log meta) from.2
          (new_mid from.0 from.1)

      -- then the body
      pub commit_put : Always g first last (KeepsEither fits old new)
      commit_put = always_on g first mid last (KeepsEither fits old new) commit_first
          (always g mid last (InFile log (WithBody bodies committer.slots)) (λ image. Has bodies old image
          × HasFilling (filling new.contents) image) (KeepsEither fits old new) put
          (λ image left. (has_at_end mid bodies old committer.log refl root_mid commit_end old_mid image left, new_mid image left))
          (λ a b had step. ⊎_elim (without a b had step) (with_it a b had step) step.holds))
        where
          in_root : (a b : Image) → HasBodies (roots k) (bytes_in a (log_file 0)) → InFile log (WithBody bodies committer.slots) a b →
              HasBodies (roots k) (bytes_in b (log_file 0))
          in_root a b has step = subst (HasBodies (roots k)) (sym (ap content (step.others (log_file 0) not_root))) has

          without : (a b : Image) → Has bodies old a × HasFilling (filling new.contents) a →
              InFile log (WithBody bodies committer.slots) a b →
              HasBodies bodies (bytes_in b log) → KeepsEither fits old new b
          without a b had step has = inl (keeps bodies old held.committed.replayed old_free b (
            in_root a b had.0.0 step,
            has,
            apart_filling log (filling old.contents) (WithBody bodies committer.slots) a b
                (held.committed.apart log meta) step had.0.2,
          ))

          with_it : (a b : Image) → Has bodies old a × HasFilling (filling new.contents) a →
              InFile log (WithBody bodies committer.slots) a b →
              (0 < length committer.slots) × Gated (bodies ++ body ∷ []) (bytes_in b log) → KeepsEither fits old new b
          with_it a b had step has = inr (keeps (bodies ++ body ∷ []) new (replayed_new has.0) held.free b (
            in_root a b had.0.0 step,
            inl has.1,
            apart_filling log (filling new.contents) (WithBody bodies committer.slots) a b
                (apart_new log meta) step had.1,
          ))

      module _ (now : Log) (file : file_of now ≡ log)
          (some : 0 < length committer.slots → IsAtEnd g now last (bodies ++ body ∷ []))
          (none : length committer.slots ≡ 0 → IsAtEnd g now last bodies)
          (gone : D) (removed : ImagesStep g last gone (Spares log (filling new.contents))) where
        ending : (all : List (List ℕ)) × IsAtEnd g now last all × Replays (Taken fits (current k)) all empty new.book
        ending = by_count committer.slots refl
          where
            by_count : (slots : List StagedItem) → slots ≡ committer.slots → (all : List (List ℕ)) × IsAtEnd g now last all
                × Replays (Taken fits (current k)) all empty new.book
            by_count [] is = (
              bodies,
              none (ap length (sym is)),
              subst (Replays (Taken fits (current k)) bodies empty)
                  (sym (held.stages.items ∙ ap (λ (s : List StagedItem). replay (items_of s) old.book) (sym is))) held.committed.replayed,
            )
            by_count (slot ∷ slots) is =
                let there : 0 < length committer.slots = subst (λ (s : List StagedItem). 0 < length s) is (omega arith) in
                (bodies ++ body ∷ [], some there, replayed_new there)

        -- then the removals
        pub commit_images : Always g first gone (KeepsEither fits old new)
        commit_images = always_on g first last gone (KeepsEither fits old new) commit_put
            (always g last gone (Spares log (filling new.contents)) (Has ending.0 new) (KeepsEither fits old new) removed
            (has_at_end last ending.0 new now file root_put ending.1 new_last)
            (λ a b has spares. inr (keeps ending.0 new ending.2 held.free b (has_spared ending.0 new a b has spares))))

        -- and nothing is staged
        pub commit_done : (after : Committer) → after.root ≡ committer.root → after.log ≡ now → after.number ≡ committer.number →
            after.closed ≡ false → after.parts ≡ [] → after.copies ≡ [] → after.slots ≡ [] → Held g fits after gone new new
        commit_done after root log_is number unclosed no_parts no_copies no_slots = record {
          usable = unclosed;
          committed = record {
            checkpoints = k;
            number = number ∙ held.committed.number;
            root_file = ap file_of root ∙ held.committed.root_file;
            root = subst (λ (l : Log). IsAtEnd g l gone (roots k)) (sym root)
                (root_spared last gone (filling new.contents) removed root_put);
            file = ap file_of log_is ∙ file ∙ held.committed.file;
            bodies = ending.0;
            end = subst (λ (l : Log). IsAtEnd g l gone ending.0) (sym log_is)
                (at_end_stays g last gone now ending.0 (Spares log (filling new.contents))
                (λ a b spares. subst (λ (f : File). b f ≡ a f) (sym file) spares.log_stays) removed ending.1);
            replayed = ending.2;
            contents = spared g log (filling new.contents) last gone removed new_last;
            apart = apart_new;
            free = subst (λ (f : File). AreFree f new) held.committed.file held.free;
          };
          stages = nothing_staged after new no_parts no_copies no_slots;
          fit = λ some_slots. absurd (omega (arith, some_slots, ap length no_slots));
          free = subst (λ (f : File). AreFree f new) (sym (ap file_of log_is ∙ file)) held.free;
        }

-- ---- the logs, whatever was staged

meta_of : (log : File) (number : ℕ) → log ≡ log_file number → log.area ≡ Meta
meta_of _ number is = ap (λ (f : File). f.area) is

pub over_meta : {D : Type 0} (g : Ghosts D) (committer : Committer) (disk : D) → LogsAtEnd g committer disk →
    (file_of committer.log).area ≡ Meta
over_meta g committer disk over = meta_of (file_of committer.log) committer.number over.file

module _ {D : Type 0} (g : Ghosts D) (committer : Committer) (first mid : D) (over : LogsAtEnd g committer first) (kept : (log : File) →
    log.area ≡ Meta → ImagesStep g first mid (Keeping log)) where
  pub over_end : IsAtEnd g committer.log mid over.bodies
  over_end = at_end_stays g first mid committer.log over.bodies (Keeping (file_of committer.log)) (λ a b same. same)
      (kept (file_of committer.log) (over_meta g committer first over)) over.end

  over_root : IsAtEnd g committer.root mid (roots over.checkpoints)
  over_root = at_end_stays g first mid committer.root (roots over.checkpoints) (Keeping (file_of committer.root)) (λ a b same. same)
      (kept (file_of committer.root) (meta_of (file_of committer.root) 0 over.root_file)) over.root_end

  root_other : file_of committer.root ≢ file_of committer.log
  root_other same =
      let numbers : 0 ≡ committer.number = ap number_in (sym over.root_file ∙ same ∙ over.file) in
      omega (arith, numbers, over.counted)

  abbrev first_now : ℕ
  first_now = first_after committer.first committer.first committer.size

  module _ (last gone : D) (put : ImagesStep g mid last (InFile (file_of committer.log) (WithBody over.bodies committer.slots))) (now : Log)
      (file : file_of now ≡ file_of committer.log)
      (some : 0 < length committer.slots → IsAtEnd g now last (over.bodies ++ bytes_of committer.slots ∷ []))
      (none : length committer.slots ≡ 0 → IsAtEnd g now last over.bodies)
      (removed : ImagesStep g last gone (KeepsLogs (log_file committer.number))) where
    over_ending : (all : List (List ℕ)) × IsAtEnd g now last all × (first_now ≡ first_length all) × (first_now ≡ 0 → all ≡ [])
    over_ending = by_count committer.slots refl
      where
        by_count : (slots : List StagedItem) → slots ≡ committer.slots → (all : List (List ℕ)) × IsAtEnd g now last all
            × (first_now ≡ first_length all) × (first_now ≡ 0 → all ≡ [])
        by_count [] is =
            let size : committer.size ≡ 0 = committer.sized ∙ ap (λ (s : List StagedItem). length (bytes_of s)) (sym is) in
            let same : first_now ≡ committer.first = first_stays committer.first committer.size size in
            (over.bodies, none (ap length (sym is)), same ∙ over.measured, (λ zero. over.none (sym same ∙ zero)))
        by_count (slot ∷ slots) is =
            let there : 0 < length committer.slots = subst (λ (s : List StagedItem). 0 < length s) is (omega arith) in
            let some_bytes : 0 < length (bytes_of committer.slots) =
            subst (λ (s : List StagedItem). 0 < length (bytes_of s)) is (slots_some slot slots) in (
              over.bodies ++ bytes_of committer.slots ∷ [],
              some there,
              first_push committer.first committer.size over.bodies (bytes_of committer.slots) over.measured over.none committer.sized,
              first_some committer.first committer.size over.bodies (bytes_of committer.slots) (omega (arith, committer.sized, some_bytes)),
            )

    -- the logs stand at their ends again
    pub over_after : AreOver g committer.root now committer.number first_now gone
    over_after = record {
      checkpoints = over.checkpoints;
      counted = over.counted;
      root_file = over.root_file;
      file = file ∙ over.file;
      root_end = at_end_stays g last gone committer.root (roots over.checkpoints) (KeepsLogs (log_file committer.number))
          (λ a b kept. subst (λ (f : File). b f ≡ a f) (sym over.root_file) kept.root_stays) removed
          (at_end_stays g mid last committer.root (roots over.checkpoints)
          (InFile (file_of committer.log) (WithBody over.bodies committer.slots))
          (λ a b step. step.others (file_of committer.root) root_other) put over_root);
      bodies = over_ending.0;
      end = at_end_stays g last gone now over_ending.0 (KeepsLogs (log_file committer.number))
          (λ a b kept. subst (λ (f : File). b f ≡ a f) (sym (file ∙ over.file)) kept.log_stays) removed over_ending.1;
      measured = over_ending.2;
      none = over_ending.3;
    }
