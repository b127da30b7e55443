-- A mount that has read the logs goes on.
use Rattle.std.proofs.Common.{◌≡◌, ◌≢◌, ◌<◌, ◌≤◌, ◌+◌, ◌-◌, ◌^◌, ◌++◌, ◌⊎◌, ℕ, Bool, true, false, List, [], ◌∷◌, length, None, Some}
use Rattle.std.proofs.Common.{refl, ap, subst, sym, ◌∙◌, inl, inr, arith}
use Rattle.std.specs.Prelude.{All, Contains, not}
use Rattle.std.proofs.lemmas.List.Elements.{All-nil, All-contains}
use Rattle.ix_base.specs.Told.{Told}
use Rattle.ix_base.specs.declared.files.File.{File}
use Rattle.ix_disk.specs.Image.{Image, bytes_in}
use Rattle.ix_disk.specs.Moments.{ImagesStep, Always}
use Rattle.ix_disk.specs.declared.disk.Disk.{Ghosts}
use Rattle.ix_items.specs.declared.items.Item.{Item}
use Rattle.ix_log.specs.Log.{HasBodies, IsAtEnd, file_of}
use Rattle.ix_log.specs.declared.log.Log.{Log}
use Rattle.ix_log.proofs.Elsewhere.{at_end_stays}
use Rattle.ix_manifest.specs.Book.{NamedItems, replay, run_in, removals_in, has_settings, IsBody}
use Rattle.ix_manifest.specs.Root.{current, log_file}
use Rattle.ix_manifest.specs.Slots.{bytes_of, items_of}
use Rattle.ix_manifest.specs.declared.staged_item.StagedItem.{StagedItem}
use Rattle.ix_manifest.proofs.Bodies.{end_bodies, slots_body}
use Rattle.ix_commit.specs.Committing.{IsShort}
use Rattle.ix_commit.specs.Contents.{Contents, IsFree, Spares, KeepsLogs, Anyhow, filling}
use Rattle.ix_commit.specs.Growing.{HasGrown}
use Rattle.ix_commit.specs.Mounting.{KeepsOneOf, IsFamily, AllKeep, IsMountedAt, IsPending, BeginsRun, HasNoNext, StandsFor}
use Rattle.ix_commit.specs.Reads.{OrGone, IsElsewhere, ReadsNone, LeadsTo, IsBegunFrom, HasNoRun, first_items, next_run}
use Rattle.ix_commit.specs.Snapshot.{Snapshot, KeepsEither, Held, Stages, LogsAtEnd, NothingStaged, IsLike, begun, log_of}
use Rattle.ix_commit.specs.declared.committer.Committer.{Committer}
use Rattle.ix_commit.specs.declared.file_copy.FileCopy.{FileCopy}
use Rattle.ix_commit.specs.declared.mounting.PendingMount.{PendingMount}
use Rattle.ix_commit.specs.declared.staged_append.StagedAppend.{StagedAppend}
use Rattle.ix_commit.proofs.Beginning.{read_over, over_same, begin_held, removed_images, begun_images, mounted_at, run_begun, as_read, stands}
use Rattle.ix_commit.proofs.Beginning.{like_one}
use Rattle.ix_commit.proofs.Holding.{nothing_staged}
use Rattle.ix_commit.proofs.Reading.{nothing_elsewhere, gone_begun, read_leads, begun_items, begun_next, removals_next}

pub either : (test : Bool) → (test ≡ true) ⊎ (test ≡ false)
either true = inl refl
either false = inr refl

-- a run begins with some item
some_slots : (fresh : Bool) (run : ℕ) (slots : List StagedItem) → items_of slots ≡ first_items fresh run → 0 < length slots
some_slots true run [] is = absurd cc
some_slots false run [] is = absurd cc
some_slots fresh run (slot ∷ slots) is = omega arith

-- ---- the run is staged

module _ (fits : NamedItems → Type 0) (before after : Committer) (book entered : NamedItems) (run : ℕ) (settled : Bool)
    (idle : NothingStaged before) (settled_is : settled ≡ has_settings book) (run_is : run ≡ run_in book)
    (staged : (old new : Snapshot) → Stages before old new → Stages after old (begun (not settled) (run + 1) new))
    (made : (s : Snapshot) → book ≡ s.book → entered ≡ (begun (not settled) (run + 1) s).book) where
  abbrev bare_book : Snapshot
  bare_book = record { book = book; contents = λ file. None }

  entered_is : entered ≡ next_run book
  entered_is =
      made bare_book refl ∙ begun_items (not settled) (run + 1) bare_book
      ∙ ap (λ (t : Bool). replay (first_items (not t) (run + 1)) book) settled_is
      ∙ ap (λ (n : ℕ). replay (first_items (not (has_settings book)) (n + 1)) book) run_is

  leads_on : (s : Snapshot) → Stages after s (begun (not (has_settings book)) (run_in book + 1) s)
  leads_on s =
      subst (λ (n : ℕ). Stages after s (begun (not (has_settings book)) (n + 1) s)) run_is
      (subst (λ (t : Bool). Stages after s (begun (not t) (run + 1) s)) settled_is
      (staged s s (nothing_staged before s idle.0 idle.1.0 idle.1.1)))

  pub begins_run : (now : NamedItems) → now ≡ entered → run < 2 ^ 63 - 1 → fits entered →
      items_of after.slots ≡ items_of before.slots ++ first_items (not settled) (run + 1) → BeginsRun fits after book now
  begins_run now same room fit said = record {
    room = omega (arith, room, run_is);
    is = same ∙ entered_is;
    taken = subst fits (sym same) fit;
    items = said ∙ ap (λ (l : List StagedItem). items_of l ++ first_items (not settled) (run + 1)) idle.1.1
        ∙ ap (λ (t : Bool). first_items (not t) (run + 1)) settled_is
        ∙ ap (λ (n : ℕ). first_items (not (has_settings book)) (n + 1)) run_is;
    proper = (leads_on bare_book).proper;
    staged = λ s is. leads_on s;
  }

  pub has_no_next : (now : NamedItems) → now ≡ entered → (fits entered → ⊥) → HasNoNext fits book now
  has_no_next now same misfit = inr (same ∙ entered_is, λ fit. misfit (subst fits same fit))

-- ---- a mount goes on

-- where no bytes and no copies are staged, no file is too short
pub none_short : (parts : List StagedAppend) (copies : List FileCopy) (file : File) (at : ℕ) → parts ≡ [] → copies ≡ [] →
    IsShort parts copies file at → ⊥
none_short parts copies file at no_parts no_copies (inl part) =
    All-contains (λ (p : StagedAppend). ⊥) [] part.0 (All-nil (λ (p : StagedAppend). ⊥))
    (subst (λ (l : List StagedAppend). Contains l part.0) no_parts part.1)
none_short parts copies file at no_parts no_copies (inr copied) =
    All-contains (λ (x : FileCopy). ⊥) [] copied.0 (All-nil (λ (x : FileCopy). ⊥))
    (subst (λ (l : List FileCopy). Contains l copied.0) no_copies copied.1)

module _ {D : Type 0} (g : Ghosts D) (fits : NamedItems → Type 0) (pending : PendingMount) (mid : D) (now : NamedItems)
    (is : IsPending g fits pending mid now) where
  pub pending_over : LogsAtEnd g pending.committer mid
  pending_over = over_same g fits is.as_read pending.committer mid is.logs (read_over g fits is.as_read mid is.book is.read)

  -- the file of the log is the one that was read
  same_file : log_of pending.committer ≡ log_of is.as_read
  same_file = ap file_of is.logs.log

  pub current_is : log_file pending.committer.number ≡ log_of is.as_read
  current_is = ap log_file is.logs.number ∙ sym (read_over g fits is.as_read mid is.book is.read).file

  -- what was read, as the disk reads
  pub pending_leads : (image : Image) → g.may_leave mid image → LeadsTo fits is.book image
  pending_leads image left = read_leads fits g is.as_read mid is.book is.read image left

  -- and that is the log of the committer
  pub current_leads : (image : Image) (left : g.may_leave mid image) →
      log_file pending.committer.number ≡ current (pending_leads image left).checkpoints
  unfolding pending_leads read_leads
  current_leads image left = current_is ∙ is.read.file

  -- the next run stands in the book, or the last one does
  pub pending_now : (pending.has_room ≡ true) ⊎ (pending.has_room ≡ false) → (now ≡ next_run is.book) ⊎ (now ≡ is.book)
  pending_now (inl some) = inl (is.room some).is
  pending_now (inr none) = by (is.none none)
    where
      by : HasNoNext fits is.book now → (now ≡ next_run is.book) ⊎ (now ≡ is.book)
      by (inl last) = inr last.1
      by (inr unfit) = inl unfit.0

  -- no further run has a number, or there is no room for it
  pub pending_full : HasNoNext fits is.book now → (image : Image) → g.may_leave mid image → HasNoRun fits image
  pending_full (inl last) image left = record { book = is.book; leads = pending_leads image left; none = inl last.0 }
  pending_full (inr unfit) image left = record {
    book = is.book;
    leads = pending_leads image left;
    none = inr (λ fit. unfit.1 (subst fits (sym unfit.0) fit));
  }

  pub pending_last : HasNoNext fits is.book now → (2 ^ 63 - 1 ≤ run_in now) ⊎ (fits now → ⊥)
  pending_last (inl last) = inl (subst (λ (b : NamedItems). 2 ^ 63 - 1 ≤ run_in b) (sym last.1) last.0)
  pending_last (inr unfit) = inr unfit.1

  -- the removals leave what every image keeps
  module _ (family : ℕ → Snapshot) (least from to : ℕ) (is_family : IsFamily family from to)
      (keeps : AllKeep g mid fits least family from to) where
    pub gone_images : ((image : Image) (disk : D) → g.seen disk ≡ Some image → g.may_leave disk image) → (files : List File) →
        files ≡ pending.removals → (del : D) → ((contents : Contents) → All (IsFree (log_of is.as_read) contents) files →
        ImagesStep g mid del (Spares (log_of is.as_read) (filling contents))) → ImagesStep g mid del Anyhow →
        Always g mid del (KeepsOneOf fits least family from to)
    gone_images may_stay files named del removed gone =
        removed_images g fits is.as_read mid is.book is.read family least from to is_family keeps may_stay files (named ∙ is.removals) del
        removed gone

    -- what stands there is like what one of the family left
    abbrev IsLikeOne : (image : Image) → g.may_leave mid image → Type 0
    IsLikeOne image left = (s : Snapshot) × (s.book ≡ now) × IsLike s (family (keeps image left).which) × (1 ≤ run_in now)

    like_next : (image : Image) (left : g.may_leave mid image) → now ≡ next_run is.book → IsLikeOne image left
    like_next image left next =
        let read = as_read g fits is.as_read mid is.book is.read family least from to is_family keeps image left in
        let run = run_in is.book + 1 in
        let fresh = not (has_settings is.book) in
        let there : (begun fresh run read).book ≡ now = begun_items fresh run read ∙ sym next in
        let at = run_begun fresh run read in
        let same = ap run_in there in (
          begun fresh run read,
          there,
          like_one g fits is.as_read mid is.book is.read family least from to is_family keeps image left run,
          omega (arith, at, same),
        )

    -- a book with the last run is no new one
    like_last : (read s : Snapshot) → 2 ^ 63 - 1 ≤ run_in read.book → StandsFor read s → IsLike read s
    like_last read s last (inl like) = like
    like_last read s last (inr new) = let none : run_in read.book ≡ 0 = ap run_in new.0 in absurd (omega (arith, last, none))

    pub pending_like : (image : Image) (left : g.may_leave mid image) → (pending.has_room ≡ true) ⊎ (pending.has_room ≡ false) →
        (s : Snapshot) × (s.book ≡ now) × IsLike s (family (keeps image left).which) × (1 ≤ run_in now)
    pending_like image left (inl some) = like_next image left (is.room some).is
    pending_like image left (inr none) = by (is.none none)
      where
        by : HasNoNext fits is.book now → IsLikeOne image left
        by (inl last) =
            let read = as_read g fits is.as_read mid is.book is.read family least from to is_family keeps image left in
            let same = ap run_in last.1 in (
              read,
              sym last.1,
              like_last read (family (keeps image left).which) last.0
                  (stands g fits is.as_read mid is.book is.read family least from to is_family keeps image left),
              omega (arith, last.0, same),
            )
        by (inr unfit) = like_next image left unfit.0

  -- the next run begins
  module _ (begins : BeginsRun fits pending.committer is.book now) where
    abbrev run : ℕ
    run = run_in is.book + 1

    abbrev fresh : Bool
    fresh = not (has_settings is.book)

    abbrev bare : Snapshot
    bare = record { book = is.book; contents = λ file. None }

    next_is : (s : Snapshot) → s.book ≡ is.book → (begun fresh run s).book ≡ now
    next_is s same = begun_items fresh run s ∙ ap (replay (first_items fresh run)) same ∙ sym begins.is

    pub pending_small : run_in now < 2 ^ 63
    pending_small = let at = run_begun fresh run bare in let same = ap run_in (next_is bare refl) in omega (arith, at, same, begins.room)

    pub pending_begun : (image : Image) → g.may_leave mid image → IsBegunFrom fits image now
    pending_begun image left = record {
      book = is.book;
      leads = pending_leads image left;
      room = begins.room;
      is = begins.is;
      taken = begins.taken;
    }

    some : 0 < length pending.committer.slots
    some = some_slots fresh run pending.committer.slots begins.items

    pub pending_staged : NothingStaged pending.committer → ⊥
    pending_staged idle = omega (arith, ap length idle.1.1, some)

    -- what is staged leads to the snapshot of the run
    ready : (disk : D) (s : Snapshot) → s.book ≡ is.book → Held g fits is.as_read disk s s →
        Held g fits pending.committer disk s (begun (not (has_settings s.book)) run s)
    ready disk s same held =
        begin_held g fits is.as_read pending.committer disk s run fresh (ap (λ (b : NamedItems). not (has_settings b)) (sym same)) is.logs held
        (begins.staged s same) (subst fits (sym (next_is s same)) begins.taken)

    module _ (family : ℕ → Snapshot) (least from to : ℕ) (is_family : IsFamily family from to)
        (keeps : AllKeep g mid fits least family from to) (files : List File) (named : files ≡ pending.removals) (del : D)
        (removed : (contents : Contents) → All (IsFree (log_of is.as_read) contents) files →
        ImagesStep g mid del (Spares (log_of is.as_read) (filling contents))) where
      pub then_images : ((image : Image) (disk : D) → g.seen disk ≡ Some image → g.may_leave disk image) → ImagesStep g mid del Anyhow →
          (last : D) → ((old new : Snapshot) → Held g fits pending.committer del old new → Always g del last (KeepsEither fits old new)) →
          ImagesStep g del last Anyhow → Always g mid last (KeepsOneOf fits least family from to)
      then_images may_stay gone last images comes =
          begun_images g fits is.as_read mid is.book is.read family least from to is_family keeps may_stay files (named ∙ is.removals) del
          removed gone run (omega arith) last
          (λ s same held. images s (begun (not (has_settings s.book)) run s) (ready del s same held)) comes

      pub then_mounted : (image : Image) → g.may_leave mid image → (after : Committer) (last : D) →
          ((old new : Snapshot) → Held g fits pending.committer del old new → Held g fits after last new new) →
          IsMountedAt g fits after last now family from to image
      then_mounted image left after last done =
          mounted_at g fits is.as_read mid is.book is.read family least from to is_family keeps image left files (named ∙ is.removals) del
          removed after last now run refl
          (λ s same. begins.is ∙ sym (begun_next is.book run s (sym same) refl))
          (λ s same held. done s (begun (not (has_settings s.book)) run s) (ready del s same held))

    -- the log has the one body more
    pub then_grown : ((image : Image) (disk : D) → g.seen disk ≡ Some image → g.may_leave disk image) → (del : D) →
        ImagesStep g mid del (KeepsLogs (log_of is.as_read)) → (after : Committer) (last : D) →
        ((bodies : List (List ℕ)) → IsAtEnd g pending.committer.log del bodies → 0 < length pending.committer.slots →
        IsAtEnd g after.log last (bodies ++ bytes_of pending.committer.slots ∷ [])) → LogsAtEnd g after last →
        log_of after ≡ log_of pending.committer → (first second : Image) → g.seen mid ≡ Some first → g.seen last ≡ Some second →
        HasGrown fits after.number first second now
    unfolding pending_leads read_leads
    then_grown may_stay del kept after last body over file first second told told_last =
        let read = is.read in
        let slots = pending.committer.slots in
        let stays = at_end_stays g mid del is.as_read.log read.bodies (KeepsLogs (log_of is.as_read)) (λ a b same. same.log_stays) kept
        read.end in
        let end = body read.bodies (subst (λ (l : Log). IsAtEnd g l del read.bodies) (sym is.logs.log) stays) some in
        let there : log_of after ≡ current read.checkpoints = file ∙ same_file ∙ read.file in
        record {
          before = is.book;
          leads = pending_leads first (may_stay first mid told);
          counted = ap (λ (f : File). f.number) (sym over.file ∙ there);
          is = begins.is;
          body = bytes_of slots;
          begins = subst (λ (l : List Item). IsBody l (bytes_of slots)) begins.items (slots_body slots begins.proper some);
          grown = subst (λ (f : File). HasBodies (read.bodies ++ bytes_of slots ∷ []) (bytes_in second f)) there
              (end_bodies after.log.closed (read.bodies ++ bytes_of slots
              ∷ []) (bytes_in second (log_of after)) (end.images second (may_stay second last told_last)));
        }

    -- and what was removed stays so
    pub then_gone : (files : List File) → files ≡ pending.removals → (del last : D) (after : Committer) →
        Told Anyhow (g.seen del) (g.seen last) →
        ((other : File) → IsElsewhere pending.committer.parts pending.committer.copies other → other ≢ log_of pending.committer →
        Told (OrGone other) (g.seen del) (g.seen last)) → ReadsNone g del (log_file pending.committer.number) files →
        log_of after ≡ log_of pending.committer → ReadsNone g last (log_of after) (removals_in now)
    then_gone files listed del last after told each gone file =
        let log = log_of is.as_read in
        let parts = pending.committer.parts in
        let copies = pending.committer.copies in
        let behind = gone_begun g log files del last told
        (λ other ne. each other (nothing_elsewhere parts copies other is.no_parts is.no_copies) (λ same. ne (same ∙ same_file)))
        (subst (λ (f : File). ReadsNone g del f files) current_is gone) in
        let named : files ≡ removals_in now = listed ∙ is.removals ∙ sym (removals_next fresh run bare)
        ∙ ap removals_in (next_is bare refl) in
        subst (λ (f : File). ReadsNone g last f (removals_in now)) (sym (file ∙ same_file))
        (subst (λ (l : List File). ReadsNone g last log l) named behind)
