-- A mount reads the logs, and begins the next run.
use Rattle.std.proofs.Common.{◌≡◌, ◌≢◌, ℕ, zero, suc, ◌≤◌, ◌<◌, ◌+◌, ◌-◌, List, [], length, Bool, true, false, Option, Some, None}
use Rattle.std.proofs.Common.{if◌then◌else◌, refl, ap, subst, sym, ◌∙◌, ⊎_elim, inl, inr, arith, length-append}
use Rattle.std.specs.Prelude.{All, ◌==◌, ◌&&◌, bytes_eq, not}
use Rattle.std.proofs.lemmas.List.Elements.{All-weaker}
use Rattle.std.proofs.lemmas.Bool.Decides.{nat_tests}
use native.Mathlib.Numerals.{unary_clauses}
use Rattle.ix_base.specs.declared.files.File.{File}
use Rattle.ix_items.specs.declared.items.Item.{Item}
use Rattle.ix_items.specs.declared.items.Item.TheVariants as items
use Rattle.ix_disk.specs.Image.{Image, bytes_in}
use Rattle.ix_disk.specs.Moments.{ImagesStep, Always}
use Rattle.ix_disk.specs.declared.disk.Disk.{Ghosts}
use Rattle.ix_disk.proofs.Runs.{always_begins, always_on, always_weaker}
use Rattle.ix_log.specs.Log.{HasBodies, IsAtEnd, file_of}
use Rattle.ix_log.specs.declared.log.Log.{Log}
use Rattle.ix_log.proofs.OneList.{one_list_of}
use Rattle.ix_log.proofs.Elsewhere.{at_end_stays}
use Rattle.ix_manifest.specs.Book.{Name, NamedItems, empty, named, is_same, run_in, removals_in, has_settings, is_there, Replays}
use Rattle.ix_manifest.specs.Replaying.{IsBadGate}
use Rattle.ix_manifest.specs.Root.{Taken, IsNoLog, roots, current, log_file}
use Rattle.ix_manifest.proofs.Applying.{replays_one}
use Rattle.ix_manifest.proofs.Bodies.{end_bodies}
use Rattle.ix_commit.specs.Contents.{Contents, HasFilling, HoldsFilling, Spares, IsFree, Anyhow, filling}
use Rattle.ix_commit.specs.Snapshot.{Snapshot, DecodesTo, KeepsEither, AreFree, AreNoLogs, Stages, Held, IsLike, LogsAtEnd, log_of}
use Rattle.ix_commit.specs.Snapshot.{with_item, begun}
use Rattle.ix_commit.specs.Undo.{HasSameLogs}
use Rattle.ix_commit.specs.Mounting.{StandsFor, KeepsOneOf, AreNear, IsFamily, AllKeep, IsRead, IsMountedAt, IsBadLog, as_mount_too}
use Rattle.ix_commit.specs.declared.committer.Committer.{Committer}
use Rattle.ix_commit.specs.declared.fault.CommitFault.{CommitFault}
use Rattle.ix_commit.specs.declared.fault.CommitFault.TheVariants as commits
use Rattle.ix_commit.specs.declared.mounting.MountFault.TheVariants as mounts
use Rattle.ix_commit.proofs.Settling.{spared, anyhow_on}
use Rattle.ix_commit.proofs.Firsts.{replayed_some}
use Rattle.ix_commit.proofs.Holding.{nothing_staged, commit_first, held_keeps}

pub commit_damaged : (fault : CommitFault) (file : File) (at : ℕ) → as_mount_too fault ≡ mounts.Damaged file at →
    fault ≡ commits.Damaged file at
commit_damaged commits.Disk file at is = absurd cc
commit_damaged (commits.Damaged f a) file at is = cc

-- ---- logs

pub length_roots : (k : ℕ) → length (roots k) ≡ k
length_roots zero = refl
length_roots (suc k) = length-append (roots k) _ ∙ ap (λ (n : ℕ). n + 1) (length_roots k) ∙ simp unary_clauses refl

pub roots_one : (a b : ℕ) → roots a ≡ roots b → a ≡ b
roots_one a b is = sym (length_roots a) ∙ ap length is ∙ length_roots b

-- ---- names

chosen : (test : Bool) (x y : Option Item) → test ≡ false → (if test then x else y) ≡ y
chosen true x y is = absurd cc
chosen false x y is = refl

other_name : (kind : ℕ) (name : Name) → name.kind ≢ kind → is_same (named kind [] 0) name ≡ false
other_name kind name ne = go (kind == name.kind) refl
  where
    go : (test : Bool) → (kind == name.kind) ≡ test → is_same (named kind [] 0) name ≡ false
    go true is = let same : name.kind ≡ kind = grind (arith, nat_tests) in absurd (ne same)
    go false is = ap (λ (b : Bool). b && (bytes_eq [] name.text && (0 == name.number))) is

-- the run's item leaves a snapshot like it
pub like_run : (run : ℕ) (a b : Snapshot) → IsLike a b → IsLike (with_item (items.Run run) a) b
like_run run a b like = record {
  books = λ name not_run not_removals. chosen (is_same (named 2 [] 0) name) (Some (items.Run run)) (a.book name) (other_name 2 name not_run)
      ∙ like.books name not_run not_removals;
  contents = like.contents;
}

no_settings : (book : NamedItems) → book ≡ empty → has_settings book ≡ false
no_settings book is = ap has_settings is

-- what begins a run stands for the same
pub begun_like : (run : ℕ) (kept s : Snapshot) → StandsFor kept s → has_settings s.book ≡ true →
    IsLike (begun (not (has_settings kept.book)) run kept) s
begun_like run kept s (inl like) settled =
    let there : has_settings kept.book ≡ true = ap is_there (like.books (named 1 [] 0) (λ same. absurd cc) (λ same. absurd cc)) ∙ settled in
    subst (λ (t : Bool). IsLike (begun (not t) run kept) s) (sym there) (like_run run kept s like)
begun_like run kept s (inr fresh) settled =
    subst (λ (t : Bool). IsLike (begun (not t) run kept) s) (sym (no_settings kept.book fresh.0))
    (like_run run (with_item (items.Settings []) kept) s fresh.1)

pub run_begun : (fresh : Bool) (run : ℕ) (s : Snapshot) → run_in (begun fresh run s).book ≡ run
run_begun true run s = refl
run_begun false run s = refl

contents_begun : (fresh : Bool) (run : ℕ) (s : Snapshot) → (begun fresh run s).contents ≡ s.contents
contents_begun true run s = refl
contents_begun false run s = refl

removals_begun : (fresh : Bool) (run : ℕ) (s : Snapshot) → removals_in (begun fresh run s).book ≡ removals_in s.book
removals_begun true run s = refl
removals_begun false run s = refl

pub free_begun : (log : File) (fresh : Bool) (run : ℕ) (s : Snapshot) → AreFree log s → AreFree log (begun fresh run s)
free_begun log true run s free = free
free_begun log false run s free = free

-- a book that stands for one of a family is near it
near : (kept s : Snapshot) → StandsFor kept s → AreNear kept.book s.book
near kept s (inl like) name ne1 ne2 ne12 = like.books name ne2 ne12
near kept s (inr fresh) name ne1 ne2 ne12 =
    sym (chosen (is_same (named 1 [] 0) name) (Some (items.Settings [])) (kept.book name) (other_name 1 name ne1))
    ∙ fresh.1.books name ne2 ne12

contents_of : (kept s : Snapshot) → StandsFor kept s → kept.contents ≡ s.contents
contents_of kept s (inl like) = like.contents
contents_of kept s (inr fresh) = fresh.1.contents

-- ---- committers

module _ {D : Type 0} (g : Ghosts D) (fits : NamedItems → Type 0) where
  -- what was read, with these contents
  pub read_held : (committer : Committer) (disk : D) (s : Snapshot) → IsRead g fits committer disk s.book →
      HoldsFilling g disk (filling s.contents) → AreNoLogs s.contents → AreFree (log_of committer) s → Held g fits committer disk s s
  read_held committer disk s read holds apart free = record {
    usable = read.usable;
    committed = record {
      checkpoints = read.checkpoints;
      number = read.number;
      root_file = read.root_file;
      root = read.root;
      file = read.file;
      bodies = read.bodies;
      end = read.end;
      replayed = subst (λ (f : File). Replays (Taken fits f) read.bodies empty s.book) read.file read.replayed;
      contents = holds;
      apart = apart;
      free = subst (λ (f : File). AreFree f s) read.file free;
    };
    stages = nothing_staged committer s read.no_parts read.no_copies read.no_slots;
    fit = λ some. absurd (omega (arith, some, ap length read.no_slots));
    free = free;
  }

  -- the logs stand at their ends
  pub read_over : (committer : Committer) (disk : D) (book : NamedItems) → IsRead g fits committer disk book → LogsAtEnd g committer disk
  read_over committer disk book read = record {
    checkpoints = read.checkpoints;
    counted = read.number;
    root_file = read.root_file;
    file = read.file ∙ ap log_file (sym read.number);
    root_end = read.root;
    bodies = read.bodies;
    end = read.end;
    measured = read.measured;
    none = replayed_some (Taken fits (log_of committer)) read.bodies empty book committer.first read.replayed read.measured;
  }

  -- the committer and the disk hold the same once something was removed
  pub held_spared : (committer : Committer) (old new : D) (s : Snapshot) → Held g fits committer old s s →
      ImagesStep g old new (Spares (log_of committer) (filling s.contents)) → Held g fits committer new s s
  held_spared committer old new s held run = record {
    usable = held.usable;
    committed = record {
      checkpoints = held.committed.checkpoints;
      number = held.committed.number;
      root_file = held.committed.root_file;
      root = at_end_stays g old new committer.root (roots held.committed.checkpoints) (Spares (log_of committer) (filling s.contents))
          (λ a b spares. subst (λ (f : File). b f ≡ a f) (sym held.committed.root_file) spares.root_stays) run held.committed.root;
      file = held.committed.file;
      bodies = held.committed.bodies;
      end = at_end_stays g old new committer.log held.committed.bodies (Spares (log_of committer) (filling s.contents))
          (λ a b spares. spares.log_stays) run held.committed.end;
      replayed = held.committed.replayed;
      contents = spared g (log_of committer) (filling s.contents) old new run held.committed.contents;
      apart = held.committed.apart;
      free = held.committed.free;
    };
    stages = held.stages;
    fit = held.fit;
    free = held.free;
  }

  -- more is staged
  pub held_more : (committer after : Committer) (disk : D) (old new : Snapshot) → HasSameLogs committer after →
      Held g fits committer disk old old →
      Stages after old new → (0 < length after.slots → Taken fits (log_of committer) new.book) → AreFree (log_of committer) new →
      Held g fits after disk old new
  held_more committer after disk old new same held stages fit free = record {
    usable = same.closed ∙ held.usable;
    committed = record {
      checkpoints = held.committed.checkpoints;
      number = same.number ∙ held.committed.number;
      root_file = ap file_of same.root ∙ held.committed.root_file;
      root = subst (λ (l : Log). IsAtEnd g l disk (roots held.committed.checkpoints)) (sym same.root) held.committed.root;
      file = ap file_of same.log ∙ held.committed.file;
      bodies = held.committed.bodies;
      end = subst (λ (l : Log). IsAtEnd g l disk held.committed.bodies) (sym same.log) held.committed.end;
      replayed = held.committed.replayed;
      contents = held.committed.contents;
      apart = held.committed.apart;
      free = held.committed.free;
    };
    stages = stages;
    fit = λ some. subst (λ (f : File). Taken fits f new.book) (sym (ap file_of same.log)) (fit some);
    free = subst (λ (f : File). AreFree f new) (sym (ap file_of same.log)) free;
  }

  -- the logs stand where they stood
  pub over_same : (committer after : Committer) (disk : D) → HasSameLogs committer after → LogsAtEnd g committer disk →
      LogsAtEnd g after disk
  over_same committer after disk same over = record {
    checkpoints = over.checkpoints;
    counted = same.number ∙ over.counted;
    root_file = ap file_of same.root ∙ over.root_file;
    file = ap file_of same.log ∙ over.file ∙ ap log_file (sym same.number);
    root_end = subst (λ (l : Log). IsAtEnd g l disk (roots over.checkpoints)) (sym same.root) over.root_end;
    bodies = over.bodies;
    end = subst (λ (l : Log). IsAtEnd g l disk over.bodies) (sym same.log) over.end;
    measured = same.first ∙ over.measured;
    none = λ zero. over.none (sym same.first ∙ zero);
  }

  -- while no call is made
  pub held_always : (committer : Committer) (disk : D) (old new : Snapshot) → Held g fits committer disk old old →
      Always g disk disk (KeepsEither fits old new)
  held_always committer disk old new held = always_begins g disk (KeepsEither fits old new)
      (λ image left. inl (held_keeps g fits committer disk old old held image left))

  -- what begins a run is staged
  pub begin_held : (committer after : Committer) (disk : D) (s : Snapshot) (run : ℕ) (fresh : Bool) → fresh ≡ not (has_settings s.book) →
      HasSameLogs committer after → Held g fits committer disk s s → Stages after s (begun fresh run s) → fits (begun fresh run s).book
      → Held g fits after disk s (begun (not (has_settings s.book)) run s)
  begin_held committer after disk s run fresh is same held stages fit = subst (λ (t : Bool). Held g fits after disk s (begun t run s)) is
      (held_more committer after disk s (begun fresh run s) same held stages
      (λ some. record { fit = fit; apart = no_logs })
      (free_begun (log_of committer) fresh run s held.free))
    where
      no_logs : All (IsNoLog (log_of committer)) (removals_in (begun fresh run s).book)
      no_logs = subst (All (IsNoLog (log_of committer))) (sym (removals_begun fresh run s))
          (All-weaker (IsFree (log_of committer) s.contents) (IsNoLog (log_of committer)) (λ file free. (free.not_root, free.not_current))
          (removals_in s.book) held.free)

  nothing_comes : (old new : D) (P : Image → Type 0) → ImagesStep g old new Anyhow → ((image : Image) → g.may_leave old image → ⊥) →
      Always g old new P
  nothing_comes old new P comes none = record {
    later = comes.later;
    now = λ image left. let from = comes.now image left in absurd (none from.0 from.1);
    since = λ t image le left. ⊎_elim (λ past. inl past) (λ from. absurd (none from.0 from.1)) (comes.since t image le left);
  }

  module _ (committer : Committer) (mid : D) (book : NamedItems) (read : IsRead g fits committer mid book) (family : ℕ →
      Snapshot) (least from to : ℕ) (is_family : IsFamily family from to) (keeps_mid : AllKeep g mid fits least family from to) where
    -- an image keeps the book that was read, in the log that was read
    same_log : (image : Image) → g.may_leave mid image → (s : Snapshot) (keeps : DecodesTo fits s image) →
        current keeps.checkpoints ≡ log_of committer
    same_log image left s keeps =
        let has = subst (λ (f : File). HasBodies (roots read.checkpoints) (bytes_in image f)) read.root_file
        (end_bodies committer.root.closed (roots read.checkpoints) (bytes_in image committer.root.file) (read.root.images image left)) in
        let one = roots_one read.checkpoints keeps.checkpoints
        (one_list_of (roots read.checkpoints) (roots keeps.checkpoints) (bytes_in image (log_file 0)) has keeps.in_root) in
        ap current (sym one) ∙ sym read.file

    book_of : (image : Image) → g.may_leave mid image → (s : Snapshot) → DecodesTo fits s image → book ≡ s.book
    book_of image left s keeps =
        let log = same_log image left s keeps in
        let file = bytes_in image (log_of committer) in
        let has = end_bodies committer.log.closed read.bodies file (read.end.images image left) in
        let there = subst (λ (f : File). HasBodies keeps.bodies (bytes_in image f)) log keeps.in_log in
        let same : read.bodies ≡ keeps.bodies = one_list_of read.bodies keeps.bodies file has there in
        let theirs = subst (λ (f : File). Replays (Taken fits f) keeps.bodies empty s.book) log keeps.replayed in
        replays_one (Taken fits (log_of committer)) keeps.bodies empty book s.book
        (subst (λ (b : List (List ℕ)). Replays (Taken fits (log_of committer)) b empty book) same read.replayed) theirs

    module _ (image : Image) (left : g.may_leave mid image) where
      abbrev one : KeepsOneOf fits least family from to image
      one = keeps_mid image left

      abbrev pub as_read : Snapshot
      as_read = record { book = book; contents = (keeps_mid image left).kept.contents }

      kept_is : as_read ≡ one.kept
      kept_is = λ i. record { book = book_of image left one.kept one.keeps i; contents = one.kept.contents }

      pub stands : StandsFor as_read (family one.which)
      stands = subst (λ (s : Snapshot). StandsFor s (family one.which)) (sym kept_is) one.stands

      same_contents : (other : Image) (there : g.may_leave mid other) → (keeps_mid other there).kept.contents ≡ one.kept.contents
      same_contents other there =
          let k = keeps_mid other there in
          let a = near k.kept (family k.which) k.stands in
          let b = near one.kept (family one.which) one.stands in
          let books : k.kept.book ≡ one.kept.book = sym (book_of other there k.kept k.keeps) ∙ book_of image left one.kept one.keeps in
          contents_of k.kept (family k.which) k.stands
          ∙ is_family.told k.which one.which k.least k.most one.least one.most (λ name ne1 ne2 ne12. sym (a name ne1 ne2 ne12)
          ∙ ap (λ (book : NamedItems). book name) books ∙ b name ne1 ne2 ne12)
          ∙ sym (contents_of one.kept (family one.which) one.stands)

      holds_one : HoldsFilling g mid (filling one.kept.contents)
      holds_one other there = subst (λ (contents : Contents). HasFilling (filling contents) other) (same_contents other there)
          (keeps_mid other there).keeps.contents

      apart_one : AreNoLogs one.kept.contents
      apart_one = subst AreNoLogs (sym (contents_of one.kept (family one.which) one.stands)) (is_family.apart one.which one.least one.most)

      pub free_one : AreFree (log_of committer) as_read
      free_one = subst (AreFree (log_of committer)) (sym kept_is)
          (subst (λ (f : File). AreFree f one.kept) (same_log image left one.kept one.keeps) one.keeps.free)

      pub held_one : Held g fits committer mid as_read as_read
      held_one = read_held committer mid as_read read holds_one apart_one free_one

      pub like_one : (run : ℕ) → IsLike (begun (not (has_settings book)) run as_read) (family one.which)
      like_one run = begun_like run as_read (family one.which) stands (is_family.settled one.which one.least one.most)

      later_one : least ≤ run_in book
      later_one = subst (λ (n : ℕ). least ≤ n) (sym (ap run_in (book_of image left one.kept one.keeps))) one.later

      keeps_old : (other : Image) → DecodesTo fits as_read other → KeepsOneOf fits least family from to other
      keeps_old other keeps = record {
        which = one.which;
        least = one.least;
        most = one.most;
        kept = as_read;
        later = later_one;
        stands = stands;
        keeps = keeps;
      }

      keeps_one : (run : ℕ) → run_in book ≤ run → (other : Image) →
          KeepsEither fits as_read (begun (not (has_settings book)) run as_read) other → KeepsOneOf fits least family from to other
      keeps_one run le other (inl keeps) = keeps_old other keeps
      keeps_one run le other (inr keeps) = let is = run_begun (not (has_settings book)) run as_read in record {
        which = one.which;
        least = one.least;
        most = one.most;
        kept = begun (not (has_settings book)) run as_read;
        later = omega (arith, later_one, le, is);
        stands = inl (like_one run);
        keeps = keeps;
      }

    -- the removals: every image still keeps one of them
    pub removed_images : ((image : Image) (disk : D) → g.seen disk ≡ Some image → g.may_leave disk image) → (files : List File) →
        files ≡ removals_in book → (del : D)
        → ((contents : Contents) → All (IsFree (log_of committer) contents) files →
        ImagesStep g mid del (Spares (log_of committer) (filling contents))) → ImagesStep g mid del Anyhow →
        Always g mid del (KeepsOneOf fits least family from to)
    removed_images may_stay files named del removed comes = go (g.seen mid) refl
      where
        go : (seen : Option Image) → g.seen mid ≡ seen → Always g mid del (KeepsOneOf fits least family from to)
        go (Some image) is =
            let left = may_stay image mid is in
            let s = as_read image left in
            let free = subst (All (IsFree (log_of committer) s.contents)) (sym named) (free_one image left) in
            always_weaker g mid del (KeepsEither fits s s) (KeepsOneOf fits least family from to)
            (λ other either. keeps_old image left other (⊎_elim (λ keeps. keeps) (λ keeps. keeps) either))
            (commit_first g fits committer mid s s (held_one image left) del (removed s.contents free))
        go None is = nothing_comes mid del (KeepsOneOf fits least family from to) comes (λ image left.
            let told = read.settled image left in
            let t1 = told.1 in
            let none : None ≡ Some told.0 = sym is ∙ t1 in
            absurd cc)

    -- and the run that begins
    pub begun_images : ((image : Image) (disk : D) → g.seen disk ≡ Some image → g.may_leave disk image) → (files : List File) →
        files ≡ removals_in book → (del : D)
        → ((contents : Contents) → All (IsFree (log_of committer) contents) files →
        ImagesStep g mid del (Spares (log_of committer) (filling contents))) → ImagesStep g mid del Anyhow → (run : ℕ) →
        run_in book ≤ run → (last : D)
        → ((s : Snapshot) → s.book ≡ book → Held g fits committer del s s →
        Always g del last (KeepsEither fits s (begun (not (has_settings s.book)) run s))) → ImagesStep g del last Anyhow →
        Always g mid last (KeepsOneOf fits least family from to)
    begun_images may_stay files named del removed removed_comes run le last images comes = go (g.seen mid) refl
      where
        go : (seen : Option Image) → g.seen mid ≡ seen → Always g mid last (KeepsOneOf fits least family from to)
        go (Some image) is =
            let left = may_stay image mid is in
            let s = as_read image left in
            let free = subst (All (IsFree (log_of committer) s.contents)) (sym named) (free_one image left) in
            let held = held_spared committer mid del s (held_one image left) (removed s.contents free) in
            always_on g mid del last (KeepsOneOf fits least family from to) (removed_images may_stay files named del removed removed_comes)
            (always_weaker g del last (KeepsEither fits s (begun (not (has_settings book)) run s)) (KeepsOneOf fits least family from to)
            (keeps_one image left run le) (images s refl held))
        go None is = nothing_comes mid last (KeepsOneOf fits least family from to) (anyhow_on g mid del last removed_comes comes)
            (λ image left.
            let told = read.settled image left in
            let t1 = told.1 in
            let none : None ≡ Some told.0 = sym is ∙ t1 in
            absurd cc)

    -- what the committer holds then
    pub mounted_at : (image : Image) (left : g.may_leave mid image) (files : List File) → files ≡ removals_in book → (del : D)
        → ((contents : Contents) → All (IsFree (log_of committer) contents) files →
        ImagesStep g mid del (Spares (log_of committer) (filling contents)))
        → (after : Committer) (last : D) (made : NamedItems) (run : ℕ) → run ≡ run_in book + 1 →
        ((s : Snapshot) → book ≡ s.book → made ≡ (begun (not (has_settings s.book)) run s).book)
        → ((s : Snapshot) → s.book ≡ book → Held g fits committer del s s →
        Held g fits after last (begun (not (has_settings s.book)) run s) (begun (not (has_settings s.book)) run s))
        → IsMountedAt g fits after last made family from to image
    mounted_at image left files named del removed after last made run next is done =
        let k = keeps_mid image left in
        let s = as_read image left in
        let free = subst (All (IsFree (log_of committer) s.contents)) (sym named) (free_one image left) in
        let held = held_spared committer mid del s (held_one image left) (removed s.contents free) in
        record {
          which = k.which;
          least = k.least;
          most = k.most;
          kept = k.kept;
          keeps = k.keeps;
          stands = k.stands;
          now = begun (not (has_settings book)) run s;
          like = like_one image left run;
          run = run_begun (not (has_settings book)) run s ∙ next
              ∙ ap (λ (b : NamedItems). run_in b + 1) (book_of image left k.kept k.keeps);
          held = done s refl held;
          made = is s refl;
        }

-- ---- damage

-- what the current log's bad gate says, where the root log names it
pub bad_current : {D : Type 0} (g : Ghosts D) (fits : NamedItems → Type 0) (root : Log) (mid : D) (number : ℕ) (image : Image) →
    g.may_leave mid image → file_of root ≡ log_file 0 → 1 ≤ number → IsAtEnd g root mid (roots (number - 1))
    → (named : File) (at : ℕ) → named ≡ log_file number →
    IsBadGate (Taken fits (log_file number)) empty at (bytes_in image (log_file number)) → IsBadLog fits named at image
bad_current g fits root mid number image left file least end named at is bad =
    let k = number - 1 in
    let same : log_file number ≡ current k = ap log_file (omega (arith, least)) in
    inr (
      k,
      subst (λ (f : File). HasBodies (roots k) (bytes_in image f)) file
          (end_bodies root.closed (roots k) (bytes_in image root.file) (end.images image left)),
      is ∙ same,
      subst (λ (f : File). IsBadGate (Taken fits f) empty at (bytes_in image f)) same bad,
    )
