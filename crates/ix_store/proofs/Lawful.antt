-- Images that stand for prefixes.
use Rattle.std.proofs.Common.{◌≡◌, ◌≤◌, ◌<◌, ℕ, List, [], length, take, sym, ap, ◌∙◌, inl, arith}
use Rattle.ix_disk.specs.Image.{Image}
use Rattle.ix_disk.specs.declared.disk.Disk.{Ghosts}
use Rattle.ix_manifest.specs.Book.{NamedItems, named, run_in}
use Rattle.ix_commit.specs.Reads.{LeadsTo}
use Rattle.ix_commit.specs.Snapshot.{Snapshot, IsLike}
use Rattle.ix_commit.specs.Undo.{HasSameLogs}
use Rattle.ix_commit.proofs.Holding.{held_keeps}
use Rattle.ix_commit.proofs.Reading.{leads_one}
use Rattle.ix_model.specs.Given.{Chooser}
use Rattle.ix_model.specs.declared.commands.TimedCommand.{TimedCommand}
use Rattle.ix_model.specs.Snap.{snapshot_of}
use Rattle.ix_store.specs.Written.{IsOf, RecoversTo, RecoversToPrefix, IsNextRun}
use Rattle.ix_store.specs.Holding.{RepresentsStaged, Represents}
use Rattle.ix_store.specs.declared.store.Store.{Store}
use Rattle.ix_store.proofs.Joining.{committed_same}
use Rattle.ix_store.proofs.Committed.{unlike, held_of}
use Rattle.ix_store.proofs.Booked.{over_other}

like_of : (run : ℕ) (s snapshot_of : Snapshot) → IsOf run s snapshot_of → IsLike s snapshot_of
like_of run s snapshot_of is = record {
  books = λ name run_not removals_not. ap (λ (b : NamedItems). b name) is.book
      ∙ over_other run is.removed snapshot_of.book name (unlike (named 2 [] 0) name (λ e. run_not (sym e)))
      (unlike (named 12 [] 0) name (λ e. removals_not (sym e)));
  contents = is.contents;
}

pub stands_from : (fits : NamedItems → Type 0) (run : ℕ) (choose : Chooser) (h : List TimedCommand) (k n : ℕ) (image : Image) → k ≤ n →
    n ≤ length h → RecoversTo fits run choose (take n h) image → RecoversToPrefix fits run choose h k image
stands_from fits run choose h k n image least most stands = record {
  which = n;
  least = least;
  most = most;
  kept = stands.snapshot;
  later = (let is : run_in stands.snapshot.book ≡ run = ap run_in stands.written.book in omega (arith, is));
  stands = inl (like_of run stands.snapshot (snapshot_of choose (take n h)) stands.written);
  keeps = stands.keeps;
}

-- fewer commands, and an earlier run
pub stands_before : (fits : NamedItems → Type 0) (least run : ℕ) (choose : Chooser) (h : List TimedCommand) (k n : ℕ) (image : Image) →
    least ≤ run → k ≤ n → RecoversToPrefix fits run choose h n image → RecoversToPrefix fits least choose h k image
stands_before fits least run choose h k n image earlier fewer stands = record {
  which = stands.which;
  least = omega (arith, fewer, stands.least);
  most = stands.most;
  kept = stands.kept;
  later = omega (arith, earlier, stands.later);
  stands = stands.stands;
  keeps = stands.keeps;
}

-- the run behind the one that the image keeps is later
pub later_run : (fits : NamedItems → Type 0) (run next : ℕ) (choose : Chooser) (h : List TimedCommand) (k : ℕ) (image : Image) →
    RecoversToPrefix fits run choose h k image → IsNextRun fits next image → run < next
later_run fits run next choose h k image stands is =
    let keeps = stands.keeps in
    let leads : LeadsTo fits stands.kept.book image = record {
      checkpoints = keeps.checkpoints;
      in_root = keeps.in_root;
      bodies = keeps.bodies;
      in_log = keeps.in_log;
      replayed = keeps.replayed;
    } in
    let same = ap run_in (leads_one fits image stands.kept.book is.found leads is.leads) in
    omega (arith, stands.later, same, is.is)

pub held_stands : {D : Type 0} (g : Ghosts D) {M : Type 0} (fits : NamedItems → Type 0) (holds : Chooser → List TimedCommand → M →
    Type 0) (choose : Chooser) (h : List TimedCommand) (base k : ℕ) (store : Store M) (disk : D) →
    Represents g fits holds choose h base k store disk → (image : Image) → g.may_leave disk image →
    RecoversTo fits store.run choose (take k h) image
held_stands g fits holds choose h base k store disk hold image snapshot_of = record {
  snapshot = hold.old;
  written = hold.staged.old_is;
  keeps = held_keeps g fits store.committer disk hold.old hold.staged.new (held_of g fits holds choose h base k store disk hold) image
      snapshot_of;
}

pub held_then : {D : Type 0} (g : Ghosts D) {M : Type 0} (fits : NamedItems → Type 0) (holds : Chooser → List TimedCommand → M →
    Type 0) (choose : Chooser) (before h : List TimedCommand) (base k : ℕ) (old store : Store M) (disk : D) →
    (hold : Represents g fits holds choose before base k old disk) → HasSameLogs old.committer store.committer →
    RepresentsStaged fits holds choose h base k store hold.old → Represents g fits holds choose h base k store disk
held_then g fits holds choose before h base k old store disk hold same staged = record {
  old = hold.old;
  committed = committed_same g fits old.committer store.committer disk hold.old same hold.committed;
  staged = staged;
}
