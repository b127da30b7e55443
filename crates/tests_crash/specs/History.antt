-- What a store in small and its disk hold of a history. A history is any list here, and `snap` says
-- what it leaves.
use Rattle.std.specs.Prelude.{◌≡◌, ◌≤◌, ℕ, List, length, take}
use Rattle.ix_disk.specs.Image.{Image}
use Rattle.ix_disk.specs.declared.disk.Disk.{Ghosts}
use Rattle.ix_manifest.specs.Book.{NamedItems, run_in}
use Rattle.ix_commit.specs.Snapshot.{Snapshot, DecodesTo, Held, IsLike}
use Rattle.ix_commit.specs.Mounting.{KeepsOneOf}
use Rattle.tests_crash.specs.declared.small.Small.{Small}

-- what the first n commands leave
abbrev pub leaves : (List ℕ → Snapshot) → List ℕ → ℕ → Snapshot
leaves snap h n = snap (take n h)

-- an image that stands for a run and a history
pub record Stands (fits : NamedItems → Type 0) (snap : List ℕ → Snapshot) (run : ℕ) (h : List ℕ) (image : Image) : Type 0 where
  pub kept : Snapshot
  pub keeps : DecodesTo fits kept image
  pub like : IsLike kept (snap h)
  pub runs : run_in kept.book ≡ run

-- an image that stands for some run, or none, and some prefix of the history with at least k
-- commands
abbrev pub StandsFrom : (NamedItems → Type 0) → (List ℕ → Snapshot) → List ℕ → ℕ → Image → Type 0
StandsFrom fits snap h k image = KeepsOneOf fits 0 (leaves snap h) k (length h) image

-- store and disk hold the history, the first k commands of it committed
pub record Holds {D : Type 0} (g : Ghosts D) (fits : NamedItems → Type 0) (store : Small) (disk : D) (snap : List ℕ →
    Snapshot) (h : List ℕ) (k : ℕ) : Type 0 where
  pub within : k ≤ length h
  pub old : Snapshot
  pub new : Snapshot
  pub held : Held g fits store.committer disk old new
  pub old_like : IsLike old (snap (take k h))
  pub new_like : IsLike new (snap h)
  pub old_run : run_in old.book ≡ store.run
  pub new_run : run_in new.book ≡ store.run

-- store and disk hold a prefix of the history with at least k commands, all of it committed
pub record HoldsPrefix {D : Type 0} (g : Ghosts D) (fits : NamedItems → Type 0) (store : Small) (disk : D) (snap : List ℕ →
    Snapshot) (h : List ℕ) (k : ℕ) : Type 0 where
  pub n : ℕ
  pub least : k ≤ n
  pub most : n ≤ length h
  pub holds : Holds g fits store disk snap (take n h) n
