use Rattle.std.proofs.Common.{◌≡◌, ◌+◌, length}
use Rattle.ix_items.specs.Spelling.{body_bytes}
use Rattle.ix_manifest.specs.Book.{replay}
use Rattle.ix_commit.specs.Snapshot.{Snapshot, Stages}
use Rattle.ix_commit.specs.Undo.{GrewTo}
use Rattle.ix_commit.proofs.drafting.stage_items.Given as goal

abbrev pub invariant-loop-item : goal.invariant-loop-item
invariant-loop-item l = record {
  staged : (old new : Snapshot) → Stages l.fn.committer old new →
      Stages l.committer old (record { book = replay l.yielded new.book; contents = new.contents });
  grew : GrewTo l.fn.committer l.committer;
  size : l.committer.size ≡ l.fn.committer.size + length (body_bytes l.yielded);
}
