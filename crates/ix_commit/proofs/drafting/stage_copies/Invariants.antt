use Rattle.std.proofs.Common.{◌≡◌, take}
use Rattle.ix_commit.specs.Snapshot.{Snapshot, Stages}
use Rattle.ix_commit.specs.Drafts.{AreFitCopies, with_copies}
use Rattle.ix_commit.specs.Undo.{GrewTo}
use Rattle.ix_commit.proofs.drafting.stage_copies.Given as goal

abbrev pub invariant-loop-copied : goal.invariant-loop-copied
invariant-loop-copied l = record {
  staged : (old new : Snapshot) → Stages l.fn.committer old new → AreFitCopies old.contents new.contents l.copies →
      Stages l.committer old (record { book = new.book; contents = with_copies (take l.copied-index l.copies) new.contents });
  grew : GrewTo l.fn.committer l.committer;
  size : l.committer.size ≡ l.fn.committer.size;
}
