use Rattle.std.proofs.Common.{◌≡◌, take}
use Rattle.ix_commit.specs.Snapshot.{Snapshot, Stages}
use Rattle.ix_commit.specs.Drafts.{AreFit, with_pieces}
use Rattle.ix_commit.specs.Undo.{GrewTo}
use Rattle.ix_commit.proofs.drafting.stage_pieces.Given as goal

abbrev pub invariant-loop-piece : goal.invariant-loop-piece
invariant-loop-piece l = record {
  staged : (old new : Snapshot) → Stages l.fn.committer old new → AreFit new.contents l.pieces →
      Stages l.committer old (record { book = new.book; contents = with_pieces (take l.piece-index l.pieces) new.contents });
  grew : GrewTo l.fn.committer l.committer;
  size : l.committer.size ≡ l.fn.committer.size;
}
