use Rattle.std.proofs.Common.{length}
use Rattle.ix_pikevm.specs.Leaf.{text_of}
use Rattle.ix_backtrack.specs.Frames.{IsFrame, AreFrames, Goes}
use Rattle.ix_backtrack.proofs.attempt.attempt.Given as goal

abbrev pub invariant-loop-taken : goal.invariant-loop-taken
invariant-loop-taken g l =
    record {
      goes : Goes l.code l.p.rows (text_of l.input) l.start l.place l.cells.items l.frame l.stack.items;
      frame : IsFrame (length l.code) (length l.cells.items) (length l.input.bytes.now) l.frame;
      stack : AreFrames (length l.code) (length l.cells.items) (length l.input.bytes.now) l.stack.items;
    }
