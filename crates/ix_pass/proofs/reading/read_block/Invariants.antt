use Rattle.std.proofs.Common.{◌≡◌, ◌≤◌, ◌-◌, length}
use Rattle.std.specs.Prelude.{IfSome}
use Rattle.ix_fs.specs.Trees.{bytes_at}
use Rattle.ix_pass.specs.Blocks.{HasFilled}
use Rattle.ix_pass.proofs.reading.read_block.Given as goal

abbrev pub invariant-loop-filled : goal.invariant-loop-filled
invariant-loop-filled g l = record {
  room : length l.room ≡ length l.initial.room;
  within : l.filled ≤ length l.room;
  bytes : IfSome (g.T.Tree.files l.initial.tree) (λ all. HasFilled (bytes_at all l.path) l.at l.filled l.room);
  same : g.T.Tree.files l.tree ≡ g.T.Tree.files l.initial.tree;
  later : g.T.Tree.faults l.initial.tree ≤ g.T.Tree.faults l.tree;
  later_missing : g.T.Tree.missing l.initial.tree ≤ g.T.Tree.missing l.tree;
}

abbrev pub decreases-loop-filled : goal.decreases-loop-filled
decreases-loop-filled g l = length l.room - l.filled
