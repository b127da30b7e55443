use Rattle.std.proofs.Common.{◌≡◌, ◌≤◌, ◌<◌, ◌-◌, length}
use Rattle.indexd_settings.specs.Layers.{IsBegun}
use Rattle.indexd_settings.proofs.layers.read_bytes.Given as goal

abbrev pub invariant-loop-tree : goal.invariant-loop-tree
invariant-loop-tree g l =
    IsBegun (g.T.Tree.files l.initial.tree) l.path l.text
    × (g.T.Tree.files l.tree ≡ g.T.Tree.files l.initial.tree)
    × (g.T.Tree.faults l.initial.tree ≤ g.T.Tree.faults l.tree)
    × (g.T.Tree.missing l.initial.tree ≤ g.T.Tree.missing l.tree)
    × (0 < length l.block.items)

abbrev pub decreases-loop-tree : goal.decreases-loop-tree
decreases-loop-tree g l = l.size - length l.text
