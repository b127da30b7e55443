use Rattle.std.proofs.Common.{◌≡◌, ◌≤◌, length, drop, filter_map}
use Rattle.ix_fs.specs.Trees.{name_in, front_of, in_order}
use Rattle.ix_fs.proofs.trees.names_in.Given as goal

abbrev pub invariant-loop-at : goal.invariant-loop-at
invariant-loop-at l =
    (l.names.items ≡ in_order (filter_map (name_in (front_of l.folder)) (drop l.at l.files)))
    × (l.at ≤ length l.files) × (l.front-inside.items.items ≡ front_of l.folder)

abbrev pub decreases-loop-at : goal.decreases-loop-at
decreases-loop-at l = l.at
