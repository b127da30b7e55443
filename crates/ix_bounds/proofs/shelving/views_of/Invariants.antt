use Rattle.std.proofs.Common.{◌≡◌, map}
use Rattle.ix_bounds.specs.Shelving.{view_of}
use Rattle.ix_bounds.proofs.shelving.views_of.Given as goal

abbrev pub invariant-loop-index : goal.invariant-loop-index
invariant-loop-index l = l.list.items ≡ map (view_of l.set) l.yielded
