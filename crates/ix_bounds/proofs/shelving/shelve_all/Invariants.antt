use Rattle.std.proofs.Common.{◌≡◌, take, map}
use Rattle.std.specs.Prelude.{fold}
use Rattle.ix_bounds.specs.Shelving.{view_of, with_view}
use Rattle.ix_bounds.proofs.shelving.shelve_all.Given as goal

abbrev pub invariant-loop-index : goal.invariant-loop-index
invariant-loop-index l = l.list.items ≡ fold with_view (map (view_of l.set) l.fn.indexes.items) (take l.index-index l.index-items)
