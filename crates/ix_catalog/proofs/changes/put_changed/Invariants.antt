use Rattle.std.proofs.Common.{◌+◌, ◌≤◌, length}
use Rattle.ix_catalog.specs.Changes.{HasPut}
use Rattle.ix_catalog.proofs.changes.put_changed.Given as goal

abbrev pub invariant-loop-olds : goal.invariant-loop-olds
invariant-loop-olds l = record {
  put : HasPut l.index l.old l.new l.olds l.news l.initial.items l.items;
  olds : length l.olds ≤ length l.old;
  news : length l.news ≤ length l.new;
}

abbrev pub decreases-loop-olds : goal.decreases-loop-olds
decreases-loop-olds l = length l.olds + length l.news
