-- What a walk over a list is still to tell.
use Rattle.std.specs.Prelude.{List}
use Rattle.std.specs.Vec.Iter.{into_iter_items}
use Rattle.ix_items.specs.declared.items.Item.{Item}
use Rattle.ix_replay.specs.declared.walk.ItemWalk.{ItemWalk}

abbrev pub ahead : ItemWalk → List Item
ahead walk = into_iter_items walk.items
