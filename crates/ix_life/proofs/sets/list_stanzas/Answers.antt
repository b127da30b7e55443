use Rattle.std.proofs.Common.{sym}
use Rattle.ix_conf.specs.Lent.{item_entry}
use Rattle.ix_life.specs.Listed.{listed_at}
use Rattle.ix_life.proofs.ItemLemmas.{list_more, list_whole}
use Rattle.ix_life.proofs.sets.list_stanzas.Goals as goal

pub returns-in_default : goal.returns-in_default
returns-in_default c = list_whole (listed_at c.args.indexes.now) c.args.indexes.now c.loop-at.at c.loop-at.list _ (sym c.in_default.ensures)
    c.loop-at.invariant

pub loop-at-preserved : goal.loop-at-preserved
loop-at-preserved c =
    list_more (listed_at c.args.indexes.now) c.args.indexes.now c.loop-at.at (item_entry c.in-Some.item) c.loop-at.list c.add_item.new.list
    _
    (sym c.in-Some.ensures) c.in_ok-add_item.ensures c.loop-at.invariant
