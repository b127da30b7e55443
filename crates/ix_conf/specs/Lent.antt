-- The entry behind lent fields.
use Rattle.ix_conf.specs.declared.layers.MergedEntry.{MergedEntry}
use Rattle.ix_conf.specs.declared.merged.Item.{Item}

abbrev pub item_entry : Item → MergedEntry
item_entry item = record { stanza = item.stanza.now; key = item.key.now; value = item.value.now; layer = item.layer.now }
