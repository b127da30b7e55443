use Rattle.std.proofs.Common.{sym, ◌∙◌}
use Rattle.std.proofs.lemmas.Result.{on_ok_weaker}
use Rattle.ix_conf.specs.Lent.{item_entry}
use Rattle.ix_life.proofs.LimitsLemmas.{lists_one, lists_other, lists_none, more_of, none_of}
use Rattle.ix_life.proofs.sets.add_item.Goals as goal

pub returns-then-is_index_stanza : goal.returns-then-is_index_stanza
returns-then-is_index_stanza c =
    on_ok_weaker c.add_named.result
    (more_of _ _ _ _ (sym (lists_one c.args.indexes.now (item_entry c.args.item.now) c.args.item.now.key.now c.in-empty.len_below
    (sym c.is_index_stanza.ensures ∙ c.if-is_index_stanza.true))))
    c.add_named.ensures

pub returns-else-is_index_stanza : goal.returns-else-is_index_stanza
returns-else-is_index_stanza c =
    none_of _ _ (lists_other c.args.indexes.now (item_entry c.args.item.now) c.args.item.now.key.now c.in-empty.len_below
    (sym c.is_index_stanza.ensures ∙ c.if-is_index_stanza.false))

pub returns-in-len1-up : goal.returns-in-len1-up
returns-in-len1-up c = none_of _ _ (lists_none c.args.indexes.now (item_entry c.args.item.now) c.args.item.now.key.now
    c.in-len1-up.len_at_least)
