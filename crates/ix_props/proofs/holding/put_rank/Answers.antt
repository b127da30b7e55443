use Rattle.std.proofs.lemmas.Map.Text.{btree_map_updates_str}
use Rattle.ix_props.proofs.holding.put_rank.Goals as goal

pub returns : goal.returns
returns c = btree_map_updates_str c.args.stanza.now c.args.ranks.now c.insert.new.self _ c.in_ok-insert.ensures.updates
