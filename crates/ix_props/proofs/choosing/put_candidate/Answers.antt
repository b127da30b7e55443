use Rattle.std.proofs.lemmas.Map.Text.{btree_map_updates_str}
use Rattle.ix_props.proofs.choosing.put_candidate.Goals as goal

pub returns : goal.returns
returns c = btree_map_updates_str c.args.key.now c.args.nearest.now c.insert.new.self _ c.in_ok-insert.ensures.updates
