use Rattle.std.specs.Option.{option_copied}
use Rattle.ix_props.specs.Ranking.{found, rank_for}
use Rattle.ix_props.proofs.choosing.choose.Goals as goal

pub returns : goal.returns
returns c = c.list_of.ensures (rank_for (found c.args.ranks.now) (option_copied c.args.sourcetype)) c.args.entries.now c.in_ok-map.ensures
