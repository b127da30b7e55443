use Rattle.std.proofs.Common.{rules}
use Rattle.ix_props.proofs.OwnLemmas.{source_ranked, host_ranked}
use Rattle.ix_props.proofs.holding.rank_of.Goals as goal

pub returns-in-Source : goal.returns-in-Source
returns-in-Source c = search (rules, source_ranked)

pub returns-in-Host : goal.returns-in-Host
returns-in-Host c = search (rules, host_ranked)
