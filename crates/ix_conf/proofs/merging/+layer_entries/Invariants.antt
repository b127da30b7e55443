use Rattle.std.proofs.Common.{length}
use Rattle.ix_conf.proofs.merging.+layer_entries.Given as goal

abbrev pub decreases-layer_entries : goal.decreases-layer_entries
decreases-layer_entries l = length l.layers.now
