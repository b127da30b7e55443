use Rattle.std.proofs.Common.{◌∙◌}
use Rattle.ix_catalog.proofs.TurningLemmas.{among_is}
use Rattle.ix_catalog.proofs.housekeeping.is_among.Goals as goal

pub returns : goal.returns
returns c = c.contains.ensures.value ∙ among_is c.args.id c.args.ids.now
