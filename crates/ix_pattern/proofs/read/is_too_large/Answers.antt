use Rattle.ix_pattern.proofs.ParseLemmas.{too-large}
use Rattle.ix_pattern.proofs.read.is_too_large.Goals as goal

pub returns : goal.returns
returns c = λ s d h g w. too-large c.args.here.high c.args.count c.args.here.depth c.args.weight s d h g w
