use Rattle.ix_catalog.proofs.PlaceLemmas.{twice}
use Rattle.ix_catalog.proofs.viewing.take_out.Goals as goal

pub returns-clause-others : goal.returns-clause-others
returns-clause-others c = λ v. twice c.args.indexes.now c.replace.new.self c.args.at _ v c.replace.ensures.items
