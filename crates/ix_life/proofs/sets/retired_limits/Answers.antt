use Rattle.ix_life.proofs.RetiredLemmas.{merged_stanzas, retired_limits}
use Rattle.ix_life.proofs.sets.retired_limits.Goals as goal

pub returns : goal.returns
returns c = λ layers entries merged name other gone. retired_limits entries (merged_stanzas layers entries merged) name other gone
