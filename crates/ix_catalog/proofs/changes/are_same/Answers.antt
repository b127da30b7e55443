use Rattle.std.proofs.lemmas.Slice.Eq.{slice_eq-Decides}
use Rattle.ix_catalog.proofs.Same.{equals_decides}
use Rattle.ix_catalog.proofs.changes.are_same.Goals as goal

pub returns : goal.returns
returns c = slice_eq-Decides equals_decides c.args.old.now c.args.new.now _ c.eq.ensures
