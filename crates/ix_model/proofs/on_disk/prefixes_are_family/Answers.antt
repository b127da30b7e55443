use Rattle.ix_model.proofs.Family.{family}
use Rattle.ix_model.proofs.on_disk.prefixes_are_family.Goals as goal

pub returns : goal.returns
returns c = family
