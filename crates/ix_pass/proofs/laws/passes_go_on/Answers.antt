use Rattle.ix_pass.proofs.Going_on.{passes_go_on}
use Rattle.ix_pass.proofs.laws.passes_go_on.Goals as goal

pub returns : goal.returns
returns g c = passes_go_on g.D.Disk g.M.Book.ManifestState.fits g.M.StoreMemory.holds g.M.StoreMemory.is_chooser g.M.StoreMemory.takes
