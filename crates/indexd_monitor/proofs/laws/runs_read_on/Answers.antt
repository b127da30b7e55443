use Rattle.indexd_monitor.proofs.Growing.{runs_on, stops_on}
use Rattle.indexd_monitor.proofs.laws.runs_read_on.Goals as goal

pub returns-clause-done : goal.returns-clause-done
returns-clause-done g c = runs_on g.D.Disk g.M.StoreMemory.takes g.M.Book.ManifestState.fits

pub returns-clause-stopped : goal.returns-clause-stopped
returns-clause-stopped g c = stops_on g.D.Disk g.M.StoreMemory.takes g.M.Book.ManifestState.fits
