use Rattle.ix_sessions.proofs.Known.{told_next}
use Rattle.ix_sessions.proofs.laws.an_asked_number_is_told_next.Goals as goal

pub returns : goal.returns
returns g c = λ s earlier last turn from mid mid' to numbers number was is read not up has lt.
    told_next g.D.Disk g.M.Book.ManifestState.fits s earlier last turn from mid mid' to numbers number was is read not up has lt
