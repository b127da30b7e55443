use Rattle.ix_commit.proofs.Reading.{leads_one}
use Rattle.ix_commit.proofs.laws.leads_to_one_book.Goals as goal

pub returns : goal.returns
returns g c = λ image a b one two. leads_one g.B.ManifestState.fits image a b one two
