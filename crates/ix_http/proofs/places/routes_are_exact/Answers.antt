use Rattle.ix_http.proofs.RouteLemmas.{routes-are-exact}
use Rattle.ix_http.proofs.places.routes_are_exact.Goals as goal

pub returns : goal.returns
returns c = routes-are-exact
