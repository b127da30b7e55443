use Rattle.std.proofs.Common.{◌∙◌, ap}
use Rattle.ix_http.specs.Table.{named_route}
use Rattle.ix_http.proofs.PlaceLemmas.{route_found, route_not_found}
use Rattle.ix_http.proofs.places.place_of.Goals as goal

pub returns-in-Some : goal.returns-in-Some
returns-in-Some c =
    c.named_place.ensures ∙ ap (named_route c.in-Some.form) c.as_bytes.ensures.value ∙ route_found c.args.path.now _ _ c.in-Some.ensures

pub returns-in-None : goal.returns-in-None
returns-in-None c = route_not_found c.args.path.now c.in-None.ensures
