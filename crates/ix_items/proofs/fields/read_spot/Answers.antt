use Rattle.ix_base.specs.declared.events.Spot.{Spot}
use Rattle.ix_items.proofs.Rows.{spot_found}
use Rattle.ix_items.proofs.fields.read_spot.Goals as goal

pub returns-clause-found : goal.returns-clause-found
returns-clause-found c =
    let path = c.in_ok-path.ensures.found in
    let head = c.in_ok-head.ensures.found in
    let spot : Spot = record { path = c.in_ok-path.path; head = c.in_ok-head.head; offset = c.in_ok-offset.offset } in
    (spot_found spot _ _ _ _ path.0 head.0 c.in_ok-offset.ensures.found, path.1, head.1)
