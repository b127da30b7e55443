use Rattle.std.proofs.Common.{rules}
use Rattle.std.proofs.lemmas.Int.{to_z-of_z}
use mir.Val.{SFits}
use Rattle.std.specs.Int.{w64}
use Rattle.ix_items.proofs.Rows.{frozen_found}
use Rattle.ix_items.proofs.fields.read_frozen.Goals as goal

pub returns-clause-found : goal.returns-clause-found
returns-clause-found c =
    let fits : SFits w64 c.in_ok-moment.moment = search rules in
    simp to_z-of_z (frozen_found c.in_ok-id.id c.in_ok-rule.rule c.in_ok-moment.moment _ _ _ _ c.in_ok-id.ensures.found
    c.in_ok-rule.ensures.found c.in_ok-moment.ensures.found)
