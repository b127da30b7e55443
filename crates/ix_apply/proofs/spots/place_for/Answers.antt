use Rattle.std.proofs.Common.{sym}
use Rattle.std.specs.Prelude.{not}
use Rattle.ix_base.specs.declared.events.Spot.{Spot}
use Rattle.ix_apply.specs.Spots.{is_before}
use Rattle.ix_apply.proofs.Placing.{found_none}
use Rattle.ix_apply.proofs.spots.place_for.Goals as goal

pub returns-in-None-clause-value : goal.returns-in-None-clause-value
returns-in-None-clause-value c = found_none (λ (s : Spot). not (is_before c.args.path.now s)) c.args.spots.now (sym c.in-None.ensures.value)
