use Rattle.std.proofs.Common.{List, [], ◌∷◌, ◌++◌, take, drop, subst}
use Rattle.ix_base.specs.declared.events.Spot.{Spot}
use Rattle.ix_bounds.specs.Totals.{AreSpots}
use Rattle.ix_apply.proofs.Measured.{rest}
use Rattle.ix_apply.proofs.measuring.with_spot.Goals as goal

pub returns : goal.returns
returns c =
    let xs = c.args.spots.now in
    let at = c.args.at in
    c.and-2.ensures (take at xs) (c.args.spot.now ∷ [] ++ drop at xs) c.spots_of-before.ensures
    (c.and.ensures (c.args.spot.now ∷ []) (drop at xs) c.one-one.ensures
    (subst (λ (l : List Spot). AreSpots l c.spots_of-behind.result) (rest xs at) c.spots_of-behind.ensures))
