use Rattle.std.proofs.Common.{List, [], ◌∷◌, ◌++◌, ◌+◌, take, drop, subst, refl}
use Rattle.ix_base.specs.declared.events.Spot.{Spot}
use Rattle.ix_bounds.specs.Totals.{AreSpots}
use Rattle.ix_apply.specs.Spots.{put_over}
use Rattle.ix_apply.proofs.Measured.{update_apart, rest}
use Rattle.ix_apply.proofs.measuring.with_other.Goals as goal

pub returns : goal.returns
returns c =
    let xs = c.args.spots.now in
    let at = c.args.at in
    let x = c.args.spot.now in
    subst (λ (l : List Spot). AreSpots l c.and-2.result) (update_apart (put_over x) at x xs c.requires (λ y. refl))
    (c.and-2.ensures (take at xs) (x ∷ [] ++ drop (at + 1) xs) c.spots_of-before.ensures
    (c.and.ensures (x ∷ []) (drop (at + 1) xs) c.one-one.ensures
    (subst (λ (l : List Spot). AreSpots l c.spots_of-behind.result) (rest xs (at + 1)) c.spots_of-behind.ensures)))
