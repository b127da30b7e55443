use Rattle.std.proofs.Common.{List, [], ◌∷◌, ◌++◌, take, ap, sym, ◌∙◌, subst}
use Rattle.std.proofs.lemmas.List.{take_all, take_more}
use Rattle.ix_base.specs.declared.events.Spot.{Spot}
use Rattle.ix_bounds.specs.Totals.{AreSpots}
use Rattle.ix_bounds.proofs.totals.spots_of.Goals as goal

pub loop-spot-preserved : goal.loop-spot-preserved
loop-spot-preserved c =
    let xs = c.args.spots.now in
    let i = c.loop-spot.spot-index in
    let x = c.spot-item.result in
    subst (λ (l : List Spot). AreSpots l c.and-sum.result)
    (ap (λ (y : Spot). take i xs ++ y ∷ []) c.spot-item.is ∙ sym (take_more xs i x c.loop-spot-test.true))
    (c.and-sum.ensures (take i xs) (x ∷ []) c.loop-spot.invariant c.one.ensures)

pub returns : goal.returns
returns c = subst (λ (l : List Spot). AreSpots l c.loop-spot.sum) (take_all c.loop-spot.spot-index c.args.spots.now c.loop-spot-test.false)
    c.loop-spot.invariant
