use Rattle.std.proofs.Common.{ℕ, List, ap₂, ◌∙◌}
use Rattle.std.specs.Prelude.{Some, None}
use Rattle.std.specs.List.{insert}
use Rattle.ix_base.specs.declared.events.Spot.{Spot}
use Rattle.ix_apply.specs.Spots.{place_for}
use Rattle.ix_apply.proofs.Placing.{put_is, new_is, found_here}
use Rattle.ix_apply.proofs.spots.SpotChange.of.Goals as goal

pub returns-in-Some-clause-placed : goal.returns-in-Some-clause-placed
returns-in-Some-clause-placed c =
    put_is c.args.spot c.args.spots.now.items c.in-Some.at
    (found_here c.args.spot.path c.as_slice-2.result.now c.args.spots.now.items c.as_slice.result.now (Some c.in-Some.at)
    c.in-Some.ensures.value c.as_slice.ensures.value c.as_slice-2.ensures)

pub returns-in_ok-make-in-None-clause-placed : goal.returns-in_ok-make-in-None-clause-placed
returns-in_ok-make-in-None-clause-placed c =
    let xs = c.args.spots.now.items in
    ap₂ (λ (a : ℕ) (s : Spot). insert xs a s)
    (c.in_ok-make-in-None.ensures.at ∙ (c.place_for-at.ensures.value
    ∙ ap₂ (λ (n : List ℕ) (ys : List Spot). place_for n ys) c.as_slice-in-None-2.ensures c.as_slice-in-None.ensures.value))
    c.in_ok-make-in-None.ensures.value
    ∙ new_is c.args.spot xs
    (found_here c.args.spot.path c.as_slice-2.result.now xs c.as_slice.result.now None c.in-None.ensures.value c.as_slice.ensures.value
    c.as_slice-2.ensures)
