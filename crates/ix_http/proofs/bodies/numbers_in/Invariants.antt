use Rattle.std.proofs.Common.{◌≡◌, ◌++◌, drop, option_map}
use Rattle.serde_json.specs.View.{items_view}
use Rattle.ix_http.specs.Bodies.{numbers_in}
use Rattle.ix_http.proofs.bodies.numbers_in.Given as goal

abbrev pub invariant-loop-item : goal.invariant-loop-item
invariant-loop-item l =
    option_map (λ ns. l.found ++ ns) (numbers_in (items_view (drop l.item-index l.items))) ≡ numbers_in (items_view l.items)
