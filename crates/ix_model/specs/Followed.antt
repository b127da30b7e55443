-- What becomes of a bucket: it keeps its number, its events only grow, and nothing changes in what
-- is frozen.
use Rattle.std.specs.Prelude.{◌≡◌, List, [], ◌∷◌, ◌++◌, Some}
use Rattle.ix_base.specs.declared.events.Event.{Event}
use Rattle.ix_model.specs.Buckets.{Standing, live, frozen, Slot, entered}

-- events, and perhaps more behind them
abbrev pub AreFirst : List Event → List Event → Type 0
AreFirst events later = (more : List Event) × (later ≡ events ++ more)

-- once it is frozen, its events and its entry stay
abbrev pub StaysFrozen : List Event → Standing → Slot → Type 0
StaysFrozen events (live b) later = Unit {0}
StaysFrozen events (frozen e thawed) later = (later.events ≡ events) × (entered later.standing ≡ Some e)

pub record Follows (s later : Slot) : Type 0 where
  pub grows : AreFirst s.events later.events
  pub stays : StaysFrozen s.events s.standing later

-- each bucket is still at its place, and so has its number; others may have come behind
abbrev pub AreFollowed : List Slot → List Slot → Type 0
AreFollowed [] later = Unit {0}
AreFollowed (s ∷ slots) [] = ⊥
AreFollowed (s ∷ slots) (t ∷ later) = Follows s t × AreFollowed slots later
