-- The rules of placing: what an event does to the buckets of its index.
use Rattle.std.specs.Prelude.{ℕ, ℤ, Bool, List, [], ◌∷◌, ◌++◌, length, Option, Some, None}
use Rattle.ix_base.specs.declared.events.Event.{Event}
use Rattle.ix_items.specs.declared.items.Bucket.{Bucket}
use Rattle.ix_life.specs.Placing.{target}
use Rattle.ix_life.specs.declared.limits.Limits.{Limits}
use Rattle.ix_life.specs.declared.placing.Target.{Target}
use Rattle.ix_model.specs.Buckets.{Standing, live, frozen, Slot, buckets}
use Rattle.ix_catalog.specs.Buckets.{rolled, with_event, made, closed, state_for}
use Rattle.ix_catalog.specs.Lists.{update}

-- a live bucket changes
abbrev pub change_live : (Bucket → Bucket) → Standing → Standing
change_live f (live b) = live (f b)
change_live f (frozen e other) = frozen e other

abbrev pub rolled_slot : Slot → Slot
rolled_slot s = record { events = s.events; standing = change_live rolled s.standing }

abbrev pub filled_slot : Limits → Event → ℕ → ℤ → Slot → Slot
filled_slot limits event used moment s = record {
  events = s.events ++ event ∷ [];
  standing = change_live (λ (b : Bucket). closed limits (with_event event used moment b)) s.standing;
}

abbrev pub made_slot : Limits → ℕ → Bool → ℕ → Event → ℕ → ℤ → Slot
made_slot limits id quarantine file event used moment = record {
  events = event ∷ [];
  standing = live (closed limits (made id (state_for quarantine) file event used moment));
}

-- the one that makes room rolls
abbrev pub roll : Option ℕ → List Slot → List Slot
roll None slots = slots
roll (Some id) slots = update id rolled_slot slots

-- into the bucket of this number, or else into a new one
abbrev pub put_into : Limits → Option ℕ → Bool → ℕ → Event → ℕ → ℤ → List Slot → List Slot
put_into limits (Some id) quarantine file event used moment slots = update id (filled_slot limits event used moment) slots
put_into limits None quarantine file event used moment slots =
    slots ++ made_slot limits (length slots) quarantine file event used moment ∷ []

-- where the event goes
abbrev pub target_of : Limits → Event → List Slot → Target
target_of limits event slots = target (buckets slots) limits event.time event.arrival

-- The buckets once the event is placed, the `used`-th that the store has placed. A new bucket has
-- this file.
abbrev pub placed : Limits → ℕ → Event → ℕ → ℤ → List Slot → List Slot
placed limits file event used moment slots =
    let t : Target = target_of limits event slots in
    put_into limits t.into t.quarantine file event used moment (roll t.rolls slots)
