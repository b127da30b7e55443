-- An event is placed on the shelves as the machine places it.
use Rattle.std.proofs.Common.{◌≡◌, ℕ, ℤ, Bool, true, false, List, [], ◌∷◌, ◌++◌, length, refl, sym, ap, ◌∙◌, arith}
use Rattle.std.specs.Prelude.{Option, Some, None, is_none, nat_le, ◌&&◌, if◌then◌else◌, option_to_list}
use Rattle.std.specs.List.{count_by}
use Rattle.std.proofs.lemmas.Grind.{flat_map-append}
use Rattle.ix_base.specs.declared.events.Event.{Event}
use Rattle.ix_items.specs.declared.items.Bucket.{Bucket}
use Rattle.ix_life.specs.Placing.{takes, spans, is_out, is_open, Numbered, numbered, into, rolls, least_used, id_of}
use Rattle.ix_life.specs.declared.limits.Limits.{Limits}
use Rattle.ix_model.specs.Buckets.{Slot, listed, buckets}
use Rattle.ix_model.specs.Placed.{rolled_slot, filled_slot, made_slot}
use Rattle.ix_model.specs.Placed as machine
use Rattle.ix_model.specs.Sums.{AreSoundFrom}
use Rattle.ix_model.proofs.Dealing.{length_update}
use Rattle.ix_model.proofs.Placing.{IsAt, least_found, numbered_found, bucket_at, takes_open}
use Rattle.ix_catalog.specs.Buckets.{rolled, with_event, made, closed, state_for}
use Rattle.ix_catalog.specs.Dealing.{roll_id, put_into, fresh_bucket, placed}
use Rattle.ix_catalog.specs.Lists.{update}
use Rattle.ix_model.proofs.Numbers.{change_is_update}

-- ---- the one that makes room

-- a bucket that is chosen for being open is live at the place of its number
abbrev IsChosen : List Slot → Option Numbered → Type 0
IsChosen slots None = Unit {0}
IsChosen slots (Some x) = IsAt 0 slots x.1

chosen_rolls : (index : List ℕ) (slots : List Slot) (o : Option Numbered) → AreSoundFrom index 0 slots → IsChosen slots o →
    roll_id (id_of o) (buckets slots) ≡ buckets (machine.roll (id_of o) slots)
chosen_rolls index slots None h c = refl
chosen_rolls index slots (Some x) h c =
    change_is_update x.1.id 0 c.place rolled rolled_slot index slots c.slot x.1 (λ s. refl) h c.found c.stands c.number
    ∙ ap (λ (n : ℕ). buckets (update n rolled_slot slots)) (let e : c.place ≡ x.1.id = omega (arith, c.number) in e)

used_chosen : (index : List ℕ) (slots : List Slot) (o : Option Numbered) → AreSoundFrom index 0 slots → least_used (buckets slots) ≡ o →
    IsChosen slots o
used_chosen index slots None h e = tt
used_chosen index slots (Some x) h e =
    let l = least_found (λ (y : Numbered). is_open y.1) (λ (y : Numbered). y.1.used) (numbered (buckets slots)) x e in
    bucket_at index 0 slots x.1 h l.0 (numbered_found 0 x (buckets slots) l.1)

rolls_chosen : (index : List ℕ) (limits : Limits) (found : Option Numbered) (slots : List Slot) → AreSoundFrom index 0 slots →
    IsChosen slots (rolls limits found (buckets slots))
rolls_chosen index limits found slots h =
    by (is_none found && nat_le limits.max_hot_buckets (count_by is_open (buckets slots)))
  where
    by : (b : Bool) → IsChosen slots (if b then least_used (buckets slots) else None)
    by true = used_chosen index slots (least_used (buckets slots)) h refl
    by false = tt

-- ---- the one that the event goes into

into_chosen : (index : List ℕ) (limits : Limits) (out : Bool) (time : ℤ) (slots : List Slot) (o : Option Numbered) →
    AreSoundFrom index 0 slots →
    into limits out time (buckets slots) ≡ o → IsChosen slots o
into_chosen index limits out time slots None h e = tt
into_chosen index limits out time slots (Some x) h e =
    let l = least_found (λ (y : Numbered). takes limits out time y.1) (λ (y : Numbered). y.1.id) (numbered (buckets slots)) x e in
    bucket_at index 0 slots x.1 h (takes_open x.1.state out (spans limits time x.1) l.0) (numbered_found 0 x (buckets slots) l.1)

-- ---- a new one behind all others

length_roll : (o : Option ℕ) (slots : List Slot) → length (machine.roll o slots) ≡ length slots
length_roll None slots = refl
length_roll (Some k) slots = length_update k rolled_slot slots

-- ---- placing

abbrev is_far : Limits → Event → Bool
is_far limits event = is_out limits event.time event.arrival

pub placed_same : (index : List ℕ) (limits : Limits) (file : ℕ) (event : Event) (used : ℕ) (moment : ℤ) (slots : List Slot) →
    AreSoundFrom index 0 slots →
    placed limits (length slots) file event used moment (buckets slots) ≡ buckets (machine.placed limits file event used moment slots)
placed_same index limits file event used moment slots h = by (into limits (is_far limits event) event.time (buckets slots)) refl
  where
    by : (o : Option Numbered) → into limits (is_far limits event) event.time (buckets slots) ≡ o →
        put_into limits (id_of o) (fresh_bucket (length slots) file (is_far limits event) event used moment) event used moment
        (roll_id (id_of (rolls limits o (buckets slots))) (buckets slots))
        ≡ buckets (machine.put_into limits (id_of o) (is_far limits event) file event used moment
        (machine.roll (id_of (rolls limits o (buckets slots))) slots))
    by None e =
        let r = rolls limits None (buckets slots) in
        let rolled = machine.roll (id_of r) slots in
        ap (λ (bs : List Bucket). bs ++ closed limits (fresh_bucket (length slots) file (is_far limits event) event used moment) ∷ [])
        (chosen_rolls index slots r h (rolls_chosen index limits None slots h))
        ∙ ap (λ (n : ℕ). buckets rolled ++ closed limits (made n (state_for (is_far limits event)) file event used moment)
        ∷ []) (sym (length_roll (id_of r) slots))
        ∙ sym (flat_map-append (λ (s : Slot). option_to_list (listed s.standing)) rolled
        (made_slot limits (length rolled) (is_far limits event) file event used moment ∷ []))
    by (Some x) e =
        let c : IsAt 0 slots x.1 = into_chosen index limits (is_far limits event) event.time slots (Some x) h e in
        change_is_update x.1.id 0 c.place (λ (b : Bucket). closed limits (with_event event used moment b))
        (filled_slot limits event used moment) index slots c.slot x.1
        (λ s. refl) h c.found c.stands c.number
        ∙ ap (λ (n : ℕ). buckets (update n (filled_slot limits event used moment) slots))
        (let k : c.place ≡ x.1.id = omega (arith, c.number) in k)
