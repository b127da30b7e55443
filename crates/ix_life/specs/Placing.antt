-- The rules of placing.
use Rattle.std.specs.Prelude.{ℕ, ℤ, Bool, true, false, not, ◌&&◌, ◌||◌, if◌then◌else◌, List, [], ◌∷◌, Option, None, Some, is_none, nat_le}
use Rattle.std.specs.List.{count_by, enumerate_from}
use Rattle.std.specs.Option.{option_map}
use Rattle.std.specs.Int.{int_min, int_max}
use Rattle.ix_items.specs.declared.items.Bucket.{Bucket}
use Rattle.ix_items.specs.declared.items.State.{State}
use Rattle.ix_items.specs.declared.items.State.TheVariants.{Hot, Quarantine, Warm, Cold, Thawed}
use Rattle.ix_life.specs.declared.limits.Limits.{Limits}
use Rattle.ix_life.specs.declared.placing.Target.{Target}
use Rattle.ix_life.specs.declared.placing.Places.{Places}
use Rattle.ix_life.specs.Times.{is_longer}

-- ---- the least of a list

-- of two choices the one with the lesser key, and the first one where the keys are equal
abbrev pub lesser : {A : Type 0} → (A → ℕ) → Option A → Option A → Option A
lesser key None b = b
lesser key (Some a) None = Some a
lesser key (Some a) (Some b) = if nat_le (key a) (key b) then Some a else Some b

-- of the elements that pass, the first of those with the least key
abbrev pub least : {A : Type 0} → (A → Bool) → (A → ℕ) → List A → Option A
least test key [] = None
least test key (x ∷ xs) = lesser key (if test x then Some x else None) (least test key xs)

-- ---- buckets and events

-- hot and quarantine buckets take events
abbrev pub takes_events : State → Bool
takes_events Hot = true
takes_events Quarantine = true
takes_events Warm = false
takes_events Cold = false
takes_events Thawed = false

abbrev pub is_open : Bucket → Bool
is_open b = takes_events b.state

-- an event is out of range where its time is too long before or after its arrival
abbrev pub is_out : Limits → ℤ → ℤ → Bool
is_out limits time arrival = is_longer time arrival limits.quarantine_past_secs || is_longer arrival time limits.quarantine_future_secs

-- whether the span of the bucket with an event of this time stays within the limit
abbrev pub spans : Limits → ℤ → Bucket → Bool
spans limits time b = not (is_longer (int_min b.oldest time) (int_max b.newest time) limits.max_hot_span_secs)

-- an event out of range goes into a quarantine bucket, any other into a hot bucket whose span
-- allows it
abbrev pub takes_as : State → Bool → Bool → Bool
takes_as Hot out span = not out && span
takes_as Quarantine out span = out
takes_as Warm out span = false
takes_as Cold out span = false
takes_as Thawed out span = false

abbrev pub takes : Limits → Bool → ℤ → Bucket → Bool
takes limits out time b = takes_as b.state out (spans limits time b)

-- ---- where an event goes

-- a bucket with its place in the list
abbrev pub Numbered : Type 0
Numbered = ℕ × Bucket

abbrev pub numbered : List Bucket → List Numbered
numbered buckets = enumerate_from 0 buckets

-- the bucket that an event goes into, the first one by number
abbrev pub into : Limits → Bool → ℤ → List Bucket → Option Numbered
into limits out time buckets = least (λ (x : Numbered). takes limits out time x.1) (λ (x : Numbered). x.1.id) (numbered buckets)

-- the bucket that was used the longest ago
abbrev pub least_used : List Bucket → Option Numbered
least_used buckets = least (λ (x : Numbered). is_open x.1) (λ (x : Numbered). x.1.used) (numbered buckets)

-- a bucket rolls where a new one is to be made and there are too many
abbrev pub rolls : Limits → Option Numbered → List Bucket → Option Numbered
rolls limits found buckets = if is_none found && nat_le limits.max_hot_buckets (count_by is_open buckets) then least_used buckets else None

abbrev pub id_of : Option Numbered → Option ℕ
id_of found = option_map (λ (x : Numbered). x.1.id) found

abbrev pub place_of : Option Numbered → Option ℕ
place_of found = option_map (λ (x : Numbered). x.0) found

-- where an event of this time and arrival goes, by the numbers of the buckets
abbrev pub target : List Bucket → Limits → ℤ → ℤ → Target
target buckets limits time arrival =
    let out = is_out limits time arrival in
    let found = into limits out time buckets in
    record { into = id_of found; rolls = id_of (rolls limits found buckets); quarantine = out }

-- the same by their places in the list
abbrev pub places : List Bucket → Limits → ℤ → ℤ → Places
places buckets limits time arrival =
    let out = is_out limits time arrival in
    let found = into limits out time buckets in
    record { into = place_of found; rolls = place_of (rolls limits found buckets); quarantine = out }
