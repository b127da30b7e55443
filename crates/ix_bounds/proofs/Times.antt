-- The times of all events are within their bounds where those that buckets and entries state are.
use Rattle.std.proofs.Common.{◌≡◌, ℕ, suc, ◌+◌, ◌-◌, ◌^◌, ℤ, List, [], ◌∷◌, refl, sym, subst, arith}
use Rattle.std.specs.Prelude.{Some, None, ◌≤ℤ◌, pos, neg_ℤ, unsigned_abs, option_to_list}
use Rattle.std.specs.Int.{int_min, int_max}
use Rattle.std.specs.List.{AllByRecursion, sum_by}
use Rattle.std.proofs.lemmas.Int.{ints, clamps}
use Rattle.std.proofs.lemmas.List.Sums.{sum_by-append}
use Rattle.ix_base.specs.declared.events.Event.{Event}
use Rattle.ix_items.specs.declared.items.Bucket.{Bucket}
use Rattle.ix_items.specs.declared.items.Entry.{Entry}
use Rattle.ix_model.specs.Bounds.{IsTime, HasTime, AreTimes}
use Rattle.ix_model.specs.Buckets.{Standing, live, frozen, Slot, Index, listed, entered, buckets, ledger}
use Rattle.ix_model.specs.Sums.{latest, earliest, AreSums, IsStandingOf, AreSoundFrom, IsSound}
use Rattle.ix_bounds.proofs.Added.{in_index}

-- ---- the latest and the earliest

max_time : (a b : ℤ) → IsTime a → IsTime b → IsTime (int_max a b)
max_time a b h k = omega (arith, ints, clamps, h, k)

min_time : (a b : ℤ) → IsTime a → IsTime b → IsTime (int_min a b)
min_time a b h k = omega (arith, ints, clamps, h, k)

latest_time : (t : ℤ) (es : List Event) → IsTime t → AllByRecursion HasTime es → IsTime (latest t es)
latest_time t [] h k = h
latest_time t (e ∷ es) h k = latest_time (int_max t e.time) es (max_time t e.time h k.0) k.1

earliest_time : (t : ℤ) (es : List Event) → IsTime t → AllByRecursion HasTime es → IsTime (earliest t es)
earliest_time t [] h k = h
earliest_time t (e ∷ es) h k = earliest_time (int_min t e.time) es (min_time t e.time h k.0) k.1

abbrev IsBelow : ℤ → Type 0
IsBelow t = t ≤ℤ pos (2 ^ 62)

abbrev IsAbove : ℤ → Type 0
IsAbove t = neg_ℤ (pos (2 ^ 62)) ≤ℤ t

pub record AreBetween (t u : ℤ) (es : List Event) : Type 0 where
  pub below : IsBelow t
  pub above : IsAbove u
  pub each : AllByRecursion HasTime es

are_between : (t u : ℤ) (es : List Event) → IsTime (latest t es) → IsTime (earliest u es) → AreBetween t u es
are_between t u [] h k = record { below = omega (arith, ints, h); above = omega (arith, ints, k); each = tt }
are_between t u (e ∷ es) h k =
    let p = are_between (int_max t e.time) (int_min u e.time) es h k in
    let b = p.below in
    let a = p.above in
    record {
      below = omega (arith, ints, clamps, b);
      above = omega (arith, ints, clamps, a);
      each = ((let q : IsTime e.time = omega (arith, ints, clamps, a, b) in q), p.each);
    }

pub stated : (events : List Event) (count bytes : ℕ) (newest oldest : ℤ) → AreSums events count bytes newest oldest →
    AllByRecursion HasTime events → IsTime newest × IsTime oldest
stated events count bytes newest oldest h k =
    let times : AllByRecursion HasTime (h.first ∷ h.rest) = subst (AllByRecursion HasTime) h.events_are k in (
      subst IsTime (sym h.newest_is) (latest_time h.first.time h.rest times.0 times.1),
      subst IsTime (sym h.oldest_is) (earliest_time h.first.time h.rest times.0 times.1),
    )

pub held : (events : List Event) (count bytes : ℕ) (newest oldest : ℤ) → AreSums events count bytes newest oldest → IsTime newest →
    IsTime oldest → AllByRecursion HasTime events
held events count bytes newest oldest h n o =
    let p = are_between h.first.time h.first.time h.rest (subst IsTime h.newest_is n) (subst IsTime h.oldest_is o) in
    let b = p.below in
    let a = p.above in
    let first : IsTime h.first.time = omega (arith, ints, a, b) in
    subst (AllByRecursion HasTime) (sym h.events_are) (first, p.each)

-- ---- by how much what is stated is beyond the bounds

abbrev pub over : ℤ → ℕ
over time = unsigned_abs time - 2 ^ 62

abbrev pub bucket_over : Bucket → ℕ
bucket_over b = over b.newest + over b.oldest

abbrev pub entry_over : Entry → ℕ
entry_over e = over e.newest + over e.oldest

pub none_over : (n o : ℤ) → IsTime n → IsTime o → over n + over o ≡ 0
none_over n o h k = omega (arith, h, k)

pub over_none : (n o : ℤ) → over n + over o ≡ 0 → IsTime n × IsTime o
over_none n o h = ((let p : IsTime n = omega (arith, h) in p), (let p : IsTime o = omega (arith, h) in p))

abbrev standing_over : Standing → ℕ
standing_over standing = sum_by bucket_over (option_to_list (listed standing)) + sum_by entry_over (option_to_list (entered standing))

standing_none : (index : List ℕ) (id : ℕ) (events : List Event) (standing : Standing) → IsStandingOf index id events standing →
    AllByRecursion HasTime events →
    standing_over standing ≡ 0
standing_none index id events (live b) h k =
    let p = stated events b.count b.bytes b.newest b.oldest h.is_of.sums k in
    let q = none_over b.newest b.oldest p.0 p.1 in
    omega (arith, q)
standing_none index id events (frozen e None) h k =
    let p = stated events e.count e.bytes e.newest e.oldest h.0.sums k in
    let q = none_over e.newest e.oldest p.0 p.1 in
    omega (arith, q)
standing_none index id events (frozen e (Some b)) h k =
    let p = stated events e.count e.bytes e.newest e.oldest h.0.sums k in
    let q = none_over e.newest e.oldest p.0 p.1 in
    let r = stated events b.count b.bytes b.newest b.oldest h.1.is_of.sums k in
    let s = none_over b.newest b.oldest r.0 r.1 in
    omega (arith, q, s)

standing_times : (index : List ℕ) (id : ℕ) (events : List Event) (standing : Standing) → IsStandingOf index id events standing →
    standing_over standing ≡ 0 →
    AllByRecursion HasTime events
standing_times index id events (live b) h k =
    let p = over_none b.newest b.oldest (omega (arith, k)) in held events b.count b.bytes b.newest b.oldest h.is_of.sums p.0 p.1
standing_times index id events (frozen e other) h k =
    let p = over_none e.newest e.oldest (omega (arith, k)) in held events e.count e.bytes e.newest e.oldest h.0.sums p.0 p.1

-- ---- an index

abbrev slots_over : List Slot → ℕ
slots_over slots = sum_by bucket_over (buckets slots) + sum_by entry_over (ledger slots)

one_more : (s : Slot) (slots : List Slot) → slots_over (s ∷ slots) ≡ standing_over s.standing + slots_over slots
one_more s slots =
    let a = sum_by-append bucket_over (option_to_list (listed s.standing)) (buckets slots) in
    let b = sum_by-append entry_over (option_to_list (entered s.standing)) (ledger slots) in
    omega (arith, a, b)

abbrev SlotHasTimes : Slot → Type 0
SlotHasTimes s = AllByRecursion HasTime s.events

slots_none : (index : List ℕ) (id : ℕ) (slots : List Slot) → AreSoundFrom index id slots → AllByRecursion SlotHasTimes slots →
    slots_over slots ≡ 0
slots_none index id [] h k = refl
slots_none index id (s ∷ slots) h k =
    let a = one_more s slots in
    let b = standing_none index id s.events s.standing h.0 k.0 in
    let c = slots_none index (suc id) slots h.1 k.1 in
    omega (arith, a, b, c)

slots_times : (index : List ℕ) (id : ℕ) (slots : List Slot) → AreSoundFrom index id slots → slots_over slots ≡ 0 →
    AllByRecursion SlotHasTimes slots
slots_times index id [] h k = tt
slots_times index id (s ∷ slots) h k =
    let a = one_more s slots in (
      standing_times index id s.events s.standing h.0 (omega (arith, a, k)),
      slots_times index (suc id) slots h.1 (omega (arith, a, k)),
    )

pub index_none : (i : Index) → IsSound i → AreTimes i → in_index bucket_over entry_over i ≡ 0
index_none i h k = slots_none i.name 0 i.slots h k

pub index_times : (i : Index) → IsSound i → in_index bucket_over entry_over i ≡ 0 → AreTimes i
index_times i h k = slots_times i.name 0 i.slots h k
