-- The times of events, and the latest and the earliest of them.
use Rattle.std.proofs.Common.{ℕ, ℤ, List, [], ◌∷◌, sym, arith, subst}
use Rattle.std.specs.Prelude.{◌≤ℤ◌}
use Rattle.std.specs.Int.{int_min, int_max}
use Rattle.std.specs.List.{AllByRecursion}
use Rattle.std.proofs.lemmas.Int.{ints}
use Rattle.ix_base.specs.declared.events.Event.{Event}
use Rattle.ix_model.specs.Bounds.{IsTime, HasTime}
use Rattle.ix_model.specs.Sums.{latest, earliest, AreSums}

max_time : (a b : ℤ) → IsTime a → IsTime b → IsTime (int_max a b)
max_time a b g h = grind (arith, ints, g, h)

min_time : (a b : ℤ) → IsTime a → IsTime b → IsTime (int_min a b)
min_time a b g h = grind (arith, ints, g, h)

latest_time : (t : ℤ) (es : List Event) → IsTime t → AllByRecursion HasTime es → IsTime (latest t es)
latest_time t [] g h = g
latest_time t (e ∷ es) g h = latest_time (int_max t e.time) es (max_time t e.time g h.0) h.1

earliest_time : (t : ℤ) (es : List Event) → IsTime t → AllByRecursion HasTime es → IsTime (earliest t es)
earliest_time t [] g h = g
earliest_time t (e ∷ es) g h = earliest_time (int_min t e.time) es (min_time t e.time g h.0) h.1

-- where all events have times in range, so are the latest and the earliest of them
pub bounds_time : (events : List Event) (count bytes : ℕ) (newest oldest : ℤ) → AreSums events count bytes newest oldest →
    AllByRecursion HasTime events → IsTime newest × IsTime oldest
bounds_time events count bytes newest oldest s h =
    let all : AllByRecursion HasTime (s.first ∷ s.rest) = subst (AllByRecursion HasTime) s.events_are h in (
      subst IsTime (sym s.newest_is) (latest_time s.first.time s.rest all.0 all.1),
      subst IsTime (sym s.oldest_is) (earliest_time s.first.time s.rest all.0 all.1),
    )

-- ---- the other way

between : (a b c : ℤ) → IsTime a → IsTime c → a ≤ℤ b → b ≤ℤ c → IsTime b
between a b c g h l m = grind (arith, ints, g, h, l, m)

max_left : (a b : ℤ) → a ≤ℤ int_max a b
max_left a b = grind (arith, ints)

max_right : (a b : ℤ) → b ≤ℤ int_max a b
max_right a b = grind (arith, ints)

min_left : (a b : ℤ) → int_min a b ≤ℤ a
min_left a b = grind (arith, ints)

min_right : (a b : ℤ) → int_min a b ≤ℤ b
min_right a b = grind (arith, ints)

then_more : (a b c : ℤ) → a ≤ℤ b → b ≤ℤ c → a ≤ℤ c
then_more a b c g h = omega (arith, ints, g, h)

same : (a : ℤ) → a ≤ℤ a
same a = omega (arith, ints)

-- the latest is none of the earlier ones
not_above : (t : ℤ) (es : List Event) → t ≤ℤ latest t es
not_above t [] = same t
not_above t (e ∷ es) = then_more t (int_max t e.time) (latest (int_max t e.time) es) (max_left t e.time) (not_above (int_max t e.time) es)

not_below : (t : ℤ) (es : List Event) → earliest t es ≤ℤ t
not_below t [] = same t
not_below t (e ∷ es) = then_more (earliest (int_min t e.time) es) (int_min t e.time) t (not_below (int_min t e.time) es) (min_left t e.time)

all_above : (t : ℤ) (es : List Event) → AllByRecursion (λ (e : Event). e.time ≤ℤ latest t es) es
all_above t [] = tt
all_above t (e ∷ es) = (
  then_more e.time (int_max t e.time) (latest (int_max t e.time) es) (max_right t e.time)
      (not_above (int_max t e.time) es),
  all_above (int_max t e.time) es,
)

all_below : (t : ℤ) (es : List Event) → AllByRecursion (λ (e : Event). earliest t es ≤ℤ e.time) es
all_below t [] = tt
all_below t (e ∷ es) = (
  then_more (earliest (int_min t e.time) es) (int_min t e.time) e.time (not_below (int_min t e.time) es)
      (min_right t e.time),
  all_below (int_min t e.time) es,
)

each_between : (a c : ℤ) (es : List Event) → IsTime a → IsTime c → AllByRecursion (λ (e : Event). a ≤ℤ e.time) es →
    AllByRecursion (λ (e : Event). e.time ≤ℤ c) es → AllByRecursion HasTime es
each_between a c [] g h l m = tt
each_between a c (e ∷ es) g h l m = (between a e.time c g h l.0 m.0, each_between a c es g h l.1 m.1)

-- where the latest and the earliest are in range, all times are
pub times_bound : (events : List Event) (count bytes : ℕ) (newest oldest : ℤ) → AreSums events count bytes newest oldest → IsTime newest →
    IsTime oldest → AllByRecursion HasTime events
times_bound events count bytes newest oldest s h g =
    let t = s.first.time in
    let most : IsTime (latest t s.rest) = subst IsTime s.newest_is h in
    let least : IsTime (earliest t s.rest) = subst IsTime s.oldest_is g in
    subst (AllByRecursion HasTime) (sym s.events_are) (
      between (earliest t s.rest) t (latest t s.rest) least most (not_below t s.rest) (not_above t s.rest),
      each_between (earliest t s.rest) (latest t s.rest) s.rest least most (all_below t s.rest) (all_above t s.rest),
    )
