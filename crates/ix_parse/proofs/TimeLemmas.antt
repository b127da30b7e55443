-- The sizes, times and arrivals of what a channel settles.
use Rattle.std.proofs.Common.{◌≡◌, ℕ, ◌-◌, ◌≤◌, ◌^◌, ℤ, Bool, true, false, List, [], ◌∷◌, ◌++◌, length, take, map, zero, suc, Option, Some}
use Rattle.std.proofs.Common.{None, refl, sym, subst, arith}
use Rattle.std.specs.Prelude.{if◌then◌else◌, IfSome, unsigned_abs}
use Rattle.std.specs.List.{All, AllByRecursion}
use Rattle.std.proofs.lemmas.Int.{ints}
use Rattle.std.proofs.lemmas.List.Elements.{All-from_recursion, All-nil, All-append}
use Rattle.ix_base.specs.Clocks.{clamped}
use Rattle.ix_base.specs.Stream.{Dated}
use Rattle.ix_base.specs.declared.events.ChannelMeta.{ChannelMeta}
use Rattle.ix_base.specs.declared.events.Event.{Event}
use Rattle.ix_base.specs.declared.events.Routed.{Routed}
use Rattle.ix_base.specs.declared.events.Routed.TheVariants.{To, Null}
use Rattle.ix_parse.specs.Form.{IsMoment, IsTime}
use Rattle.ix_lines.specs.Breaks.{breaks_by}
use Rattle.ix_lines.specs.Lines.{effective}
use Rattle.ix_lines.specs.Walk.{BreakFinder, Walked, walk_of}
use Rattle.ix_merge.specs.Events.{event_of as joined, groups, single_lines, all_events, settled as settled_events}
use Rattle.ix_merge.specs.Laws.{KeepsLines}
use Rattle.ix_merge.specs.Starts.{MarkedLine}
use Rattle.ix_merge.specs.declared.events.Whole.{Whole}
use Rattle.ix_props.specs.Settings.{AreUsable}
use Rattle.ix_props.specs.declared.settings.Settings.{Settings}
use Rattle.ix_props.specs.declared.settings.TimeSettings.{TimeSettings}
use Rattle.ix_time.specs.Chosen.{is_accepted, fall_back, settle}
use Rattle.ix_time.specs.Times.{read, time}
use Rattle.ix_time.specs.declared.chosen.Origin.TheVariants.{Read}
use Rattle.ix_transforms.specs.Sizes as changes
use Rattle.ix_transforms.proofs.SizeLemmas.{changed-sizes, changed-moments}
use Rattle.ix_parse.specs.Carry.{HasMoments}
use Rattle.ix_parse.specs.Limits.{KeepsLimits, IsSmall, EventsAreSmall, IsNear, TimesAreNear, HasArrival}
use Rattle.ix_parse.specs.Marks.{marked}
use Rattle.ix_parse.specs.Settled.{channel_lines, events_of, event_of, time_behind, latest_behind, outcome_of, outcomes, settled}
use Rattle.ix_parse.proofs.FormLemmas.{Within, walk-within, line-moments, lines-moments, both, apart, event-moments, unmarked}
use Rattle.ix_parse.proofs.FormLemmas.{clamped-moment, accepted, next-time}
use Rattle.ix_parse.proofs.SizeLemmas.{small-outcome}

-- ---- sizes

each-small : (s : Settings) (meta : ChannelMeta) (latest : Option ℤ) (events : List Whole) → KeepsLimits s meta →
    AllByRecursion IsSmall (outcomes s meta latest events)
each-small s meta latest [] limits = tt
each-small s meta latest (event ∷ events) limits =
    let e : Event = event_of s.sourcetype meta (time_behind s.time latest event).time event in (
      small-outcome s meta (time_behind s.time latest event).time event e (outcome_of s meta latest event) refl
          (changed-sizes s.seds s.transforms e) limits,
      each-small s meta (latest_behind s.time latest event) events limits,
    )

pub all-small : EventsAreSmall
all-small s meta stream closed limits =
    All-from_recursion IsSmall (settled s meta stream closed) (each-small s meta None (events_of s stream closed) limits)

-- ---- times

fallen : (arrival : ℤ) (last : Option ℤ) → IsMoment arrival → IfSome last IsTime → IsTime (fall_back arrival last).time
fallen arrival None m is = (grind (arith, ints), grind (arith, ints))
fallen arrival (Some last) m is = is

settled-at : (read : Option ℤ) (arrival : ℤ) (ago hence : ℕ) (last : Option ℤ) → IsMoment arrival → ago ≤ 10951 → hence ≤ 10950 →
    IfSome last IsTime →
    IsTime (settle read arrival ago hence last).time
settled-at None arrival ago hence last m a h is = fallen arrival last m is
settled-at (Some time) arrival ago hence last m a h is = by (is_accepted time arrival ago hence) refl
  where
    by : (b : Bool) → is_accepted time arrival ago hence ≡ b →
        IsTime (if b then record { time = time; origin = Read } else fall_back arrival last).time
    by true e = accepted time arrival ago hence m a h e
    by false e = fallen arrival last m is

time-is : (t : TimeSettings) (latest : Option ℤ) (event : Whole) → t.days_ago ≤ 10951 → t.days_hence ≤ 10950 → IfSome latest IsTime →
    IsTime (time_behind t latest event).time
unfolding time
time-is t latest event a h is = settled-at (read t event.raw event.moment) (clamped event.moment) t.days_ago t.days_hence latest
    (clamped-moment event.moment) a h is

magnitude : (z : ℤ) → IsTime z → unsigned_abs z ≤ 2 ^ 62
magnitude z is = grind (arith, ints)

near : (before : Event) (routed : Routed) → changes.HasMoments before routed → IsTime before.time → IsNear routed
near before Null same is = tt
near before (To event) same is = magnitude event.time (subst IsTime (sym same.0) is)

each-near : (s : Settings) (meta : ChannelMeta) (latest : Option ℤ) (events : List Whole) → AreUsable s → IfSome latest IsTime →
    AllByRecursion IsNear (outcomes s meta latest events)
each-near s meta latest [] usable is = tt
each-near s meta latest (event ∷ events) usable is =
    let e : Event = event_of s.sourcetype meta (time_behind s.time latest event).time event in (
      near e (outcome_of s meta latest event) (changed-moments s.seds s.transforms e)
          (time-is s.time latest event usable.ago usable.hence is),
      each-near s meta (latest_behind s.time latest event) events usable (next-time s.time latest event usable.ago usable.hence is),
    )

pub all-near : TimesAreNear
all-near s meta stream closed usable =
    All-from_recursion IsNear (settled s meta stream closed) (each-near s meta None (events_of s stream closed) usable tt)

-- ---- arrivals

stream-within : (look : BreakFinder) (u : Bool) (stream : List Dated) → HasMoments stream →
    Within (λ d. IsMoment d.1) (walk_of look u stream)
stream-within look u stream moments =
    walk-within (λ d. IsMoment d.1) look u None [] 0 stream (All-nil (λ d. IsMoment d.1))
    (All-from_recursion (λ d. IsMoment d.1) stream moments)

line-moments-of : (s : Settings) (stream : List Dated) (closed : Bool) → HasMoments stream →
    AllByRecursion (λ line. IsMoment line.moment) (channel_lines s stream closed)
line-moments-of s stream false moments =
    let w : Walked = walk_of (breaks_by s.breaker) true stream in
    lines-moments IsMoment (effective s.truncate) w.done (stream-within (breaks_by s.breaker) true stream moments).done
line-moments-of s stream true moments =
    let w : Walked = walk_of (breaks_by s.breaker) false stream in
    let within = stream-within (breaks_by s.breaker) false stream moments in
    let t : ℕ = effective s.truncate in
    both (λ line. IsMoment line.moment) _ _ (lines-moments IsMoment t w.done within.done)
    (line-moments IsMoment t (w.rest ++ w.pending) (All-append (λ d. IsMoment d.1) w.rest w.pending within.rest within.pending))

taken : {T : Type 0} (P : T → Type 0) (n : ℕ) (xs : List T) → AllByRecursion P xs → AllByRecursion P (take n xs)
taken P zero xs all = tt
taken P (suc n) [] all = tt
taken P (suc n) (x ∷ xs) all = (all.0, taken P n xs all.1)

singles : (lines : List MarkedLine) → AllByRecursion (λ line. IsMoment line.moment) (map (λ m. m.line) lines) →
    AllByRecursion (λ event. IsMoment event.moment) (single_lines lines)
singles [] all = tt
singles (m ∷ lines) all = (all.0, singles lines all.1)

whole : (max : ℕ) (lines : List MarkedLine) → KeepsLines max → AllByRecursion (λ line. IsMoment line.moment) (map (λ m. m.line) lines) →
    AllByRecursion (λ event. IsMoment event.moment) (map joined (groups max lines))
whole max lines keeps all =
    event-moments (groups max lines)
    (apart (λ line. IsMoment line.moment) (groups max lines)
    (subst (AllByRecursion (λ line. IsMoment line.moment)) (sym (keeps lines)) all))

open-events : (on : Bool) (max : ℕ) (lines : List MarkedLine) → KeepsLines max →
    AllByRecursion (λ line. IsMoment line.moment) (map (λ m. m.line) lines) →
    AllByRecursion (λ event. IsMoment event.moment) (settled_events on max lines)
open-events false max lines keeps all = singles lines all
open-events true max lines keeps all =
    taken (λ event. IsMoment event.moment) (length (map joined (groups max lines)) - 1) (map joined (groups max lines))
    (whole max lines keeps all)

closed-events : (on : Bool) (max : ℕ) (lines : List MarkedLine) → KeepsLines max →
    AllByRecursion (λ line. IsMoment line.moment) (map (λ m. m.line) lines) →
    AllByRecursion (λ event. IsMoment event.moment) (all_events on max lines)
closed-events false max lines keeps all = singles lines all
closed-events true max lines keeps all = whole max lines keeps all

marked-moments : (s : Settings) (stream : List Dated) (closed : Bool) → HasMoments stream →
    AllByRecursion (λ line. IsMoment line.moment) (map (λ m. m.line) (marked s.merge s.time (channel_lines s stream closed)))
marked-moments s stream closed moments =
    subst (AllByRecursion (λ line. IsMoment line.moment)) (sym (unmarked s (channel_lines s stream closed)))
    (line-moments-of s stream closed moments)

event-moments-of : (s : Settings) (stream : List Dated) (closed : Bool) → KeepsLines s.merge.max_lines → HasMoments stream →
    AllByRecursion (λ event. IsMoment event.moment) (events_of s stream closed)
event-moments-of s stream false keeps moments =
    open-events s.merge.on s.merge.max_lines (marked s.merge s.time (channel_lines s stream false)) keeps
    (marked-moments s stream false moments)
event-moments-of s stream true keeps moments =
    closed-events s.merge.on s.merge.max_lines (marked s.merge s.time (channel_lines s stream true)) keeps
    (marked-moments s stream true moments)

arrived : (before : Event) (routed : Routed) → changes.HasMoments before routed → IsMoment before.arrival → HasArrival routed
arrived before Null same is = tt
arrived before (To event) same is = subst IsMoment (sym same.1) is

each-arrived : (s : Settings) (meta : ChannelMeta) (latest : Option ℤ) (events : List Whole) →
    AllByRecursion (λ event. IsMoment event.moment) events →
    AllByRecursion HasArrival (outcomes s meta latest events)
each-arrived s meta latest [] all = tt
each-arrived s meta latest (event ∷ events) all =
    let e : Event = event_of s.sourcetype meta (time_behind s.time latest event).time event in (
      arrived e (outcome_of s meta latest event) (changed-moments s.seds s.transforms e) all.0,
      each-arrived s meta (latest_behind s.time latest event) events all.1,
    )

pub all-arrivals : (s : Settings) (meta : ChannelMeta) (stream : List Dated) (closed : Bool) → KeepsLines s.merge.max_lines →
    HasMoments stream →
    All HasArrival (settled s meta stream closed)
all-arrivals s meta stream closed keeps moments =
    All-from_recursion HasArrival (settled s meta stream closed)
    (each-arrived s meta None (events_of s stream closed) (event-moments-of s stream closed keeps moments))
