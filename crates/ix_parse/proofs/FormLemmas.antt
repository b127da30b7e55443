-- What is carried of a stream has the form of a carry.
use Rattle.std.proofs.Common.{◌≡◌, ℕ, zero, suc, ◌+◌, ◌-◌, ◌<◌, ◌≤◌, ℤ, Bool, true, false, List, [], ◌∷◌, ◌++◌, length, take, drop, map}
use Rattle.std.proofs.Common.{find, Option, Some, None, refl, sym, ◌∙◌, ap, subst, arith}
use Rattle.std.specs.Prelude.{if◌then◌else◌, reverse, IfSome}
use Rattle.std.specs.List.{All, AllByRecursion, flat_map}
use Rattle.std.specs.Option.{ForSome}
use Rattle.std.specs.Ordering.{int_eq}
use Rattle.std.proofs.lemmas.Bool.{true≢false}
use Rattle.std.proofs.lemmas.Bool.Decides.{Decides-int_eq}
use Rattle.std.proofs.lemmas.Int.{ints}
use Rattle.std.proofs.lemmas.List.{length-take, reverse-append}
use Rattle.std.proofs.lemmas.List.Elements.{All-from_recursion, All-nil, All-head, All-tail, All-append, All-take, All-drop}
use Rattle.ix_base.specs.Clocks.{clamped}
use Rattle.ix_base.specs.Stream.{Dated, bytes_of, dated}
use Rattle.ix_base.specs.declared.events.Line.{Line}
use Rattle.ix_parse.specs.Form.{IsMoment, IsTime, IsRun, BeginElse, AreApart, IsOpenLine, IsEvent, HasForm}
use Rattle.ix_lines.specs.Breaks.{breaks_by}
use Rattle.ix_lines.specs.Carry.{joined, runs_of, open_line, dated_of}
use Rattle.ix_lines.specs.Lines.{cut, unless_empty, line_of, effective}
use Rattle.ix_lines.specs.Walk.{Look, match, no_match, more, BreakFinder, Walked, after, walk, walk_of}
use Rattle.ix_match.specs.Attempt.{reach}
use Rattle.ix_merge.specs.Carry.{carry_of}
use Rattle.ix_merge.specs.Events.{moment_of, event_of, groups}
use Rattle.ix_merge.specs.Laws.{KeepsLines}
use Rattle.ix_merge.specs.Sizes as merged
use Rattle.ix_merge.specs.Sizes.{IsSized}
use Rattle.ix_merge.specs.Starts.{MarkedLine, last}
use Rattle.ix_merge.specs.declared.events.Whole.{Whole}
use Rattle.ix_props.specs.Settings.{AreUsable}
use Rattle.ix_props.specs.declared.settings.Settings.{Settings}
use Rattle.ix_props.specs.declared.settings.TimeSettings.{TimeSettings}
use Rattle.ix_time.specs.Chosen.{is_accepted, fall_back, settle}
use Rattle.ix_time.specs.Times.{read, time}
use Rattle.ix_time.specs.declared.chosen.Origin.TheVariants.{Read}
use Rattle.ix_parse.specs.Carry.{rules_of, carry_of as carried, HasMoments}
use Rattle.ix_parse.specs.Marks.{marked}
use Rattle.ix_parse.specs.Settled.{channel_lines, events_of, latest_with, latest_behind, latest_of}

-- ---- a walk leaves members of its stream

pub record Within (P : Dated → Type 0) (w : Walked) : Type 0 where
  pub done : AllByRecursion (All P) w.done
  pub rest : All P w.rest
  pub pending : All P w.pending

after-within : (P : Dated → Type 0) (before : Option ℕ) (rest stream : List Dated) (next : List Dated → ℕ → Walked) (l : Look) →
    ((since : List Dated) (within : ℕ) → All P since → Within P (next since within)) → All P rest → All P stream →
    Within P (after before rest stream next l)
after-within P before rest stream next more ih r s = record { done = tt; rest = r; pending = s }
after-within P before rest stream next no_match ih r s =
    ih (rest ++ take 1 stream) 0 (All-append P rest (take 1 stream) r (All-take P 1 stream s))
after-within P before rest stream next (match from to n) ih r s =
    let w = ih (take (n - to) (drop to stream)) (n - 1) (All-take P (n - to) (drop to stream) (All-drop P to stream s)) in
    record { done = (All-append P rest (take from stream) r (All-take P from stream s), w.done); rest = w.rest; pending = w.pending }

pub walk-within : (P : Dated → Type 0) (look : BreakFinder) (u : Bool) (before : Option ℕ) (rest : List Dated) (within : ℕ)
    (stream : List Dated) →
    All P rest → All P stream → Within P (walk look u before rest within stream)
walk-within P look u before rest zero [] r s = record { done = tt; rest = r; pending = All-nil P }
walk-within P look u before rest (suc n) [] r s = record { done = tt; rest = r; pending = All-nil P }
walk-within P look u before rest (suc n) (d ∷ stream) r s = walk-within P look u (Some d.0) rest n stream r (All-tail P d stream s)
walk-within P look u before rest zero (d ∷ stream) r s =
    after-within P before rest (d ∷ stream) (λ since within. walk look u (Some d.0) since within stream)
    (look before (bytes_of (d ∷ stream)) u)
    (λ since within ok. walk-within P look u (Some d.0) since within stream ok (All-tail P d stream s)) r s

-- ---- runs

run-of-one : (d : Dated) → IsMoment d.1 → IsRun (record { bytes = d.0 ∷ []; moment = d.1 })
run-of-one d m = record { moment = m; some = omega arith }

joined-runs : (d : Dated) (runs : List Line) → IsMoment d.1 → AllByRecursion IsRun runs → AllByRecursion IsRun (joined d runs)
joined-runs d [] m all = (run-of-one d m, tt)
joined-runs d (run ∷ runs) m all = by (int_eq d.1 run.moment)
  where
    by : (b : Bool) → AllByRecursion IsRun (if b then record { bytes = d.0 ∷ run.bytes; moment = d.1 }
        ∷ runs else record { bytes = d.0 ∷ []; moment = d.1 } ∷ run ∷ runs)
    by true = (record { moment = m; some = omega arith }, all.1)
    by false = (run-of-one d m, all)

joined-apart : (d : Dated) (runs : List Line) → AreApart runs → AreApart (joined d runs)
joined-apart d [] apart = (tt, tt)
joined-apart d (run ∷ runs) apart = by (int_eq d.1 run.moment) refl
  where
    by : (b : Bool) → int_eq d.1 run.moment ≡ b → AreApart (if b then record { bytes = d.0 ∷ run.bytes; moment = d.1 }
        ∷ runs else record { bytes = d.0 ∷ []; moment = d.1 } ∷ run ∷ runs)
    by true e = (subst (λ (m : ℤ). BeginElse m runs) (sym ((Decides-int_eq d.1 run.moment).0 e)) apart.0, apart.1)
    by false e = (λ same. absurd (true≢false (sym ((Decides-int_eq d.1 run.moment).1 same) ∙ e)), apart)

runs-are : (stream : List Dated) → All (λ d. IsMoment d.1) stream → AllByRecursion IsRun (runs_of stream)
runs-are [] all = tt
runs-are (d ∷ stream) all =
    joined-runs d (runs_of stream) (All-head (λ x. IsMoment x.1) d stream all) (runs-are stream (All-tail (λ x. IsMoment x.1) d stream all))

runs-apart : (stream : List Dated) → AreApart (runs_of stream)
runs-apart [] = tt
runs-apart (d ∷ stream) = joined-apart d (runs_of stream) (runs-apart stream)

-- ---- values that may be there

for-some : {T : Type 0} (P : T → Type 0) (o : Option T) → IfSome o P → ForSome o P
for-some P o h = λ x e. subst (λ (o' : Option _). IfSome o' P) e h

-- ---- the open line

open-line-is : (t : ℕ) (stretch : List Dated) → All (λ d. IsMoment d.1) stretch → IfSome (open_line t stretch) (IsOpenLine (t + 1))
open-line-is t [] all = tt
open-line-is t (d ∷ stretch) all =
    let few = length-take (t + 1) (bytes_of (d ∷ stretch)) in
    let some : length (bytes_of (d ∷ stretch)) ≡ suc (length (bytes_of stretch)) = refl in
    record {
      run = record { moment = All-head (λ x. IsMoment x.1) d stretch all; some = omega (arith, few, some) };
      few = omega (arith, few);
    }

-- ---- the moments of lines and of events

unless-empty : (P : ℤ → Type 0) (bytes : List ℕ) (m : ℤ) → P m → AllByRecursion (λ line. P line.moment) (unless_empty bytes m)
unless-empty P [] m h = tt
unless-empty P (b ∷ bytes) m h = (h, tt)

pub line-moments : (P : ℤ → Type 0) (t : ℕ) (stretch : List Dated) → All (λ d. P d.1) stretch →
    AllByRecursion (λ line. P line.moment) (line_of t stretch)
line-moments P t [] all = tt
line-moments P t (d ∷ stretch) all = unless-empty P (cut t (bytes_of (d ∷ stretch))) d.1 (All-head (λ x. P x.1) d stretch all)

pub both : {T : Type 0} (P : T → Type 0) (xs ys : List T) → AllByRecursion P xs → AllByRecursion P ys → AllByRecursion P (xs ++ ys)
both P [] ys h k = k
both P (x ∷ xs) ys h k = (h.0, both P xs ys h.1 k)

front : {T : Type 0} (P : T → Type 0) (xs ys : List T) → AllByRecursion P (xs ++ ys) → AllByRecursion P xs
front P [] ys h = tt
front P (x ∷ xs) ys h = (h.0, front P xs ys h.1)

behind : {T : Type 0} (P : T → Type 0) (xs ys : List T) → AllByRecursion P (xs ++ ys) → AllByRecursion P ys
behind P [] ys h = h
behind P (x ∷ xs) ys h = behind P xs ys h.1

pub lines-moments : (P : ℤ → Type 0) (t : ℕ) (done : List (List Dated)) → AllByRecursion (All (λ d. P d.1)) done →
    AllByRecursion (λ line. P line.moment) (flat_map (line_of t) done)
lines-moments P t [] all = tt
lines-moments P t (stretch ∷ done) all =
    both (λ line. P line.moment) (line_of t stretch) (flat_map (line_of t) done) (line-moments P t stretch all.0)
    (lines-moments P t done all.1)

-- the members of lists that were joined
pub apart : {T : Type 0} (P : T → Type 0) (groups : List (List T)) → AllByRecursion P (flat_map (λ group. group) groups) →
    AllByRecursion (AllByRecursion P) groups
apart P [] all = tt
apart P (group ∷ groups) all =
    (front P group (flat_map (λ g. g) groups) all, apart P groups (behind P group (flat_map (λ g. g) groups) all))

first-moment : (lines : List Line) → AllByRecursion (λ line. IsMoment line.moment) lines → IsMoment (moment_of lines)
first-moment [] all = (omega (arith, ints), omega (arith, ints))
first-moment (line ∷ lines) all = all.0

pub event-moments : (groups : List (List Line)) → AllByRecursion (AllByRecursion (λ line. IsMoment line.moment)) groups →
    AllByRecursion (λ event. IsMoment event.moment) (map event_of groups)
event-moments [] all = tt
event-moments (group ∷ groups) all = (first-moment group all.0, event-moments groups all.1)

reversed : {T : Type 0} (P : T → Type 0) (xs : List T) → AllByRecursion P xs → AllByRecursion P (reverse xs)
reversed P [] all = tt
reversed P (x ∷ xs) all = subst (AllByRecursion P) (sym (reverse-append (x ∷ []) xs))
    (both P (reverse xs) (reverse (x ∷ [])) (reversed P xs all.1) (all.0, tt))

found-first : {T : Type 0} (P : T → Type 0) (xs : List T) → AllByRecursion P xs → IfSome (find (λ x. true) xs) P
found-first P [] all = tt
found-first P (x ∷ xs) all = all.0

last-is : {T : Type 0} (P : T → Type 0) (xs : List T) → AllByRecursion P xs → IfSome (last xs) P
last-is P xs all = found-first P (reverse xs) (reversed P xs all)

-- the lines of marked lines are those that were marked
pub unmarked : (s : Settings) (lines : List Line) → map (λ m. m.line) (marked s.merge s.time lines) ≡ lines
unmarked s [] = refl
unmarked s (line ∷ lines) = ap (λ (l : List Line). line ∷ l) (unmarked s lines)

-- the moment of the open event
open-moment : (on : Bool) (max : ℕ) (lines : List MarkedLine) → KeepsLines max →
    AllByRecursion (λ line. IsMoment line.moment) (map (λ m. m.line) lines) →
    IfSome (carry_of on max lines).event (λ event. IsMoment event.moment)
open-moment false max lines keeps all = tt
open-moment true max lines keeps all =
    last-is (λ event. IsMoment event.moment) (map event_of (groups max lines))
    (event-moments (groups max lines) (apart (λ line. IsMoment line.moment) (groups max lines)
    (subst (AllByRecursion (λ line. IsMoment line.moment)) (sym (keeps lines)) all)))

-- ---- the latest accepted time

pub clamped-moment : (m : ℤ) → IsMoment (clamped m)
clamped-moment m = (grind (arith, ints), grind (arith, ints))

pub accepted : (time arrival : ℤ) (ago hence : ℕ) → IsMoment arrival → ago ≤ 10951 → hence ≤ 10950 →
    is_accepted time arrival ago hence ≡ true → IsTime time
accepted time arrival ago hence m a h e = (grind (arith, ints), grind (arith, ints))

fallen-back : (arrival : ℤ) (last latest : Option ℤ) → IfSome latest IsTime → IfSome (latest_with (fall_back arrival last) latest) IsTime
fallen-back arrival None latest h = h
fallen-back arrival (Some last) latest h = h

settled-time : (read : Option ℤ) (arrival : ℤ) (ago hence : ℕ) (last latest : Option ℤ) → IsMoment arrival → ago ≤ 10951 → hence ≤ 10950 →
    IfSome latest IsTime → IfSome (latest_with (settle read arrival ago hence last) latest) IsTime
settled-time None arrival ago hence last latest m a h is = fallen-back arrival last latest is
settled-time (Some time) arrival ago hence last latest m a h is = by (is_accepted time arrival ago hence) refl
  where
    by : (b : Bool) → is_accepted time arrival ago hence ≡ b →
        IfSome (latest_with (if b then record { time = time; origin = Read } else fall_back arrival last) latest) IsTime
    by true e = accepted time arrival ago hence m a h e
    by false e = fallen-back arrival last latest is

pub next-time : (t : TimeSettings) (latest : Option ℤ) (event : Whole) → t.days_ago ≤ 10951 → t.days_hence ≤ 10950 → IfSome latest IsTime →
    IfSome (latest_behind t latest event) IsTime
unfolding time
next-time t latest event a h is = settled-time (read t event.raw event.moment) (clamped event.moment) t.days_ago t.days_hence latest latest
    (clamped-moment event.moment) a h is

latest-time : (t : TimeSettings) (latest : Option ℤ) (events : List Whole) → t.days_ago ≤ 10951 → t.days_hence ≤ 10950 →
    IfSome latest IsTime →
    IfSome (latest_of t latest events) IsTime
latest-time t latest [] a h is = is
latest-time t latest (event ∷ events) a h is = latest-time t (latest_behind t latest event) events a h (next-time t latest event a h is)

-- ---- all parts

few-pending : (n : ℕ) → n < reach → n ≤ 16383
unfolding reach
few-pending n h = omega arith

counted : (max : ℕ) (event : Option Whole) → max ≤ 1000000 → IfSome event (λ e. IsMoment e.moment) → ForSome event (λ e. IsSized max e) →
    ForSome event (λ e. IsEvent e)
counted max None few m sized = for-some IsEvent None tt
counted max (Some event) few m sized =
    let s : IsSized max event = sized event refl in
    for-some IsEvent (Some event) (record { moment = m; lines = omega (arith, few, s.few_lines) })

pub carry-form : (s : Settings) (stream : List Dated) → AreUsable s → HasMoments stream → KeepsLines s.merge.max_lines →
    length (dated_of (carried s stream).lines.pending) < reach → merged.HasForm s.merge.on s.merge.max_lines (carried s stream).merge →
    HasForm (rules_of s) (carried s stream)
carry-form s stream usable moments keeps few merge =
    let look : BreakFinder = breaks_by s.breaker in
    let t : ℕ = effective s.truncate in
    let w : Walked = walk_of look true stream in
    let within : Within (λ d. IsMoment d.1) w = walk-within (λ d. IsMoment d.1) look true None [] 0 stream (All-nil (λ d. IsMoment d.1))
    (All-from_recursion (λ d. IsMoment d.1) stream moments) in
    let lines : List Line = channel_lines s stream false in
    let all : AllByRecursion (λ line. IsMoment line.moment) lines = lines-moments IsMoment t w.done within.done in
    let event = open-moment s.merge.on s.merge.max_lines (marked s.merge s.time lines) keeps
    (subst (AllByRecursion (λ line. IsMoment line.moment)) (sym (unmarked s lines)) all) in
    record {
      pending = record {
        each = runs-are w.pending within.pending;
        apart = runs-apart w.pending;
        few = few-pending (length (dated_of (runs_of w.pending))) few;
      };
      line = for-some (IsOpenLine (t + 1)) (open_line t w.rest) (open-line-is t w.rest within.rest);
      event = counted s.merge.max_lines (carried s stream).merge.event usable.few_lines event merge.sized;
      merge = merge;
      latest = for-some IsTime (latest_of s.time None (events_of s stream false))
          (latest-time s.time None (events_of s stream false) usable.ago usable.hence tt);
    }

-- ---- the moments of what a channel is fed

dated-moments : (bytes : List ℕ) (m : ℤ) → IsMoment m → HasMoments (dated bytes m)
dated-moments [] m h = tt
dated-moments (b ∷ bytes) m h = (h, dated-moments bytes m h)

pub fed-moments : (stream : List Dated) (bytes : List ℕ) (m : ℤ) → HasMoments stream → HasMoments (stream ++ dated bytes (clamped m))
fed-moments stream bytes m h = both (λ d. IsMoment d.1) stream (dated bytes (clamped m)) h
    (dated-moments bytes (clamped m) (clamped-moment m))
