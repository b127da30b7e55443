-- The records that are left to be counted.
use Rattle.std.proofs.Common.{◌≡◌, ℕ, ◌+◌, ◌-◌, ◌<◌, ◌≤◌, List, [], ◌∷◌, ◌++◌, length, take, drop, refl, sym, ap, ◌∙◌, arith, length-append}
use Rattle.std.specs.List.{AllByRecursion}
use Rattle.std.proofs.lemmas.List.{take_at, take-take, drop-drop}
use Rattle.std.proofs.lemmas.List.Concat.{flat_map-cons}
use Rattle.std.proofs.Math.Seq.{take-add}
use Rattle.ix_base.specs.declared.events.Event.{Event}
use Rattle.ix_bucket.specs.Record.{event_bytes, records, IsInRange}
use Rattle.ix_bucket.specs.declared.ahead.ReadFault.{ReadFault}
use Rattle.ix_bucket.specs.declared.ahead.ReadFault.TheVariants.{Disk, BadRecord, NoMemory}
use Rattle.ix_bucket.specs.Ahead.{between, HasNoRecord, HasRecord, OnBadRecord}
use Rattle.ix_bucket.specs.Count.{HasRecords}
use Rattle.ix_bucket.proofs.Sizes.{length_event_bytes}
use Rattle.ix_bucket.proofs.Records.{one_reading}

-- so many of the events were counted, and the records of the others stand from the place on
pub record IsLeft (events : List Event) (count at until : ℕ) (bytes : List ℕ) : Type 0 where
  pub more : List Event
  pub in_range : AllByRecursion IsInRange more
  pub counted : count + length more ≡ length events
  pub size : at + length (records more) ≡ until
  pub spelled : between at until bytes ≡ records more

pub all_left : (events : List Event) (until : ℕ) (bytes : List ℕ) → HasRecords events until bytes → IsLeft events 0 0 until bytes
all_left events until bytes h = record {
  more = events;
  in_range = h.in_range;
  counted = omega arith;
  size = omega (arith, h.size);
  spelled = (let same : until - 0 ≡ until = omega arith in ap (λ (n : ℕ). take n bytes) same) ∙ h.spelled;
}

split_records : (event : Event) (events : List Event) → records (event ∷ events) ≡ event_bytes event ++ records events
split_records event events = flat_map-cons event_bytes event events

-- the bytes between two places, cut at one between them
split_between : (at next until : ℕ) (bytes : List ℕ) → at ≤ next → next ≤ until → between at until bytes ≡ between at next bytes
    ++ between next until bytes
split_between at next until bytes low high =
    let sum : until - at ≡ (next - at) + (until - next) = omega arith in
    let place : at + (next - at) ≡ next = omega arith in
    ap (λ (n : ℕ). take n (drop at bytes)) sum ∙ take-add (next - at) (until - next) (drop at bytes)
    ∙ ap (λ (l : List ℕ). between at next bytes ++ take (until - next) l) (drop-drop (next - at) at bytes
    ∙ ap (λ (n : ℕ). drop n bytes) place)

step : (events : List Event) (count at next until : ℕ) (bytes : List ℕ) (more : List Event) → AllByRecursion IsInRange more →
    count + length more ≡ length events → at + length (records more) ≡ until
    → between at until bytes ≡ records more → at < until → next ≤ until → HasRecord at next bytes →
    IsLeft events (count + 1) next until bytes
step events count at next until bytes [] all counted size spelled lt le has = absurd (omega arith)
step events count at next until bytes (event ∷ more) all counted size spelled lt le has =
    let low : at ≤ next = omega (arith, has.size) in
    let both : event_bytes has.event ++ between next until bytes ≡ event_bytes event ++ records more =
    ap (λ (l : List ℕ). l ++ between next until bytes) (sym has.is_record.spelled) ∙ sym (split_between at next until bytes low le)
    ∙ spelled ∙ split_records event more in
    let one = one_reading has.event event (between next until bytes) (records more) has.is_record.in_range all.0 both in
    let whole : length (records (event ∷ more)) ≡ length (event_bytes event) + length (records more) = ap length (split_records event more)
    ∙ length-append (event_bytes event) (records more) in
    let same : length (event_bytes has.event) ≡ length (event_bytes event) = ap (λ (e : Event). length (event_bytes e)) one.0 in
    record {
      more = more;
      in_range = all.1;
      counted = omega arith;
      size = omega (arith, size, whole, same, has.size);
      spelled = one.1;
    }

pub one_less : (events : List Event) (count at next until : ℕ) (bytes : List ℕ) → at < until → next ≤ until → HasRecord at next bytes →
    IsLeft events count at until bytes → IsLeft events (count + 1) next until bytes
one_less events count at next until bytes lt le has left =
    step events count at next until bytes left.more left.in_range left.counted left.size left.spelled lt le has

none_more : (more : List Event) → length (records more) ≡ 0 → length more ≡ 0
none_more [] none = refl
none_more (event ∷ more) none =
    let whole : length (records (event ∷ more)) ≡ length (event_bytes event) + length (records more) = ap length (split_records event more)
    ∙ length-append (event_bytes event) (records more) in
    absurd (omega (arith, whole, none, length_event_bytes event))

pub none_left : (events : List Event) (count at until : ℕ) (bytes : List ℕ) → until ≤ at → IsLeft events count at until bytes →
    count ≡ length events
none_left events count at until bytes le left = omega (arith, left.counted, none_more left.more (omega (arith, left.size)))

no_bad : (at until : ℕ) (bytes : List ℕ) (more : List Event) → AllByRecursion IsInRange more → at + length (records more) ≡ until →
    between at until bytes ≡ records more → at < until → HasNoRecord at until bytes → ⊥
no_bad at until bytes [] all size spelled lt none = omega arith
no_bad at until bytes (event ∷ more) all size spelled lt none =
    let whole : length (records (event ∷ more)) ≡ length (event_bytes event) + length (records more) = ap length (split_records event more)
    ∙ length-append (event_bytes event) (records more) in
    let n : ℕ = length (event_bytes event) in
    let fits : n ≤ until - at = omega (arith, whole, size) in
    let within : at + n ≤ until = omega (arith, whole, size) in
    let back : at + n - at ≡ n = omega arith in
    none event (at + n) within (record {
      in_range = all.0;
      spelled = ap (λ (k : ℕ). take k (drop at bytes)) back ∙ sym (take-take n (until - at) (drop at bytes) fits)
          ∙ ap (take n) (spelled ∙ split_records event more) ∙ take_at (event_bytes event) (records more) n refl;
    })

pub not_bad : (events : List Event) (count at until : ℕ) (bytes : List ℕ) → at < until → HasNoRecord at until bytes →
    IsLeft events count at until bytes → ⊥
not_bad events count at until bytes lt none left = no_bad at until bytes left.more left.in_range left.size left.spelled lt none

-- a fault that could only be of a bad record, where there is none
pub no_fault : (fault : ReadFault) (X : Type 0) → (X → ⊥) → OnBadRecord fault (λ at. X) → OnBadRecord fault (λ at. ⊥)
no_fault Disk X none bad = tt
no_fault (BadRecord at) X none bad = none bad
no_fault NoMemory X none bad = tt
