-- Lists of events whose records stand in a file.
use Rattle.std.proofs.Common.{◌≡◌, ℕ, ◌+◌, ◌-◌, ◌<◌, ◌≤◌, List, [], ◌∷◌, ◌++◌, length, take, drop, refl, sym, ap, ◌∙◌, append_assoc, arith}
use Rattle.std.proofs.Common.{length-append}
use Rattle.std.specs.List.{AllByRecursion}
use Rattle.std.proofs.lemmas.List.{append-nil, take_at, take-append-drop}
use Rattle.std.proofs.lemmas.List.Concat.{flat_map-append, flat_map-cons}
use Rattle.std.proofs.Math.Seq.{take-add}
use Rattle.ix_base.specs.declared.events.Event.{Event}
use Rattle.ix_bucket.specs.Ahead.{between, HasNoRecord}
use Rattle.ix_bucket.specs.Count.{HasRecords}
use Rattle.ix_bucket.specs.Record.{event_bytes, records, IsInRange, IsRecordOf}
use Rattle.ix_bucket.proofs.Left.{not_bad}
use Rattle.ix_bucket.proofs.Records.{one_reading}
use Rattle.ix_bucket.proofs.Sizes.{length_event_bytes}

-- ---- on lists

all_append : (xs ys : List Event) → AllByRecursion IsInRange xs → AllByRecursion IsInRange ys → AllByRecursion IsInRange (xs ++ ys)
all_append [] ys p q = q
all_append (x ∷ xs) ys p q = (p.0, all_append xs ys p.1 q)

records_cons : (event : Event) (events : List Event) → records (event ∷ events) ≡ event_bytes event ++ records events
records_cons event events = flat_map-cons event_bytes event events

records_append : (xs ys : List Event) → records (xs ++ ys) ≡ records xs ++ records ys
records_append xs ys = flat_map-append event_bytes xs ys

-- the events are the ones that were read, and others
record Goes (done events : List Event) (x y : List ℕ) : Type 0 where
  more : List Event
  is : events ≡ done ++ more
  in_range : AllByRecursion IsInRange more
  rest : x ≡ records more ++ y

goes : (done events : List Event) (x y : List ℕ) → AllByRecursion IsInRange done → AllByRecursion IsInRange events → records done
    ++ x ≡ records events ++ y
    → length (records done) ≤ length (records events) → Goes done events x y
goes [] events x y p q same le = record { more = events; is = refl; in_range = q; rest = same }
goes (d ∷ ds) [] x y p q same le =
    let whole : length (records (d ∷ ds)) ≡ length (event_bytes d) + length (records ds) = ap length (records_cons d ds)
    ∙ length-append (event_bytes d) (records ds) in
    absurd (omega (arith, whole, le, length_event_bytes d))
goes (d ∷ ds) (e ∷ es) x y p q same le =
    let left : event_bytes d ++ (records ds ++ x) ≡ event_bytes e ++ (records es ++ y) =
    sym (append_assoc (event_bytes d) (records ds) x) ∙ ap (λ (l : List ℕ). l ++ x) (sym (records_cons d ds)) ∙ same
    ∙ ap (λ (l : List ℕ). l ++ y) (records_cons e es) ∙ append_assoc (event_bytes e) (records es) y in
    let one = one_reading d e (records ds ++ x) (records es ++ y) p.0 q.0 left in
    let size_d : length (records (d ∷ ds)) ≡ length (event_bytes d) + length (records ds) = ap length (records_cons d ds)
    ∙ length-append (event_bytes d) (records ds) in
    let size_e : length (records (e ∷ es)) ≡ length (event_bytes e) + length (records es) = ap length (records_cons e es)
    ∙ length-append (event_bytes e) (records es) in
    let sizes : length (event_bytes d) ≡ length (event_bytes e) = ap (λ (a : Event). length (event_bytes a)) one.0 in
    let less : length (records ds) ≤ length (records es) = omega (arith, le, size_d, size_e, sizes) in
    let g = goes ds es x y p.1 q.1 one.1 less in
    record {
      more = g.more;
      is = (λ i. sym one.0 i ∷ g.is i);
      in_range = g.in_range;
      rest = g.rest;
    }

-- ---- in a file

pub nothing_read : (bytes : List ℕ) → HasRecords [] 0 bytes
nothing_read bytes = record { in_range = tt; size = refl; spelled = refl }

whole_is : (events : List Event) (until : ℕ) (bytes : List ℕ) → HasRecords events until bytes → bytes ≡ records events ++ drop until bytes
whole_is events until bytes h = sym (take-append-drop until bytes) ∙ ap (λ (l : List ℕ). l ++ drop until bytes) h.spelled

-- what is left behind events that were read
pub record IsMore (done events : List Event) (at until : ℕ) (bytes : List ℕ) : Type 0 where
  pub more : List Event
  pub is : events ≡ done ++ more
  pub has : HasRecords more (until - at) (drop at bytes)

pub more_behind : (done events : List Event) (at until : ℕ) (bytes : List ℕ) → at ≤ until → HasRecords done at bytes →
    HasRecords events until bytes → IsMore done events at until bytes
more_behind done events at until bytes le read has =
    let g = goes done events (drop at bytes) (drop until bytes) read.in_range has.in_range (sym (whole_is done at bytes read)
    ∙ whole_is events until bytes has)
    (omega (arith, le, read.size, has.size)) in
    let sizes : length (records events) ≡ length (records done) + length (records g.more) = ap (λ (l : List Event). length (records l)) g.is
    ∙ ap length (records_append done g.more) ∙ length-append (records done) (records g.more) in
    let size : length (records g.more) ≡ until - at = omega (arith, sizes, read.size, has.size) in
    record {
      more = g.more;
      is = g.is;
      has = record {
        in_range = g.in_range;
        size = size;
        spelled = ap (take (until - at)) g.rest ∙ take_at (records g.more) (drop until bytes) (until - at) size;
      };
    }

-- one event more
pub one_more : (done : List Event) (event : Event) (at next : ℕ) (bytes : List ℕ) → HasRecords done at bytes →
    IsRecordOf (between at next bytes) event → next ≡ at + length (event_bytes event)
    → HasRecords (done ++ event ∷ []) next bytes
one_more done event at next bytes read is size =
    let sizes : length (records (done ++ event ∷ [])) ≡ length (records done) + length (records (event ∷ [])) =
    ap length (records_append done (event ∷ [])) ∙ length-append (records done) (records (event ∷ [])) in
    let one : records (event ∷ []) ≡ event_bytes event = records_cons event [] ∙ append-nil (event_bytes event) in
    let ones : length (records (event ∷ [])) ≡ length (event_bytes event) = ap length one in
    let sum : next ≡ at + (next - at) = omega (arith, size) in
    record {
      in_range = all_append done (event ∷ []) read.in_range (is.in_range, tt);
      size = omega (arith, sizes, ones, size, read.size);
      spelled = ap (λ (n : ℕ). take n bytes) sum ∙ take-add at (next - at) bytes
          ∙ ap (λ (l : List ℕ). l ++ between at next bytes) read.spelled
          ∙ ap (λ (l : List ℕ). records done ++ l) (is.spelled ∙ sym one) ∙ sym (records_append done (event ∷ []));
    }

-- an event alone, from a place on
pub alone : (event : Event) (at next : ℕ) (bytes : List ℕ) → IsRecordOf (between at next bytes) event →
    next ≡ at + length (event_bytes event) → HasRecords (event ∷ []) (next - at) (drop at bytes)
alone event at next bytes is size =
    let one : records (event ∷ []) ≡ event_bytes event = records_cons event [] ∙ append-nil (event_bytes event) in
    record {
      in_range = (is.in_range, tt);
      size = omega (arith, ap length one, size);
      spelled = is.spelled ∙ sym one;
    }

none_more : (more : List Event) → length (records more) ≡ 0 → more ≡ []
none_more [] none = refl
none_more (event ∷ more) none =
    let whole : length (records (event ∷ more)) ≡ length (event_bytes event) + length (records more) = ap length (records_cons event more)
    ∙ length-append (event_bytes event) (records more) in
    absurd (omega (arith, whole, none, length_event_bytes event))

-- the same bytes are the records of one list alone
pub same_events : (a b : List Event) (until : ℕ) (bytes : List ℕ) → HasRecords a until bytes → HasRecords b until bytes → b ≡ a
same_events a b until bytes p q =
    let m = more_behind a b until until bytes (omega arith) p q in
    m.is ∙ ap (λ (l : List Event). a ++ l) (none_more m.more (omega (arith, m.has.size))) ∙ append-nil a

-- records are no place without a record
pub none_bad : (done events : List Event) (at until : ℕ) (bytes : List ℕ) → at < until → HasRecords done at bytes →
    HasRecords events until bytes → HasNoRecord at until bytes → ⊥
none_bad done events at until bytes lt read has none =
    let m = more_behind done events at until bytes (omega (arith, lt)) read has in
    not_bad m.more 0 at until bytes lt none (record {
      more = m.more;
      in_range = m.has.in_range;
      counted = omega arith;
      size = omega (arith, m.has.size, lt);
      spelled = m.has.spelled;
    })
