-- The two laws: what is read is spelled so, and what is spelled so is read.
use Rattle.std.proofs.Common.{◌≡◌, ℕ, ◌+◌, ◌-◌, ◌≤◌, List, [], ◌++◌, length, take, drop, Some, None, refl, sym, ap, ◌∙◌, append_assoc}
use Rattle.std.proofs.Common.{arith, length-append}
use Rattle.std.proofs.lemmas.List.{append-nil, nil_from_length, take_at, take-append-drop, length-take}
use Rattle.ix_base.specs.declared.events.Event.{Event}
use Rattle.ix_coding.specs.Spelling.{signed, string, IsShort}
use Rattle.ix_coding.proofs.Again.{signed_again, string_again}
use Rattle.ix_bucket.specs.Record.{fields, event_bytes, IsInRange, IsRecordOf}
use Rattle.ix_bucket.specs.Reading.{fields_at, record_at}
use Rattle.ix_bucket.proofs.Sizes.{length_fields}

-- ---- what is read is spelled so

pub fields_found : (e : Event) (bytes r1 r2 r3 r4 r5 r6 r7 rest : List ℕ) → bytes ≡ signed e.time ++ r1 → r1 ≡ signed e.arrival ++ r2 →
    r2 ≡ string e.index ++ r3 → r3 ≡ string e.host ++ r4
    → r4 ≡ string e.source ++ r5 → r5 ≡ string e.sourcetype ++ r6 → r6 ≡ string e.meta ++ r7 → r7 ≡ string e.raw ++ rest → bytes ≡ fields e
    ++ rest
unfolding fields
fields_found e bytes r1 r2 r3 r4 r5 r6 r7 rest h1 h2 h3 h4 h5 h6 h7 h8 = rw (h1, h2, h3, h4, h5, h6, h7, h8) (simp append_assoc)

-- the fields alone, where nothing is left behind them
pub fields_alone : (event : Event) (body left : List ℕ) → body ≡ fields event ++ left → length left ≡ 0 → body ≡ fields event
fields_alone event body left is none = is ∙ ap (λ (l : List ℕ). fields event ++ l) (nil_from_length left none) ∙ append-nil (fields event)

pub record_found : (event : Event) (bytes body rest : List ℕ) → bytes ≡ string body ++ rest → body ≡ fields event →
    bytes ≡ event_bytes event ++ rest
unfolding event_bytes
record_found event bytes body rest is whole = is ∙ ap (λ (l : List ℕ). string l ++ rest) whole

-- ---- what is spelled so is read

record AreShort (e : Event) : Type 0 where
  index : IsShort e.index
  host : IsShort e.host
  source : IsShort e.source
  sourcetype : IsShort e.sourcetype
  meta : IsShort e.meta
  raw : IsShort e.raw

are_short : (e : Event) → IsShort (fields e) → AreShort e
are_short e h =
    let size = length_fields e in
    record {
      index = omega (arith, size);
      host = omega (arith, size);
      source = omega (arith, size);
      sourcetype = omega (arith, size);
      meta = omega (arith, size);
      raw = omega (arith, size);
    }

fields_again : (e : Event) (rest : List ℕ) → IsInRange e → AreShort e → fields_at (fields e ++ rest) ≡ Some (e, rest)
unfolding fields_at fields
fields_again e rest h s =
    let split : fields e ++ rest ≡ signed e.time ++ (signed e.arrival
    ++ (string e.index ++ (string e.host ++ (string e.source ++ (string e.sourcetype ++ (string e.meta ++ (string e.raw ++ rest))))))) =
    simp append_assoc in
    ap fields_at split
    ∙ rw (
      signed_again e.time _ h.time,
      signed_again e.arrival _ h.arrival,
      string_again e.index _ s.index,
      string_again e.host _ s.host,
      string_again e.source _ s.source,
      string_again e.sourcetype _ s.sourcetype,
      string_again e.meta _ s.meta,
      string_again e.raw rest s.raw,
    ) refl

pub record_again : (e : Event) (rest : List ℕ) → IsInRange e → record_at (event_bytes e ++ rest) ≡ Some (e, rest)
unfolding record_at event_bytes
record_again e rest h =
    let whole : fields_at (fields e) ≡ Some (e, []) = ap fields_at (sym (append-nil (fields e)))
    ∙ fields_again e [] h (are_short e h.size) in
    rw (string_again (fields e) rest h.size, whole) refl

-- ---- what follows

some_is : {A : Type 0} (x y : A) → Some x ≡ Some y → x ≡ y
some_is x y e = cc

abbrev pair : Event → List ℕ → Event × List ℕ
pair event rest = (event, rest)

-- two readings of the same bytes
pub one_reading : (a b : Event) (x y : List ℕ) → IsInRange a → IsInRange b → event_bytes a ++ x ≡ event_bytes b ++ y → (a ≡ b) × (x ≡ y)
one_reading a b x y fit_a fit_b is =
    let e = some_is (pair a x) (pair b y) (sym (record_again a x fit_a) ∙ ap record_at is ∙ record_again b y fit_b) in
    (ap (λ (p : Event × List ℕ). p.0) e, ap (λ (p : Event × List ℕ). p.1) e)

-- a record at the front, and what stands behind it
pub front_record : (bytes : List ℕ) (event : Event) (n : ℕ) → IsRecordOf (take n bytes) event → bytes ≡ event_bytes event ++ drop n bytes
front_record bytes event n h = sym (take-append-drop n bytes) ∙ ap (λ (l : List ℕ). l ++ drop n bytes) h.spelled

pub none_again : (bytes : List ℕ) (event : Event) (rest : List ℕ) → IsInRange event → bytes ≡ event_bytes event ++ rest →
    record_at bytes ≡ None → ⊥
none_again bytes event rest fits is none = let e = record_again event rest fits in cc

pub none_begins : (bytes : List ℕ) (event : Event) (n : ℕ) → IsRecordOf (take n bytes) event → record_at bytes ≡ None → ⊥
none_begins bytes event n h none = none_again bytes event (drop n bytes) h.in_range (front_record bytes event n h) none

pub record Begins (bytes : List ℕ) (event : Event) (rest : List ℕ) : Type 0 where
  pub within : length rest ≤ length bytes
  pub is_record : IsRecordOf (take (length bytes - length rest) bytes) event
  pub size : length bytes - length rest ≡ length (event_bytes event)

pub begins : (bytes : List ℕ) (event : Event) (rest : List ℕ) → IsInRange event → bytes ≡ event_bytes event ++ rest →
    Begins bytes event rest
begins bytes event rest fits is =
    let sizes : length bytes ≡ length (event_bytes event) + length rest = ap length is ∙ length-append (event_bytes event) rest in
    let n : length (event_bytes event) ≡ length bytes - length rest = omega arith in
    record {
      within = omega arith;
      is_record = record {
        in_range = fits;
        spelled = ap (λ (l : List ℕ). take (length bytes - length rest) l) is
            ∙ take_at (event_bytes event) rest (length bytes - length rest) n;
      };
      size = sym n;
    }

pub only_reading : (bytes : List ℕ) (found event : Event) (after rest : List ℕ) → IsInRange found → IsInRange event →
    bytes ≡ event_bytes found ++ after → bytes ≡ event_bytes event ++ rest
    → (found ≡ event) × (length bytes - length after ≡ length (event_bytes event))
only_reading bytes found event after rest fit_found fits was is =
    let one = one_reading found event after rest fit_found fits (sym was ∙ is) in
    let size = (begins bytes event rest fits is).size in
    (one.0, ap (λ (l : List ℕ). length bytes - length l) one.1 ∙ size)

-- the length of a record is that of what was found
pub record_length : (len : ℕ) (bytes : List ℕ) (event : Event) → len ≤ length bytes → IsRecordOf (take len bytes) event →
    len ≡ length (event_bytes event)
record_length len bytes event le h = omega (arith, ap length h.spelled, length-take len bytes)
