-- What the bytes that a reader holds say of its file.
use Rattle.std.proofs.Common.{◌≡◌, ℕ, ◌+◌, ◌-◌, ◌^◌, ◌<◌, ◌≤◌, Bool, true, false, ltb, List, [], ◌++◌, length, take, drop, Option, Some}
use Rattle.std.proofs.Common.{None, refl, sym, ap, subst, ◌∙◌, append_assoc, arith, inl, inr}
use Rattle.std.specs.Prelude.{IsTrue}
use Rattle.std.proofs.Common.{rules}
use Rattle.std.specs.Int.{w32, from_be_bytes}
use Rattle.std.proofs.lemmas.Bool.{cases_lt, le-ltb}
use Rattle.std.proofs.lemmas.List.{take_all, take_at, take-take, take-append-le, take-append-drop, drop-drop, drop-append-le}
use Rattle.std.proofs.lemmas.List.{length-append, length-take, length-drop}
use Rattle.ix_base.specs.Told.{IsFrontOf}
use Rattle.ix_base.specs.declared.events.Event.{Event}
use Rattle.ix_disk.specs.Image.{Image, bytes_in}
use Rattle.ix_disk.specs.declared.disk.Disk.{Ghosts}
use Rattle.ix_bucket.specs.declared.ahead.Reader.{Reader}
use Rattle.ix_coding.specs.Spelling.{four, string}
use Rattle.ix_coding.specs.Reading.{number_at, four_at}
use Rattle.ix_coding.proofs.Again.{four_again}
use Rattle.ix_bucket.specs.Record.{fields, event_bytes, IsRecordOf}
use Rattle.ix_bucket.specs.Ahead.{IsCurrent, HoldsNothing, between, HasNoRecord, size_by, needed, Shows}
use Rattle.ix_bucket.proofs.Sizes.{length_event_bytes}

least : (o : Option (ℕ × List ℕ)) → 4 ≤ size_by o
least None = omega arith
least (Some n) = omega arith

pub needed_least : (bytes : List ℕ) → 4 ≤ needed bytes
needed_least bytes = least (number_at w32 bytes)

by_four : List ℕ → ℕ
by_four four = 4 + from_be_bytes w32 four

-- the first four bytes say it, where there are so many
needed_long : (bytes : List ℕ) → 4 ≤ length bytes → needed bytes ≡ by_four (take 4 bytes)
unfolding by_four
needed_long bytes long = let test : ltb (length bytes) 4 ≡ false = le-ltb _ _ long in rw test refl

needed_front : (a b : List ℕ) → 4 ≤ length a → needed (a ++ b) ≡ needed a
needed_front a b long =
    needed_long (a ++ b) (omega (arith, length-append a b)) ∙ ap by_four (take-append-le 4 a b long) ∙ sym (needed_long a long)

needed_take : (n : ℕ) (bytes : List ℕ) → 4 ≤ n → needed (take n bytes) ≡ needed bytes
needed_take n bytes le =
    elim (cases_lt (length bytes) n) [
      | inl short ↦ ap needed (take_all n bytes (omega arith))
      | inr long ↦ sym (needed_front (take n bytes) (drop n bytes) (omega (arith, length-take n bytes)))
          ∙ ap needed (take-append-drop n bytes)
    ]

needed_string : (bytes rest : List ℕ) → length bytes < 2 ^ 32 → needed (string bytes ++ rest) ≡ 4 + length bytes
unfolding string four_at
needed_string bytes rest lt = ap needed (append_assoc (four (length bytes)) bytes rest)
    ∙ ap size_by (four_again (length bytes) (bytes ++ rest) lt)

record_size : (event : Event) → 4 + length (fields event) ≡ length (event_bytes event)
record_size event = sym (length_event_bytes event)

-- a record is as long as its first four bytes say
pub needed_record : (k : ℕ) (bytes : List ℕ) (event : Event) → IsRecordOf (take k bytes) event → needed bytes ≡ length (event_bytes event)
unfolding event_bytes
needed_record k bytes event h =
    ap needed (sym (take-append-drop k bytes) ∙ ap (λ (x : List ℕ). x ++ drop k bytes) h.spelled)
    ∙ needed_string (fields event) (drop k bytes) h.in_range.size ∙ record_size event

-- the bytes of a record by themselves
record_alone : (k : ℕ) (bytes : List ℕ) (event : Event) → IsRecordOf (take k bytes) event →
    take (length (event_bytes event)) bytes ≡ event_bytes event
record_alone k bytes event h =
    ap (take (length (event_bytes event))) (sym (take-append-drop k bytes) ∙ ap (λ (x : List ℕ). x ++ drop k bytes) h.spelled)
    ∙ take_at (event_bytes event) (drop k bytes) _ refl

-- ---- no record

pub no_record : (at until : ℕ) (bytes : List ℕ) → length (between at until bytes) < needed (drop at bytes) → HasNoRecord at until bytes
no_record at until bytes short event next le h =
    let size = needed_record (next - at) (drop at bytes) event h in
    omega (arith, size, ap length h.spelled, length-take (next - at) (drop at bytes), length-take (until - at) (drop at bytes))

-- a front of the bytes has what they begin with
module _ (view bytes : List ℕ) (shows : Shows view bytes) where
  long_enough : 4 ≤ length view
  long_enough = omega (arith, shows.enough, needed_least view)

  needed_same : needed bytes ≡ needed view
  needed_same = ap needed shows.front.whole_is ∙ needed_front view shows.front.rest long_enough

  front_same : (n : ℕ) → n ≤ length view → take n bytes ≡ take n view
  front_same n le = ap (take n) shows.front.whole_is ∙ take-append-le n view shows.front.rest le

  view_shorter : length view ≤ length bytes
  view_shorter = omega (arith, ap length shows.front.whole_is, length-append view shows.front.rest)

pub none_there : (at until : ℕ) (bytes view : List ℕ) → Shows view (between at until bytes) →
    ((event : Event) (n : ℕ) → IsRecordOf (take n view) event → ⊥) → HasNoRecord at until bytes
none_there at until bytes view shows none event next le h =
    let size = needed_record (next - at) (drop at bytes) event h in
    let m = length (event_bytes event) in
    let wide : 4 ≤ until - at = omega (
      arith,
      view_shorter view (between at until bytes) shows,
      long_enough view (between at until bytes) shows,
      length-take (until - at) (drop at bytes),
    ) in
    let fits : m ≤ length view = omega (
      arith,
      size,
      needed_same view (between at until bytes) shows,
      needed_take (until - at) (drop at bytes) wide,
      shows.enough,
    ) in
    let inside : m ≤ until - at = omega (
      arith,
      fits,
      view_shorter view (between at until bytes) shows,
      length-take (until - at) (drop at bytes),
    ) in
    none event m (record {
      in_range = h.in_range;
      spelled = sym (front_same view (between at until bytes) shows m fits) ∙ take-take m (until - at) (drop at bytes) inside
          ∙ record_alone (next - at) (drop at bytes) event h;
    })

pub record_there : (at until len : ℕ) (bytes view : List ℕ) (event : Event) → Shows view (between at until bytes) → len ≤ length view →
    IsRecordOf (take len view) event → IsRecordOf (between at (at + len) bytes) event
record_there at until len bytes view event shows le h =
    let inside : len ≤ until - at = omega (
      arith,
      le,
      view_shorter view (between at until bytes) shows,
      length-take (until - at) (drop at bytes),
    ) in
    let back : at + len - at ≡ len = omega arith in
    let same : take len (drop at bytes) ≡ take len view = sym (take-take len (until - at) (drop at bytes) inside)
    ∙ front_same view (between at until bytes) shows len le in
    record { in_range = h.in_range; spelled = ap (λ (n : ℕ). take n (drop at bytes)) back ∙ same ∙ h.spelled }

-- a record takes a byte at least, and ends where the bytes do at the latest
pub next_within : (at until len : ℕ) (view : List ℕ) (event : Event) → length view ≤ until - at → len ≤ length view →
    IsRecordOf (take len view) event → (at < at + len) × (at + len ≤ until)
next_within at until len view event short le h =
    let size = needed_record len view event h in
    let some : 4 ≤ length (take len view) = omega (arith, size, needed_least view, ap length h.spelled) in
    (omega (arith, some, length-take len view), omega (arith, some, short, le, length-take len view))

-- ---- what is held

module _ {D : Type 0} (g : Ghosts D) where
  pub empty_current : (reader : Reader) (disk : D) → reader.held.items ≡ [] → IsCurrent g reader disk
  empty_current reader disk none = record {
    held = λ image told. record {
      rest = drop reader.start (bytes_in image reader.file);
      whole_is = rw none refl;
    };
  }

  -- a reader that holds nothing holds what any disk has
  pub nothing_current : (reader : Reader) (disk : D) → HoldsNothing reader → IsCurrent g reader disk
  nothing_current reader disk holds = empty_current reader disk holds.none

  pub read_current : (reader : Reader) (old new : D) (len : ℕ) → g.seen new ≡ g.seen old →
      ((image : Image) → g.seen old ≡ Some image → reader.held.items ≡ take len (drop reader.start (bytes_in image reader.file))) →
      IsCurrent g reader new
  read_current reader old new len same read = record {
    held = λ image told. record {
      rest = drop len (drop reader.start (bytes_in image reader.file));
      whole_is = sym (take-append-drop len (drop reader.start (bytes_in image reader.file)))
          ∙ ap (λ (x : List ℕ). x ++ drop len (drop reader.start (bytes_in image reader.file))) (sym (read image (sym same ∙ told)));
    };
  }

  pub still_current : (reader : Reader) (old new : D) → g.seen new ≡ g.seen old → IsCurrent g reader old → IsCurrent g reader new
  still_current reader old new same current = record { held = λ image told. current.held image (sym same ∙ told) }

-- a piece that was read is long enough
pub piece_shows : (at until len : ℕ) (bytes held : List ℕ) → held ≡ take len (drop at bytes) → len ≤ length (between at until bytes) →
    needed (drop at bytes) ≤ len → Shows (take (until - at) (drop (at - at) held)) (between at until bytes)
piece_shows at until len bytes held read within enough =
    let X : List ℕ = drop at bytes in
    let inside : len ≤ until - at = omega (arith, within, length-take (until - at) X) in
    let there : len ≤ length X = omega (arith, within, length-take (until - at) X) in
    let zero-is : at - at ≡ 0 = omega arith in
    let size : length (take len X) ≡ len = omega (arith, length-take len X, there) in
    let view : take (until - at) (drop (at - at) held) ≡ take len X = ap (λ (n : ℕ). take (until - at) (drop n held)) zero-is
    ∙ ap (take (until - at)) read ∙ take_all (until - at) (take len X) (omega (arith, size)) in
    let same : needed (take len X) ≡ needed X = needed_take len X (omega (arith, enough, needed_least X)) in
    subst (λ (v : List ℕ). Shows v (between at until bytes)) (sym view) (record {
      front = record {
        rest = drop len (take (until - at) X);
        whole_is = sym (take-append-drop len (take (until - at) X))
            ∙ ap (λ (v : List ℕ). v ++ drop len (take (until - at) X)) (take-take len (until - at) X inside);
      };
      enough = omega (arith, same, size, enough);
    })

-- what is held shows what it is long enough for
pub held_shows : (start at until : ℕ) (bytes held : List ℕ) → IsFrontOf held (drop start bytes) → start ≤ at →
    needed (take (until - at) (drop (at - start) held)) ≤ length (take (until - at) (drop (at - start) held))
    → Shows (take (until - at) (drop (at - start) held)) (between at until bytes)
held_shows start at until bytes held front le enough =
    let k = at - start in
    let V : List ℕ = drop k held in
    let R : List ℕ = front.rest in
    let some : 4 ≤ length (take (until - at) V) = omega (arith, enough, needed_least (take (until - at) V)) in
    let inside : k ≤ length held = omega (arith, some, length-take (until - at) V, length-drop k held) in
    let place : start + k ≡ at = omega arith in
    let whole : drop at bytes ≡ V ++ R = ap (λ (n : ℕ). drop n bytes) (sym place) ∙ sym (drop-drop k start bytes)
    ∙ ap (drop k) front.whole_is ∙ drop-append-le k held R inside in
    record {
      front = record {
        rest = drop (length (take (until - at) V)) (take (until - at) (V ++ R));
        whole_is = ap (take (until - at)) whole ∙ fronts (until - at) V R;
      };
      enough = enough;
    }
  where
    fronts : (n : ℕ) (a b : List ℕ) → take n (a ++ b) ≡ take n a ++ drop (length (take n a)) (take n (a ++ b))
    fronts n a b = sym (take-append-drop (length (take n a)) (take n (a ++ b)))
        ∙ ap (λ (x : List ℕ). x ++ drop (length (take n a)) (take n (a ++ b))) (start_of n a b)
      where
        start_of : (n : ℕ) (a b : List ℕ) → take (length (take n a)) (take n (a ++ b)) ≡ take n a
        start_of n a b =
            let m = length (take n a) in
            let le : m ≤ n = omega (arith, length-take n a) in
            let less : m ≤ length a = omega (arith, length-take n a) in
            take-take m n (a ++ b) le ∙ take-append-le m a b less ∙ sym (take-take m n a le) ∙ take_all m (take n a) (omega arith)

pub was_true : (b : Bool) → b ≡ true → IsTrue b
was_true true e = search rules
was_true false e = absurd cc
