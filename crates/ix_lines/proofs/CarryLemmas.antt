-- What is carried of a stream.
use Rattle.std.proofs.Common.{◌≡◌, ℕ, zero, suc, ◌+◌, ◌-◌, ◌<◌, ◌≤◌, ℤ, Bool, true, false, List, [], ◌∷◌, ◌++◌, length, take, drop}
use Rattle.std.proofs.Common.{replicate, get_or, Option, Some, None, refl, sym, ◌∙◌, ap, arith, append_assoc}
use Rattle.std.specs.Prelude.{if◌then◌else◌}
use Rattle.std.specs.Ordering.{int_eq}
use Rattle.std.specs.List.{zip}
use Rattle.std.proofs.lemmas.Bool.Decides.{Decides-int_eq}
use Rattle.std.proofs.lemmas.List.{append-nil, length-append, length-drop, length-replicate, take_more}
use Rattle.std.proofs.lemmas.Grind.{flat_map-append}
use Rattle.ix_base.specs.Stream.{Dated, bytes_of, dated}
use Rattle.ix_lines.specs.Walk.{Look, match, no_match, more, BreakFinder, after, walk, walk_of}
use Rattle.ix_lines.specs.Laws.{WaitsWithin}
use Rattle.ix_lines.specs.Lines.{unless_empty}
use Rattle.ix_lines.specs.Carry.{joined, runs_of, open_line, carry_of, dated_of}
use Rattle.ix_lines.specs.Kept.{Keeps}
use Rattle.ix_lines.specs.Parts.{Parts, StandsFor}
use Rattle.ix_lines.specs.Moments.{moments_of}
use Rattle.ix_lines.specs.declared.carry.LineParts.{LineParts}
use Rattle.ix_lines.specs.declared.kept.Kept.{Kept}
use Rattle.ix_base.specs.declared.events.Line.{Line}
use Rattle.ix_lines.specs.declared.moments.Run.{Run}
use Rattle.ix_lines.proofs.ListLemmas.{drop-past}
use Rattle.ix_lines.proofs.MomentLemmas.{no_run, waiting, run-next}
use Rattle.ix_lines.proofs.WalkLemmas.{length-bytes_of}

same-moment : (m n : ℤ) → m ≡ n → int_eq m n ≡ true
same-moment m n e = (Decides-int_eq m n).1 e

other-moment : (m n : ℤ) → ¬ (m ≡ n) → int_eq m n ≡ false
other-moment m n other = by (int_eq m n) (Decides-int_eq m n).0
  where
    by : (b : Bool) → (b ≡ true → m ≡ n) → b ≡ false
    by true f = absurd (other (f refl))
    by false f = refl

-- the runs of a stream hold its bytes
dated-joined : (d : Dated) (runs : List Line) → dated_of (joined d runs) ≡ d ∷ dated_of runs
dated-joined d [] = refl
dated-joined d (run ∷ runs) = by (int_eq d.1 run.moment) (Decides-int_eq d.1 run.moment).0
  where
    by : (b : Bool) → (b ≡ true → d.1 ≡ run.moment) →
        dated_of (if b then record { bytes = d.0 ∷ run.bytes; moment = d.1 } ∷ runs else record { bytes = d.0 ∷ []; moment = d.1 } ∷ run
        ∷ runs)
        ≡ d ∷ dated_of (run ∷ runs)
    by true f = ap (λ m. d ∷ (dated run.bytes m ++ dated_of runs)) (f refl)
    by false f = refl

pub dated-runs : (stream : List Dated) → dated_of (runs_of stream) ≡ stream
dated-runs [] = refl
dated-runs (d ∷ stream) = dated-joined d (runs_of stream) ∙ ap (λ l. d ∷ l) (dated-runs stream)

-- a stream goes on with another moment, or ends
abbrev pub Turns : ℤ → List Dated → Type 0
Turns m [] = Unit {0}
Turns m (d ∷ stream) = ¬ (m ≡ d.1)

joined-other : (b : ℕ) (m : ℤ) (rest : List Dated) → Turns m rest → joined (b, m) (runs_of rest) ≡ record { bytes = b ∷ []; moment = m }
    ∷ runs_of rest
joined-other b m [] turns = refl
joined-other b m (d ∷ rest) turns = by (runs_of rest)
  where
    by : (runs : List Line) → joined (b, m) (joined d runs) ≡ record { bytes = b ∷ []; moment = m } ∷ joined d runs
    by [] = rw (other-moment m d.1 turns) refl
    by (run ∷ runs) = two (int_eq d.1 run.moment)
      where
        two : (c : Bool) →
            joined (b, m) (if c then record { bytes = d.0 ∷ run.bytes; moment = d.1 } ∷ runs else record { bytes = d.0 ∷ []; moment = d.1 }
            ∷ run ∷ runs)
            ≡ record { bytes = b ∷ []; moment = m } ∷ (if c then record { bytes = d.0 ∷ run.bytes; moment = d.1 }
            ∷ runs else record { bytes = d.0 ∷ []; moment = d.1 } ∷ run ∷ runs)
        two true = rw (other-moment m d.1 turns) refl
        two false = rw (other-moment m d.1 turns) refl

-- bytes of one moment are a run, up to where the moment changes
pub run-ends : (bytes : List ℕ) (m : ℤ) (rest : List Dated) → Turns m rest → runs_of (dated bytes m ++ rest) ≡ unless_empty bytes m
    ++ runs_of rest
run-ends [] m rest turns = refl
run-ends (b ∷ []) m rest turns = joined-other b m rest turns
run-ends (b ∷ c ∷ bytes) m rest turns =
    ap (joined (b, m)) (run-ends (c ∷ bytes) m rest turns) ∙ rw (same-moment m m refl) refl

zip-replicate : (bytes : List ℕ) (n : ℕ) (m : ℤ) (ms : List ℤ) → n ≤ length bytes →
    zip bytes (replicate n m ++ ms) ≡ dated (take n bytes) m ++ zip (drop n bytes) ms
zip-replicate bytes zero m ms h = refl
zip-replicate [] (suc n) m ms h = absurd (omega arith)
zip-replicate (b ∷ bytes) (suc n) m ms h = ap (λ l. (b, m) ∷ l) (zip-replicate bytes n m ms (omega arith))

first-run : (bytes : List ℕ) (n : ℕ) (m : ℤ) (ms : List ℤ) → n ≤ length bytes → Turns m (zip (drop n bytes) ms) →
    runs_of (zip bytes (replicate n m ++ ms)) ≡ unless_empty (take n bytes) m ++ runs_of (zip (drop n bytes) ms)
first-run bytes n m ms h turns = ap runs_of (zip-replicate bytes n m ms h) ∙ run-ends (take n bytes) m (zip (drop n bytes) ms) turns

turns-at : (bytes : List ℕ) (m : ℤ) (now : Run) (ms : List ℤ) → 0 < now.count → ¬ (now.moment ≡ m) →
    Turns m (zip bytes (replicate now.count now.moment ++ ms))
turns-at bytes m now ms some other = by now.count bytes some
  where
    by : (n : ℕ) (bytes : List ℕ) → 0 < n → Turns m (zip bytes (replicate n now.moment ++ ms))
    by zero bytes h = absurd (omega arith)
    by (suc n) [] h = tt
    by (suc n) (b ∷ bytes) h = λ e. other (sym e)

no-turn : (bytes : List ℕ) (m : ℤ) → Turns m (zip bytes [])
no-turn [] m = tt
no-turn (b ∷ bytes) m = tt

no-runs : (bytes : List ℕ) → runs_of (zip bytes []) ≡ []
no-runs [] = refl
no-runs (b ∷ bytes) = refl

length-waiting : (now : Run) (runs : List Run) (i : ℕ) → length (waiting now runs i) ≡ now.count + length (moments_of (drop i runs))
length-waiting now runs i = length-append (replicate now.count now.moment) (moments_of (drop i runs))
    ∙ ap (λ n. n + length (moments_of (drop i runs))) (length-replicate now.count now.moment)

-- The run in use ends, where the next one has another moment.
pub run-over : (lines out whole : List Line) (bytes rest : List ℕ) (runs : List Run) (i : ℕ) (now next : Run) → i < length runs →
    next ≡ get_or runs i no_run →
    0 < (get_or runs i no_run).count → ¬ ((get_or runs i no_run).moment ≡ now.moment) → rest ≡ drop now.count bytes →
    out ≡ lines ++ unless_empty (take now.count bytes) now.moment →
    length bytes ≡ length (waiting now runs i) → lines ++ runs_of (zip bytes (waiting now runs i)) ≡ whole →
    out ++ runs_of (zip rest (waiting next runs (i + 1))) ≡ whole
run-over lines out whole bytes rest runs i now next h is some other left written same value =
    let p : Run = get_or runs i no_run in
    let later : List ℤ = waiting p runs (i + 1) in
    let run : List Line = unless_empty (take now.count bytes) now.moment in
    ap (λ r. out ++ runs_of (zip rest (waiting r runs (i + 1)))) is
    ∙ ap (λ l. l ++ runs_of (zip rest later)) written ∙ ap (λ l. (lines ++ run) ++ runs_of (zip l later)) left
    ∙ append_assoc lines run (runs_of (zip (drop now.count bytes) later))
    ∙ ap (λ l. lines ++ l) (sym (first-run bytes now.count now.moment later (omega (arith, length-waiting now runs i))
    (turns-at (drop now.count bytes) now.moment p (moments_of (drop (i + 1) runs)) some other)))
    ∙ ap (λ l. lines ++ runs_of (zip bytes (replicate now.count now.moment ++ l))) (sym (run-next runs i h)) ∙ value

pub length-over : (bytes rest : List ℕ) (runs : List Run) (i : ℕ) (now next : Run) → i < length runs → next ≡ get_or runs i no_run →
    rest ≡ drop now.count bytes →
    length bytes ≡ length (waiting now runs i) → length rest ≡ length (waiting next runs (i + 1))
length-over bytes rest runs i now next h is left same =
    let e : moments_of (drop i runs) ≡ waiting next runs (i + 1) = run-next runs i h ∙ ap (λ r. waiting r runs (i + 1)) (sym is) in
    omega (arith, ap length left, length-drop now.count bytes, length-waiting now runs i, ap length e)

pub run-fits : (bytes : List ℕ) (runs : List Run) (i : ℕ) (now : Run) → i < length runs → length bytes ≡ length (waiting now runs i) →
    now.count + (get_or runs i no_run).count ≤ length bytes
run-fits bytes runs i now h same =
    omega (arith, length-waiting now runs i, ap length (run-next runs i h), length-waiting (get_or runs i no_run) runs (i + 1))

-- It ends with the list.
pub run-last : (lines out whole : List Line) (bytes : List ℕ) (runs : List Run) (i : ℕ) (now : Run) → length runs ≤ i →
    out ≡ lines ++ unless_empty (take now.count bytes) now.moment → length bytes ≡ length (waiting now runs i) →
    lines ++ runs_of (zip bytes (waiting now runs i)) ≡ whole → out ≡ whole
run-last lines out whole bytes runs i now h written same value =
    let run : List Line = unless_empty (take now.count bytes) now.moment in
    let last = ap (λ rs. runs_of (zip bytes (replicate now.count now.moment ++ moments_of rs))) (drop-past i runs h)
    ∙ first-run bytes now.count now.moment [] (omega (arith, length-waiting now runs i)) (no-turn (drop now.count bytes) now.moment)
    ∙ ap (λ l. run ++ l) (no-runs (drop now.count bytes)) ∙ append-nil run in
    written ∙ ap (λ l. lines ++ l) (sym last) ∙ value

pub dated-next : (runs : List Line) (i : ℕ) (run : Line) → i < length runs → run ≡ get_or runs i run →
    dated_of (take (i + 1) runs) ≡ dated_of (take i runs) ++ dated run.bytes run.moment
dated-next runs i run h is =
    ap dated_of (take_more runs i run h) ∙ flat_map-append (λ (r : Line). dated r.bytes r.moment) (take i runs) (get_or runs i run ∷ [])
    ∙ ap (λ r. dated_of (take i runs) ++ (dated r.bytes r.moment ++ [])) (sym is)
    ∙ ap (λ l. dated_of (take i runs) ++ l) (append-nil (dated run.bytes run.moment))

-- fewer bytes wait than an attempt can see
pub few-wait : (look : BreakFinder) (most : ℕ) → WaitsWithin look most → 0 < most →
    (before : Option ℕ) (rest : List Dated) (within : ℕ) (stream : List Dated) →
    length (walk look true before rest within stream).pending < most
few-wait look most waits some before rest within [] = omega arith
few-wait look most waits some before rest (suc n) (d ∷ stream) = few-wait look most waits some (Some d.0) rest n stream
few-wait look most waits some before rest zero (d ∷ stream) =
    by (look before (bytes_of (d ∷ stream)) true) refl (λ since within. few-wait look most waits some (Some d.0) since within stream)
  where
    by : (l : Look) → look before (bytes_of (d ∷ stream)) true ≡ l →
        ((since : List Dated) (within : ℕ) → length (walk look true (Some d.0) since within stream).pending < most) →
        length (after before rest (d ∷ stream) (λ since within. walk look true (Some d.0) since within stream) l).pending < most
    by more e ih = omega (arith, waits before (bytes_of (d ∷ stream)) true e, length-bytes_of (d ∷ stream))
    by no_match e ih = ih (rest ++ d ∷ []) 0
    by (match from to n) e ih = ih (take (n - to) (drop to (d ∷ stream))) (n - 1)

-- what is carried of the bytes that wait
pub few-carried : (look : BreakFinder) (most : ℕ) → WaitsWithin look most → 0 < most →
    (t : ℕ) (stream : List Dated) (old : Parts) (runs : List Line) →
    StandsFor look t stream old → runs ≡ runs_of old.pending → length (dated_of runs) < most
few-carried look most waits some t stream old runs stands is =
    let e : dated_of runs ≡ (walk_of look true stream).pending = ap dated_of is ∙ dated-runs old.pending ∙ ap (λ p. p.pending) stands in
    omega (arith, ap length e, few-wait look most waits some None [] 0 stream)

-- what was carried stands for the stream again
pub resumed : (look : BreakFinder) (t : ℕ) (stream pending : List Dated) (before : Option ℕ) (parts : LineParts) (kept : Kept) →
    parts ≡ carry_of look t stream →
    before ≡ parts.before → pending ≡ dated_of parts.pending →
    (parts.line ≡ open_line t (walk_of look true stream).rest → Keeps t (walk_of look true stream).rest kept) →
    StandsFor look t stream (record {
      truncate = t;
      before = before;
      pending = pending;
      kept = kept.bytes;
      moment = kept.moment;
      broken = false;
    })
resumed look t stream pending before parts kept is first waits keeps =
    let k = keeps (ap (λ p. p.line) is) in
    λ i. record {
      truncate = t;
      before = (first ∙ ap (λ p. p.before) is) i;
      pending = (waits ∙ ap (λ p. dated_of p.pending) is ∙ dated-runs (walk_of look true stream).pending) i;
      kept = k.bytes_are i;
      moment = k.moment_is i;
      broken = false;
    }
