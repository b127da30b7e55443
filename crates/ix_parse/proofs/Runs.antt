-- Runs that fit are apart and few, and such runs fit.
use Rattle.std.proofs.Common.{◌≡◌, ℕ, ℤ, ◌+◌, ◌-◌, ◌≤◌, Bool, true, false, ltb, List, [], ◌∷◌, ◌++◌, length, replicate, Option, Some, None}
use Rattle.std.proofs.Common.{refl, sym, ap, ◌∙◌, arith, append_assoc, length-append}
use Rattle.std.specs.Prelude.{◌≢◌, ◌||◌, if◌then◌else◌}
use Rattle.std.specs.List.{flat_map, AllByRecursion}
use Rattle.std.specs.Ordering.{int_eq}
use Rattle.std.specs.Option.{option_eq}
use Rattle.std.proofs.lemmas.Bool.{true≢false, false≢true, ltb-false, le-ltb, or_parts, false_from_ne_true}
use Rattle.std.proofs.lemmas.Bool.Decides.{Decides-int_eq}
use Rattle.std.proofs.lemmas.List.{length-replicate}
use Rattle.std.proofs.lemmas.List.Concat.{flat_map-cons}
use Rattle.std.proofs.lemmas.Slice.Zip.{length-zip}
use Rattle.ix_base.specs.Stream.{dated}
use Rattle.ix_base.specs.declared.events.Line.{Line}
use Rattle.ix_lines.specs.Carry.{dated_of}
use Rattle.ix_coding.specs.Spelling.{four}
use Rattle.ix_parse.specs.Spelling.{line_bytes, runs_bytes}
use Rattle.ix_parse.specs.Form.{IsRun, BeginElse, AreApart, AreRuns}
use Rattle.ix_parse.specs.Reading.{fit}

length-dated : (bytes : List ℕ) (moment : ℤ) → length (dated bytes moment) ≡ length bytes
length-dated bytes moment = omega (arith, length-zip bytes (replicate (length bytes) moment), length-replicate (length bytes) moment)

pub length-dated_of : (run : Line) (runs : List Line) → length (dated_of (run ∷ runs)) ≡ length run.bytes + length (dated_of runs)
length-dated_of run runs =
    ap length (flat_map-cons (λ (r : Line). dated r.bytes r.moment) run runs)
    ∙ omega (arith, length-append (dated run.bytes run.moment) (dated_of runs), length-dated run.bytes run.moment)

-- the first of the runs has another moment than the one before, if there is one
abbrev pub BeginBehind : Option ℤ → List Line → Type 0
BeginBehind None runs = Unit {0}
BeginBehind (Some moment) runs = BeginElse moment runs

record Fit (before : Option ℤ) (room : ℕ) (runs : List Line) : Type 0 where
  begin : BeginBehind before runs
  apart : AreApart runs
  few : length (dated_of runs) ≤ room

no_other : (before : Option ℤ) (run : Line) (runs : List Line) → option_eq int_eq before (Some run.moment) ≡ false →
    BeginBehind before (run ∷ runs)
no_other None run runs e = tt
no_other (Some moment) run runs e = λ same. true≢false (sym ((Decides-int_eq moment run.moment).1 same) ∙ e)

other : (before : Option ℤ) (run : Line) (runs : List Line) → BeginBehind before (run ∷ runs) →
    option_eq int_eq before (Some run.moment) ≡ false
other None run runs h = refl
other (Some moment) run runs h = false_from_ne_true (int_eq moment run.moment) (λ e. h ((Decides-int_eq moment run.moment).0 e))

passes : (test rest : Bool) → (if test then false else rest) ≡ true → (test ≡ false) × (rest ≡ true)
passes true rest e = absurd (false≢true e)
passes false rest e = (refl, e)

fits : (before : Option ℤ) (room : ℕ) (runs : List Line) → fit before room runs ≡ true → Fit before room runs
unfolding fit
fits None room [] e = record { begin = tt; apart = tt; few = omega arith }
fits (Some moment) room [] e = record { begin = tt; apart = tt; few = omega arith }
fits before room (run ∷ runs) e =
    let both = passes (option_eq int_eq before (Some run.moment) || ltb room (length run.bytes))
    (fit (Some run.moment) (room - length run.bytes) runs) e in
    let parts = or_parts (option_eq int_eq before (Some run.moment)) (ltb room (length run.bytes)) both.0 in
    let others = fits (Some run.moment) (room - length run.bytes) runs both.1 in
    record {
      begin = no_other before run runs parts.0;
      apart = (others.begin, others.apart);
      few = omega (arith, ltb-false room (length run.bytes) parts.1, others.few, length-dated_of run runs);
    }

fit_again : (before : Option ℤ) (room : ℕ) (runs : List Line) → Fit before room runs → fit before room runs ≡ true
unfolding fit
fit_again before room [] h = refl
fit_again before room (run ∷ runs) h =
    let size = length-dated_of run runs in
    let within : ltb room (length run.bytes) ≡ false = le-ltb room (length run.bytes) (omega (arith, h.few, size)) in
    let behind = other before run runs h.begin in
    rw (behind, within) (fit_again (Some run.moment) (room - length run.bytes) runs (record {
      begin = h.apart.0;
      apart = h.apart.1;
      few = omega (arith, h.few, size);
    }))

pub runs_of_fit : (runs : List Line) → AllByRecursion IsRun runs → fit None 16383 runs ≡ true → AreRuns runs
runs_of_fit runs each e =
    let h = fits None 16383 runs e in
    record { each = each; apart = h.apart; few = h.few }

pub fit_of_runs : (runs : List Line) → AreRuns runs → fit None 16383 runs ≡ true
fit_of_runs runs h = fit_again None 16383 runs (record { begin = tt; apart = h.apart; few = h.few })

-- the count and the runs
pub runs_found : (runs : List Line) (bytes : List ℕ) (count : ℕ) (rest after : List ℕ) → bytes ≡ four count ++ rest → length runs ≡ count →
    rest ≡ flat_map line_bytes runs ++ after → bytes ≡ runs_bytes runs ++ after
unfolding runs_bytes
runs_found runs bytes count rest after h n e =
    h ∙ ap (λ (k : ℕ). four k ++ rest) (sym n) ∙ ap (λ (l : List ℕ). four (length runs) ++ l) e
    ∙ sym (append_assoc (four (length runs)) (flat_map line_bytes runs) after)

-- there are no more runs than bytes
pub length_runs : (runs : List Line) → AllByRecursion IsRun runs → length runs ≤ length (dated_of runs)
length_runs [] each = omega arith
length_runs (run ∷ runs) each = omega (arith, length_runs runs each.1, each.0.some, length-dated_of run runs)
