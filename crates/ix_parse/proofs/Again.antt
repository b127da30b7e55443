-- The parts that are spelled are read again, whatever follows them.
use Rattle.std.proofs.Common.{◌≡◌, ℕ, ℤ, ◌+◌, ◌≤◌, ◌<◌, ◌^◌, Bool, true, false, List, [], ◌∷◌, ◌++◌, length, Option, Some, None, refl, ap}
use Rattle.std.proofs.Common.{◌∙◌, append_assoc, arith}
use Rattle.std.specs.Prelude.{int_le, not, ◌&&◌, ◌≤ℤ◌}
use Rattle.std.specs.Bool.{OnFalse}
use Rattle.std.specs.List.{flat_map, AllByRecursion}
use Rattle.std.specs.Option.{ForSome}
use Rattle.std.proofs.lemmas.Bool.{le-leb, ne_eqb}
use Rattle.std.proofs.lemmas.Int.{ints}
use Rattle.std.proofs.lemmas.List.Concat.{flat_map-cons}
use Rattle.ix_base.specs.declared.events.Line.{Line}
use Rattle.ix_lines.specs.Carry.{dated_of}
use Rattle.ix_lines.specs.declared.carry.LineParts.{LineParts}
use Rattle.ix_merge.specs.Sizes as merged
use Rattle.ix_merge.specs.declared.events.Whole.{Whole}
use Rattle.ix_merge.specs.declared.carry.MergeParts.{MergeParts}
use Rattle.ix_coding.specs.Spelling.{byte, four, signed, flag, string, option, IsShort, IsSigned64}
use Rattle.ix_coding.specs.Reading.{byte_at, option_at}
use Rattle.ix_coding.proofs.Again.{byte_again, four_again, signed_again, string_again, flag_again, none_again, some_again}
use Rattle.ix_parse.specs.Spelling.{line_bytes, runs_bytes, event_bytes, line_parts_bytes, merge_parts_bytes}
use Rattle.ix_parse.specs.Form.{IsWithin, IsMoment, IsTime, IsRun, AreRuns, IsOpenLine, IsEvent}
use Rattle.ix_parse.specs.Reading.{within_at, moment_at, time_at, run_at, run_list_at, runs_at, open_line_at, line_parts_at, event_at}
use Rattle.ix_parse.specs.Reading.{is_something, merge_parts_at}
use Rattle.ix_parse.proofs.Runs.{length-dated_of, fit_of_runs, length_runs}

le_true : (a b : ℤ) → a ≤ℤ b → int_le a b ≡ true
le_true a b le = grind (arith, ints)

moment_fits : (z : ℤ) → IsMoment z → IsSigned64 z
moment_fits z h = let low = h.0 in let high = h.1 in omega (arith, ints)

time_fits : (z : ℤ) → IsTime z → IsSigned64 z
time_fits z h = let low = h.0 in let high = h.1 in omega (arith, ints)

within_again : (low high z : ℤ) (rest : List ℕ) → IsSigned64 z → IsWithin low high z →
    within_at low high (signed z ++ rest) ≡ Some (z, rest)
unfolding within_at
within_again low high z rest fits h = rw (signed_again z rest fits, le_true low z h.0, le_true z high h.1) refl

moment_again : (z : ℤ) (rest : List ℕ) → IsMoment z → moment_at (signed z ++ rest) ≡ Some (z, rest)
moment_again z rest h = within_again _ _ z rest (moment_fits z h) h

time_again : (z : ℤ) (rest : List ℕ) → IsTime z → time_at (signed z ++ rest) ≡ Some (z, rest)
time_again z rest h = within_again _ _ z rest (time_fits z h) h

-- a value that may be missing
maybe_again : {A : Type 0} (Fits : A → Type 0) (spell : A → List ℕ) (one : List ℕ → Option (A × List ℕ)) →
    ((x : A) (rest : List ℕ) → Fits x → one (spell x ++ rest) ≡ Some (x, rest))
    → (o : Option A) (rest : List ℕ) → ForSome o Fits → option_at one (option spell o ++ rest) ≡ Some (o, rest)
maybe_again Fits spell one again None rest h = none_again spell one rest
maybe_again Fits spell one again (Some x) rest h = some_again spell one x rest (again x rest (h x refl))

-- ---- lines

run_again : (run : Line) (rest : List ℕ) → IsRun run → IsShort run.bytes → run_at (line_bytes run ++ rest) ≡ Some (run, rest)
unfolding run_at line_bytes
run_again run rest h short =
    let some : (length run.bytes ≡ 0 → ⊥) = λ e. omega (arith, h.some, e) in
    ap run_at (append_assoc (signed run.moment) (string run.bytes) rest)
    ∙ rw (
      moment_again run.moment (string run.bytes ++ rest) h.moment,
      string_again run.bytes rest short,
      ne_eqb (length run.bytes) 0 some,
    ) refl

run_list_again : (runs : List Line) (rest : List ℕ) → AllByRecursion IsRun runs → length (dated_of runs) ≤ 16383 →
    run_list_at (length runs) (flat_map line_bytes runs ++ rest) ≡ Some (runs, rest)
unfolding run_list_at
run_list_again [] rest each few = refl
run_list_again (run ∷ runs) rest each few =
    let size = length-dated_of run runs in
    let split : flat_map line_bytes (run ∷ runs) ++ rest ≡ line_bytes run ++ (flat_map line_bytes runs ++ rest) =
    ap (λ (l : List ℕ). l ++ rest) (flat_map-cons line_bytes run runs)
    ∙ append_assoc (line_bytes run) (flat_map line_bytes runs) rest in
    ap (run_list_at (length (run ∷ runs))) split
    ∙ rw (
      run_again run (flat_map line_bytes runs ++ rest) each.0 (omega (arith, size, few)),
      run_list_again runs rest each.1 (omega (arith, size, few)),
    ) refl

runs_again : (runs : List Line) (rest : List ℕ) → AreRuns runs → runs_at (runs_bytes runs ++ rest) ≡ Some (runs, rest)
unfolding runs_at runs_bytes
runs_again runs rest h =
    let short : length runs < 2 ^ 32 = omega (arith, length_runs runs h.each, h.few) in
    ap runs_at (append_assoc (four (length runs)) (flat_map line_bytes runs) rest)
    ∙ rw (four_again (length runs) (flat_map line_bytes runs ++ rest) short, run_list_again runs rest h.each h.few, fit_of_runs runs h) refl

open_line_again : (most : ℕ) → most ≤ 1048577 → (line : Line) (rest : List ℕ) → IsOpenLine most line →
    open_line_at most (line_bytes line ++ rest) ≡ Some (line, rest)
unfolding open_line_at
open_line_again most small line rest h =
    rw (run_again line rest h.run (omega (arith, h.few, small)), le-leb (length line.bytes) most h.few) refl

pub line_parts_again : (most : ℕ) → most ≤ 1048577 → (parts : LineParts) (rest : List ℕ) → AreRuns parts.pending →
    ForSome parts.line (λ line. IsOpenLine most line)
    → line_parts_at most (line_parts_bytes parts ++ rest) ≡ Some (parts, rest)
unfolding line_parts_at line_parts_bytes
line_parts_again most small parts rest pending line =
    let split : line_parts_bytes parts ++ rest ≡ option byte parts.before
    ++ (runs_bytes parts.pending ++ (option line_bytes parts.line ++ rest)) = simp append_assoc in
    ap (line_parts_at most) split
    ∙ rw (
      maybe_again (λ (n : ℕ). Unit {0}) byte byte_at (λ n more h. byte_again n more) parts.before (runs_bytes parts.pending
          ++ (option line_bytes parts.line ++ rest)) (λ x e. tt),
      runs_again parts.pending (option line_bytes parts.line ++ rest) pending,
      maybe_again (λ (l : Line). IsOpenLine most l) line_bytes (open_line_at most) (open_line_again most small) parts.line rest line,
    ) refl

-- ---- merging

record FitsEvent (max : ℕ) (event : Whole) : Type 0 where
  numbers : IsEvent event
  sized : merged.IsSized max event

event_again : (max : ℕ) (event : Whole) (rest : List ℕ) → FitsEvent max event →
    event_at max (event_bytes event ++ rest) ≡ Some (event, rest)
unfolding event_at event_bytes
event_again max event rest h =
    let split : event_bytes event ++ rest ≡ signed event.moment ++ (four event.lines ++ (string event.raw ++ rest)) = simp append_assoc in
    ap (event_at max) split
    ∙ rw (
      moment_again event.moment (four event.lines ++ (string event.raw ++ rest)) h.numbers.moment,
      four_again event.lines (string event.raw ++ rest) h.numbers.lines,
      string_again event.raw rest (omega (arith, h.sized.few_bytes)),
      le-leb 1 event.lines h.sized.some_line,
      le-leb event.lines max h.sized.few_lines,
      le-leb (length event.raw) 4194304 h.sized.few_bytes,
    ) refl

nothing_off : (on : Bool) (parts : MergeParts) → OnFalse on (parts ≡ merged.nothing_open) → (not on && is_something parts) ≡ false
nothing_off true parts off = refl
nothing_off false parts off = ap is_something off

pub merge_parts_again : (on : Bool) (max : ℕ) (parts : MergeParts) (rest : List ℕ) → merged.HasForm on max parts →
    ForSome parts.event (λ event. IsEvent event)
    → merge_parts_at on max (merge_parts_bytes parts ++ rest) ≡ Some (parts, rest)
unfolding merge_parts_at merge_parts_bytes
merge_parts_again on max parts rest form numbers =
    let split : merge_parts_bytes parts ++ rest ≡ option event_bytes parts.event ++ (flag parts.held ++ (flag parts.forced ++ rest)) =
    simp append_assoc in
    ap (merge_parts_at on max) split
    ∙ rw (
      maybe_again (FitsEvent max) event_bytes (event_at max) (event_again max) parts.event (flag parts.held
          ++ (flag parts.forced ++ rest)) (λ x e. record { numbers = numbers x e; sized = form.sized x e }),
      flag_again parts.held (flag parts.forced ++ rest),
      flag_again parts.forced rest,
      nothing_off on parts form.off,
    ) refl

-- ---- the time

pub latest_again : (latest : Option ℤ) (rest : List ℕ) → ForSome latest (λ time. IsTime time) →
    option_at time_at (option signed latest ++ rest) ≡ Some (latest, rest)
latest_again latest rest h = maybe_again IsTime signed time_at time_again latest rest h
