-- What is carried of a channel has far fewer than 2^32 bytes.
use Rattle.std.proofs.Common.{◌≡◌, ℕ, ℤ, ◌+◌, ◌*◌, ◌<◌, ◌≤◌, ◌^◌, Bool, true, false, List, [], ◌∷◌, ◌++◌, length, refl, sym, subst, arith}
use Rattle.std.proofs.Common.{length-append}
use Rattle.std.specs.Prelude.{Option, Some, None, ◌==◌, ◌||◌, nat_lt}
use Rattle.std.specs.List.{flat_map}
use Rattle.std.specs.Option.{ForSome}
use Rattle.std.proofs.lemmas.Bool.{ltb-false}
use Rattle.ix_base.specs.declared.events.Line.{Line}
use Rattle.ix_parse.specs.Form.{HasForm, IsCarryOf}
use Rattle.ix_parse.specs.Spelling.{line_bytes, runs_bytes, event_bytes, line_parts_bytes, merge_parts_bytes, spell}
use Rattle.ix_parse.specs.declared.carry.Carry.{Carry}
use Rattle.ix_parse.specs.declared.carry.CarryRules.{CarryRules}
use Rattle.ix_parse.proofs.Runs.{length-dated_of, length_runs}
use Rattle.ix_coding.specs.Spelling.{byte, four, signed, flag, string, option}
use Rattle.ix_lines.specs.Carry.{dated_of}
use Rattle.ix_lines.specs.Lines.{effective}
use Rattle.ix_merge.specs.declared.events.Whole.{Whole}
use Rattle.ix_model.proofs.Named.{by_test}

length_four : (n : ℕ) → length (four n) ≡ 4
unfolding four
length_four n = refl

length_signed : (z : ℤ) → length (signed z) ≡ 8
unfolding signed
length_signed z = refl

pub length_byte : (n : ℕ) → length (byte n) ≡ 1
unfolding byte
length_byte n = refl

pub length_flag : (b : Bool) → length (flag b) ≡ 1
unfolding flag byte
length_flag true = refl
length_flag false = refl

pub length_string : (text : List ℕ) → length (string text) ≡ 4 + length text
unfolding string
length_string text = omega (arith, length-append (four (length text)) text, length_four (length text))

length_option : {A : Type 0} (write : A → List ℕ) (o : Option A) (n : ℕ) → ForSome o (λ (x : A). length (write x) ≤ n) →
    length (option write o) ≤ 1 + n
unfolding option
length_option write None n h = omega (arith, length_flag false)
length_option write (Some x) n h = omega (arith, length-append (flag true) (write x), length_flag true, h x refl)

-- ---- parts

length_line : (line : Line) → length (line_bytes line) ≡ 12 + length line.bytes
unfolding line_bytes
length_line line = omega (
  arith,
  length-append (signed line.moment) (string line.bytes),
  length_signed line.moment,
  length_string line.bytes,
)

length_lines : (runs : List Line) → length (flat_map line_bytes runs) ≡ 12 * length runs + length (dated_of runs)
length_lines [] = refl
length_lines (run ∷ runs) =
    omega (arith, length-append (line_bytes run) (flat_map line_bytes runs), length_line run, length-dated_of run runs, length_lines runs)

length_pending : (runs : List Line) → length (runs_bytes runs) ≡ 4 + 12 * length runs + length (dated_of runs)
unfolding runs_bytes
length_pending runs = omega (
  arith,
  length-append (four (length runs)) (flat_map line_bytes runs),
  length_four (length runs),
  length_lines runs,
)

length_event : (event : Whole) → length (event_bytes event) ≡ 16 + length event.raw
unfolding event_bytes
length_event event =
    omega (
      arith,
      length-append (signed event.moment ++ four event.lines) (string event.raw),
      length-append (signed event.moment) (four event.lines),
      length_signed event.moment,
      length_four event.lines,
      length_string event.raw,
    )

cut_at : (t : ℕ) → effective t ≤ 1048576
cut_at t =
    by_test ((t == 0) || nat_lt 1048576 t)
    (λ e. rw e (omega arith))
    (λ e. rw e (ltb-false 1048576 t (second (t == 0) (nat_lt 1048576 t) e)))
  where
    second : (a b : Bool) → (a || b) ≡ false → b ≡ false
    second true b h = cc
    second false b h = h

-- ---- all of it

module _ (rules : CarryRules) (carry : Carry) (h : HasForm rules carry) where
  before : length (option byte carry.lines.before) ≤ 2
  before = length_option byte carry.lines.before 1 (λ b e. omega (arith, length_byte b))

  pending : length (runs_bytes carry.lines.pending) ≤ 212983
  pending =
      let few = h.pending.few in
      let many = length_runs carry.lines.pending h.pending.each in
      omega (arith, length_pending carry.lines.pending, few, many)

  line : length (option line_bytes carry.lines.line) ≤ 1048590
  line = length_option line_bytes carry.lines.line 1048589
      (λ l e. (let few = (h.line l e).few in omega (arith, length_line l, few, cut_at rules.truncate)))

  event : length (option event_bytes carry.merge.event) ≤ 4194321
  event = length_option event_bytes carry.merge.event 4194320
      (λ w e. (let few = (h.merge.sized w e).few_bytes in omega (arith, length_event w, few)))

  latest : length (option signed carry.latest) ≤ 9
  latest = length_option signed carry.latest 8 (λ z e. omega (arith, length_signed z))

  all : length (spell carry) < 2 ^ 32
  unfolding spell line_parts_bytes merge_parts_bytes
  all =
      omega (
        arith,
        length-append (line_parts_bytes carry.lines ++ merge_parts_bytes carry.merge) (option signed carry.latest),
        length-append (line_parts_bytes carry.lines) (merge_parts_bytes carry.merge),
        length-append (option byte carry.lines.before ++ runs_bytes carry.lines.pending) (option line_bytes carry.lines.line),
        length-append (option byte carry.lines.before) (runs_bytes carry.lines.pending),
        length-append (option event_bytes carry.merge.event ++ flag carry.merge.held) (flag carry.merge.forced),
        length-append (option event_bytes carry.merge.event) (flag carry.merge.held),
        length_flag carry.merge.held,
        length_flag carry.merge.forced,
        before,
        pending,
        line,
        event,
        latest,
      )

pub short_carry : (rules : CarryRules) (bytes : List ℕ) (carry : Carry) → IsCarryOf rules bytes carry → length bytes < 2 ^ 32
short_carry rules bytes carry is = subst (λ (b : List ℕ). length b < 2 ^ 32) (sym is.spelled) (all rules carry is.form)
